-- What testing the input answers, by the tests that the code makes. Assumes nothing.
use mathlib.Core.Path.{◌≡◌, refl, sym, ap, ◌∙◌, subst}
use mathlib.Core.Bool.{Bool, true, false, not, ◌&&◌, cond, and-true}
use mathlib.Core.List.{List}
use Prim.Native.Nat.{ℕ, zero, suc, ◌+◌, ◌*◌, ◌≤◌, ◌<◌}
use native.Mathlib.Nat.{add-zero, le_of_lt}
use native.Mathlib.Omega.{arith}
use lib.Dec.{leb, ltb, eqb}
use lib.ListN.{length, get_or}
use borrow.Author.Tests.{ne_eqb}
use Rattle.tropical_weight.specs.Limits.{node_limit, link_limit}
use Rattle.std.specs.Prelude.{Err}
use Rattle.sheet.specs.declared.refusal.Refusal.{Refusal}
use Rattle.sheet.specs.Below.{all_below, sum_below}
use Rattle.sheet.specs.Words.{word}
use Rattle.sheet.specs.Sheet.{link_length, node_length, node_count, count, next, parts_of, sizes_fit, form_of, unit_fits, start_fits, nexts_fit, weights_fit, verdict, read_number, stated_links, stated_nodes, nodes_fit, trailer_field}
use Rattle.sheet.specs.Machine.{sources_below}
use Rattle.sheet.specs.Records.{trailer_at}
use Rattle.sheet.specs.Refusals.{number_of}
use Rattle.sheet.specs.Answers.{tested}
use Rattle.sheet.proofs.Refusals.{answer-err, refusal-told, number-positive, first-passed}
use Rattle.sheet.proofs.AcceptedSheet.{read-known, nodes-pass, trailer-stated}
use Rattle.sheet.proofs.Passes.{first_failing}
use Rattle.sheet.proofs.NodeSources.{first-total}
use Rattle.sheet.proofs.Below.{all_below-same, sum_below-same}
use Rattle.sheet.proofs.Fields.{read-fields, length-read, read_fits}
use Rattle.sheet.proofs.Below.{sum_mono}
use Rattle.sheet.proofs.Sources.{source_is, counts-sum}
use Rattle.machine.specs.Input.{counts_fit, links_climb, bounds_number, input_number}
use Rattle.machine.specs.Answers.{nodes_climb, input_answer}

-- ---- a test over a sum of counts, count by count
pub all_split : (a b : ℕ) (q : ℕ → Bool) → all_below (a + b) q ≡ all_below a q && all_below b (λ i. q (a + i))
unfolding all_below
all_split a zero q = ap (λ (k : ℕ). all_below k q) (add-zero a) ∙ sym (and-true (all_below a q))
all_split a (suc b) q =
    ap (λ (k : ℕ). all_below k q) (let e : a + suc b ≡ suc (a + b) = omega arith in e)
    ∙ ap (λ (t : Bool). t && q (a + b)) (all_split a b q)
    ∙ joined (all_below a q) (all_below b (λ i. q (a + i))) (q (a + b))
  where
    joined : (x y z : Bool) → x && y && z ≡ x && (y && z)
    joined true y z = refl
    joined false y z = refl

all-sums : (n : ℕ) (f : ℕ → ℕ) (q : ℕ → Bool) → all_below (sum_below n f) q ≡ all_below n (λ v. all_below (f v) (λ i. q (sum_below v f + i)))
unfolding all_below sum_below
all-sums zero f q = refl
all-sums (suc n) f q = all_split (sum_below n f) (f n) q ∙ ap (λ (t : Bool). t && all_below (f n) (λ i. q (sum_below n f + i))) (all-sums n f q)

-- ---- what reading found
module _ (bytes : List ℕ) where
  -- what reading refuses, the input is refused for
  pub read-refused : (r : Refusal) → read_number bytes ≡ number_of r → input_number bytes ≡ number_of r
  unfolding input_number
  read-refused r e = ap (λ (b : Bool). cond (not b) (read_number bytes) (bounds_number (parts_of bytes))) (ne_eqb (read_number bytes) 0 (λ z. number-positive r (sym e ∙ z))) ∙ e

  pub refused-reading : (r : Refusal) → tested bytes ≡ Err r → tested bytes ≡ input_answer bytes
  refused-reading r e =
      e ∙ sym (answer-err (trailer_at bytes) (input_number bytes) r (read-refused r (refusal-told (trailer_at bytes) (read_number bytes) (read-known bytes) r (sym e))))

  -- the numbers are those of tests 1 to 6, and 14
  pub input-most : input_number bytes ≤ 14
  unfolding input_number read_number verdict bounds_number
  input-most =
      let p = parts_of bytes in
      let bounds : bounds_number p ≤ 14 = most (not (counts_fit p)) 5 (cond (not (links_climb p)) 6 0) (omega arith) (most (not (links_climb p)) 6 0 (omega arith) (omega arith)) in
      most (not (eqb (read_number bytes) 0)) (read_number bytes) (bounds_number p) (read (sizes_fit bytes && nodes_fit p) (unit_fits p.form) (start_fits (node_count p) p.start) (nexts_fit p) (weights_fit p)) bounds
    where
      most : (b : Bool) (x y : ℕ) → x ≤ 14 → y ≤ 14 → cond b x y ≤ 14
      most true x y h k = h
      most false x y h k = k

      read : (a u b c d : Bool) → first_failing a u b c d ≤ 14
      read a u b c d = most (not a) 1 _ (omega arith) (most (not u) 14 _ (omega arith) (most (not b) 2 _ (omega arith) (most (not c) 3 _ (omega arith) (most (not d) 4 0 (omega arith) (omega arith)))))

  module _ (read : read_number bytes ≡ 0) where
    -- by the number of tests 5 and 6
    by-bounds : (k : ℕ) → bounds_number (parts_of bytes) ≡ k → input_number bytes ≡ k
    unfolding input_number
    by-bounds k e = first-passed (read_number bytes) (bounds_number (parts_of bytes)) read ∙ e

    pub input-5 : counts_fit (parts_of bytes) ≡ false → input_number bytes ≡ 5
    unfolding bounds_number
    input-5 e = by-bounds 5 (ap (λ (b : Bool). cond (not b) 5 (cond (not (links_climb (parts_of bytes))) 6 0)) e)

    pub input-6 : counts_fit (parts_of bytes) ≡ true → links_climb (parts_of bytes) ≡ false → input_number bytes ≡ 6
    unfolding bounds_number
    input-6 e h = by-bounds 6 (λ i. cond (not (e i)) 5 (cond (not (h i)) 6 0))

    pub input-passes : counts_fit (parts_of bytes) ≡ true → links_climb (parts_of bytes) ≡ true → input_number bytes ≡ 0
    unfolding bounds_number
    input-passes e h = by-bounds 0 (λ i. cond (not (e i)) 5 (cond (not (h i)) 6 0))

    pub counts-are : counts_fit (parts_of bytes) ≡ leb (stated_nodes bytes) node_limit && leb (stated_links bytes) link_limit
    counts-are = λ i. leb ((read-fields bytes).nodes-are i) node_limit && leb ((read-fields bytes).links-are i) link_limit

    nodes-fit : nodes_fit (parts_of bytes) ≡ true
    unfolding read_number
    nodes-fit = nodes-pass (sizes_fit bytes) (parts_of bytes) read

    pub counts-words : (v : ℕ) → v ≤ node_count (parts_of bytes) → sum_below v (count (parts_of bytes)) ≡ sum_below v (λ u. word bytes (link_length * stated_links bytes + node_length * u))
    counts-words v h = sum_below-same v (count (parts_of bytes)) (λ u. word bytes (link_length * stated_links bytes + node_length * u)) (λ u k. (read-fields bytes).count-is u (omega (arith, (read-fields bytes).nodes-are)))

    -- the counts add up to the links
    pub counts-total : sum_below (stated_nodes bytes) (λ u. word bytes (link_length * stated_links bytes + node_length * u)) ≡ stated_links bytes
    counts-total = first-total bytes (stated_links bytes) (stated_nodes bytes) (trailer_field bytes 4) (form_of bytes) read (trailer-stated bytes read)

    -- one link of node v, by its place among them
    one_link : (v i : ℕ) → v < node_count (parts_of bytes) → i < count (parts_of bytes) v
        → ltb (get_or (sources_below (parts_of bytes) (node_count (parts_of bytes))) (sum_below v (count (parts_of bytes)) + i) 0) (next (parts_of bytes) (sum_below v (count (parts_of bytes)) + i))
        ≡ ltb v (word bytes (link_length * (sum_below v (count (parts_of bytes)) + i) + 12))
    one_link v i h k =
        let P = parts_of bytes in
        let N = node_count P in
        let l = sum_below v (count P) + i in
        let up : l < sum_below (suc v) (count P) = omega (arith, next-sum v) in
        let in-links : l < stated_links bytes = omega (arith, sum_mono (count P) N (suc v) h, counts-sum P nodes-fit, (read-fields bytes).links-are) in
        λ j. ltb (source_is P N v l h (omega arith) up j) ((read-fields bytes).next-is l in-links j)
      where
        next-sum : (v : ℕ) → sum_below (suc v) (count (parts_of bytes)) ≡ sum_below v (count (parts_of bytes)) + count (parts_of bytes) v
        next-sum v = unfold sum_below in refl

    -- links that climb, node by node
    pub climb-same : links_climb (parts_of bytes) ≡ nodes_climb bytes (stated_links bytes) (stated_nodes bytes)
    unfolding links_climb
    climb-same =
        let P = parts_of bytes in
        let N = node_count P in
        let q : ℕ → Bool = λ l. ltb (get_or (sources_below P N) l 0) (next P l) in
        let w : ℕ → ℕ = λ u. word bytes (link_length * stated_links bytes + node_length * u) in
        ap (λ (n : ℕ). all_below n q) (sym (counts-sum P nodes-fit))
        ∙ all-sums N (count P) q
        ∙ all_below-same N (λ v. all_below (count P v) (λ i. q (sum_below v (count P) + i))) (λ v. all_below (w v) (λ i. ltb v (word bytes (link_length * (sum_below v w + i) + 12))))
        (λ v h. all_below-same (count P v) (λ i. q (sum_below v (count P) + i)) (λ i. ltb v (word bytes (link_length * (sum_below v (count P) + i) + 12))) (λ i k. one_link v i h k)
        ∙ λ j. all_below ((read-fields bytes).count-is v (subst (λ (n : ℕ). v < n) (read-fields bytes).nodes-are h) j) (λ i. ltb v (word bytes (link_length * (counts-words v (le_of_lt h) j + i) + 12))))
        ∙ ap (λ (n : ℕ). all_below n (λ v. all_below (w v) (λ i. ltb v (word bytes (link_length * (sum_below v w + i) + 12))))) (read-fields bytes).nodes-are

    -- the records lie in the sheet
    pub in-sheet : link_length * stated_links bytes + node_length * stated_nodes bytes ≤ length bytes
    in-sheet = omega (arith, length-read bytes (read_fits bytes read))
