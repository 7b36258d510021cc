-- The verdict on a sheet, by the fields that the passes take. Assumes nothing.
use mathlib.Core.Path.{◌≡◌, refl, sym, ap, ap₂, ◌∙◌}
use mathlib.Core.Bool.{Bool, true, false, ◌&&◌, ◌||◌}
use mathlib.Core.List.{List, ◌∷◌}
use Prim.Native.Nat.{ℕ, zero, suc, ◌+◌, ◌-◌, ◌*◌, ◌/◌, ◌≤◌, ◌<◌}
use native.Mathlib.Nat.{add-zero}
use native.Mathlib.Omega.{arith}
use lib.Dec.{T, ltb, eqb}
use lib.ListN.{length, take, drop, get_or}
use borrow.Author.Tests.{lt-leb, le-leb}
use Rattle.sheet.specs.declared.tr.Trailer.{Trailer}
use Rattle.sheet.specs.declared.tests.NodeTests.{NodeTests}
use Rattle.sheet.specs.declared.tests.LinkTests.{LinkTests}
use Rattle.sheet.specs.Below.{all_below, sum_below}
use Rattle.sheet.specs.Words.{word, words}
use Rattle.sheet.specs.Sheet.{Parts, link_count, node_count, count, mark, final_bits, link_bits, next, well_marked, start_fits, weight_fits, nodes_fit, nexts_fit, weights_fit, unit_of, unit_fits, laid_out, form_of, short_trailer, trailer_size, link_length, node_length, verdict, parts_of, sizes_fit, read_number, stated_links, stated_nodes, trailer_field}
use Rattle.sheet.specs.Records.{trailer_at}
use Rattle.sheet.specs.Tests.{node_tests, link_tests, judged}
use Rattle.sheet.proofs.Below.{all_below-same, sum_below-same}
use Rattle.sheet.proofs.Forms.{laid-out, size-least, size-within}
use Rattle.sheet.proofs.Passes.{first_failing}

-- ---- words one after the other
pub length-words : (bytes : List ℕ) (at n : ℕ) → length (words bytes at n) ≡ n
unfolding words
length-words bytes at zero = refl
length-words bytes at (suc n) = ap suc (length-words bytes (at + 4) n)

pub get_d_words : (bytes : List ℕ) (at n i : ℕ) → i < n → get_or (words bytes at n) i 0 ≡ word bytes (at + 4 * i)
unfolding words
get_d_words bytes at zero i h = elim h [ ]
get_d_words bytes at (suc n) zero h = ap (word bytes) (sym (add-zero at))
get_d_words bytes at (suc n) (suc i) h = get_d_words bytes (at + 4) n i (omega arith) ∙ ap (word bytes) (let e : at + 4 + 4 * i ≡ at + 4 * suc i = omega arith in e)

-- the first of them, and those that follow
pub take-words : (bytes : List ℕ) (at n k : ℕ) → k ≤ n → take k (words bytes at n) ≡ words bytes at k
unfolding words
take-words bytes at n zero h = refl
take-words bytes at zero (suc k) h = absurd (omega arith)
take-words bytes at (suc n) (suc k) h = ap (λ (r : List ℕ). word bytes at ∷ r) (take-words bytes (at + 4) n k (omega arith))

pub drop-words : (bytes : List ℕ) (at n k : ℕ) → k ≤ n → drop k (words bytes at n) ≡ words bytes (at + 4 * k) (n - k)
unfolding words
drop-words bytes at n zero h = ap₂ (words bytes) (sym (add-zero at)) (let e : n ≡ n - 0 = omega arith in e)
drop-words bytes at zero (suc k) h = absurd (omega arith)
drop-words bytes at (suc n) (suc k) h = drop-words bytes (at + 4) n k (omega arith) ∙ ap₂ (words bytes) (let e : at + 4 + 4 * k ≡ at + 4 * suc k = omega arith in e) (let e : n - k ≡ suc n - suc k = omega arith in e)

-- ---- parts whose fields are these functions, where they are asked
pub record Fields (p : Parts) (T N : ℕ) (counts marks finals bits nexts : ℕ → ℕ) : Type 0 where
  pub links-are : link_count p ≡ T
  pub nodes-are : node_count p ≡ N
  pub count-is : (v : ℕ) → v < N → count p v ≡ counts v
  pub mark-is : (v : ℕ) → v < N → mark p v ≡ marks v
  pub final-is : (v : ℕ) → v < N → final_bits p v ≡ finals v
  pub bits_is : (l : ℕ) → l < T → link_bits p l ≡ bits l
  pub next-is : (l : ℕ) → l < T → next p l ≡ nexts l

pub verdict-judged : (p : Parts) (T N : ℕ) (counts marks finals bits nexts : ℕ → ℕ) → Fields p T N counts marks finals bits nexts
    → verdict true p ≡ judged (node_tests (unit_of p.form) N counts marks finals) (link_tests (unit_of p.form) T N bits nexts) T N p.start p.form
unfolding verdict nodes_fit nexts_fit weights_fit
verdict-judged p T N counts marks finals bits nexts f = λ i. first_failing (marked i) (unit_fits p.form) (start_fits (f.nodes-are i) p.start) (below i) (weighed i)
  where
    marked : nodes_fit p ≡ all_below N (λ v. well_marked (marks v) (finals v)) && eqb (sum_below N counts) T
    marked =
        (λ i. all_below (f.nodes-are i) (λ v. well_marked (mark p v) (final_bits p v)) && eqb (sum_below (f.nodes-are i) (count p)) (f.links-are i))
        ∙ (λ i. all_below-same N (λ v. well_marked (mark p v) (final_bits p v)) (λ v. well_marked (marks v) (finals v)) (λ v h j. well_marked (f.mark-is v h j) (f.final-is v h j)) i
        && eqb (sum_below-same N (count p) counts f.count-is i) T)

    below : nexts_fit p ≡ all_below T (λ l. ltb (nexts l) N)
    below =
        (λ i. all_below (f.links-are i) (λ l. ltb (next p l) (f.nodes-are i)))
        ∙ all_below-same T (λ l. ltb (next p l) N) (λ l. ltb (nexts l) N) (λ l h j. ltb (f.next-is l h j) N)

    weighed : weights_fit p ≡ all_below T (λ l. weight_fits (unit_of p.form) (bits l)) && all_below N (λ v. eqb (marks v) 0 || weight_fits (unit_of p.form) (finals v))
    weighed =
        (λ i. all_below (f.links-are i) (λ l. weight_fits (unit_of p.form) (link_bits p l)) && all_below (f.nodes-are i) (λ v. eqb (mark p v) 0 || weight_fits (unit_of p.form) (final_bits p v)))
        ∙ (λ i. all_below-same T (λ l. weight_fits (unit_of p.form) (link_bits p l)) (λ l. weight_fits (unit_of p.form) (bits l)) (λ l h j. weight_fits (unit_of p.form) (f.bits_is l h j)) i
        && all_below-same N (λ v. eqb (mark p v) 0 || weight_fits (unit_of p.form) (final_bits p v)) (λ v. eqb (marks v) 0 || weight_fits (unit_of p.form) (finals v)) (λ v h j. eqb (f.mark-is v h j) 0 || weight_fits (unit_of p.form) (f.final-is v h j)) i)

-- ---- reading
module _ (bytes : List ℕ) where
  at_field : (from n i k : ℕ) → i < n → from + 4 * i ≡ k → get_or (words bytes from n) i 0 ≡ word bytes k
  at_field from n i k h e = get_d_words bytes from n i h ∙ ap (word bytes) e

  pub read-fields : Fields (parts_of bytes) (stated_links bytes) (stated_nodes bytes)
      (λ v. word bytes (link_length * stated_links bytes + node_length * v)) (λ v. word bytes (link_length * stated_links bytes + node_length * v + 4)) (λ v. word bytes (link_length * stated_links bytes + node_length * v + 8))
      (λ l. word bytes (link_length * l + 8)) (λ l. word bytes (link_length * l + 12))
  unfolding parts_of
  read-fields =
      let t = stated_links bytes in
      let n = stated_nodes bytes in
      record {
        links-are = ap (λ (k : ℕ). k / 4) (length-words bytes 0 (4 * t)) ∙ cut-4 t;
        nodes-are = ap (λ (k : ℕ). k / 3) (length-words bytes (link_length * t) (3 * n)) ∙ cut-3 n;
        count-is = λ v h. at_field (link_length * t) (3 * n) (3 * v) (link_length * t + node_length * v) (omega arith) (omega arith);
        mark-is = λ v h. at_field (link_length * t) (3 * n) (3 * v + 1) (link_length * t + node_length * v + 4) (omega arith) (omega arith);
        final-is = λ v h. at_field (link_length * t) (3 * n) (3 * v + 2) (link_length * t + node_length * v + 8) (omega arith) (omega arith);
        bits_is = λ l h. at_field 0 (4 * t) (4 * l + 2) (link_length * l + 8) (omega arith) (omega arith);
        next-is = λ l h. at_field 0 (4 * t) (4 * l + 3) (link_length * l + 12) (omega arith) (omega arith);
      }
    where
      cut-4 : (t : ℕ) → 4 * t / 4 ≡ t
      cut-4 t = omega arith

      cut-3 : (n : ℕ) → 3 * n / 3 ≡ n
      cut-3 n = omega arith

  -- the number, by what the passes over the bytes find, and by the trailer that was read
  pub read-judged : sizes_fit bytes ≡ true → (t : Trailer) → t ≡ trailer_at bytes → (n : NodeTests) (l : LinkTests) (k : ℕ)
      → n ≡ node_tests (unit_of t.form) t.nodes (λ v. word bytes (link_length * t.links + node_length * v)) (λ v. word bytes (link_length * t.links + node_length * v + 4)) (λ v. word bytes (link_length * t.links + node_length * v + 8))
      → l ≡ link_tests (unit_of t.form) t.links t.nodes (λ l. word bytes (link_length * l + 8)) (λ l. word bytes (link_length * l + 12))
      → k ≡ judged n l t.links t.nodes t.start t.form
      → read_number bytes ≡ k
  unfolding read_number parts_of
  read-judged s t same n l k nodes links number =
      ap (λ (b : Bool). verdict b (parts_of bytes)) s
      ∙ verdict-judged (parts_of bytes) (stated_links bytes) (stated_nodes bytes) (λ v. word bytes (link_length * stated_links bytes + node_length * v)) (λ v. word bytes (link_length * stated_links bytes + node_length * v + 4))
      (λ v. word bytes (link_length * stated_links bytes + node_length * v + 8)) (λ l. word bytes (link_length * l + 8)) (λ l. word bytes (link_length * l + 12)) read-fields
      ∙ sym (number ∙ (λ i. judged (nodes i) (links i) t.links t.nodes t.start t.form) ∙ (λ i. found (same i)))
    where
      found : Trailer → ℕ
      found t =
          judged
          (node_tests (unit_of t.form) t.nodes (λ v. word bytes (link_length * t.links + node_length * v)) (λ v. word bytes (link_length * t.links + node_length * v + 4)) (λ v. word bytes (link_length * t.links + node_length * v + 8)))
          (link_tests (unit_of t.form) t.links t.nodes (λ l. word bytes (link_length * l + 8)) (λ l. word bytes (link_length * l + 12)))
          t.links t.nodes t.start t.form

  pub read-unfit : sizes_fit bytes ≡ false → read_number bytes ≡ 1
  unfolding read_number verdict
  read-unfit s = ap (λ (b : Bool). verdict b (parts_of bytes)) s

  -- what the tests of sizes say
  pub sizes-short : length bytes < short_trailer → sizes_fit bytes ≡ false
  unfolding laid_out
  sizes-short h =
      ap (λ (b : Bool). b && eqb (trailer_field bytes 0) 0 && eqb (trailer_field bytes 1) (link_length * stated_links bytes) && eqb (length bytes) (link_length * stated_links bytes + node_length * stated_nodes bytes + trailer_size bytes))
      (lt-leb (trailer_size bytes) (length bytes) (omega (arith, size-least (form_of bytes))))

  pub sizes-long : short_trailer ≤ length bytes
      → sizes_fit bytes ≡ eqb (trailer_field bytes 0) 0 && eqb (trailer_field bytes 1) (link_length * stated_links bytes) && eqb (length bytes) (link_length * stated_links bytes + node_length * stated_nodes bytes + trailer_size bytes)
  unfolding laid_out
  sizes-long h =
      ap (λ (b : Bool). b && eqb (trailer_field bytes 0) 0 && eqb (trailer_field bytes 1) (link_length * stated_links bytes) && eqb (length bytes) (link_length * stated_links bytes + node_length * stated_nodes bytes + trailer_size bytes))
      (le-leb (trailer_size bytes) (length bytes) (size-within bytes h))

  pub length-read : sizes_fit bytes ≡ true → length bytes ≡ link_length * stated_links bytes + node_length * stated_nodes bytes + trailer_size bytes
  length-read e = (laid-out (trailer_size bytes) bytes e).size_is

  pub read_fits : read_number bytes ≡ 0 → sizes_fit bytes ≡ true
  read_fits e = go (sizes_fit bytes) refl
    where
      go : (b : Bool) → sizes_fit bytes ≡ b → b ≡ true
      go true q = refl
      go false q = absurd (omega (arith, sym (read-unfit q) ∙ e))
