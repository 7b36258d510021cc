-- For n = 1, the list read back from the bytes of the result is the one reading. Assumes nothing.
use mathlib.Core.Path.{◌≡◌, refl, sym, ap, ap₂, ◌∙◌}
use mathlib.Core.Bool.{Bool, cond}
use mathlib.Core.Option.{Option, none, some}
use mathlib.Core.List.{List, [], ◌∷◌, ◌++◌, map, map-map, map-id, reverse, reverse-append, reverse-reverse}
use Prim.Native.Nat.{ℕ, zero, suc, ◌+◌, ◌-◌, ◌^◌, ◌≤◌, ◌<◌}
use native.Mathlib.Omega.{arith}
use lib.ListN.{length, get_or, take, length-map, length-reverse, length-replicate, get_or-replicate}
use lib.Seq.{take-suc, take-length}
use borrow.Author.Tests.{eq-eqb, ne_eqb}
use Rattle.tropical_weight.specs.Tropical.{Tropical}
use Rattle.sheet.specs.Sheet.{Parts, unit_fields, no_start, link_count, node_count, next, mark}
use Rattle.sheet.specs.Machine.{Link, Machine, parts_for}
use Rattle.sheet.proofs.Round.{Below}
use Rattle.sheet.proofs.Encoding.{Writable, nodes-are, links-are, start_is, next-is, mark-some, mark-none, source_of}
use Rattle.machine.specs.Readings.{Reading, link, no_link, final}
use Rattle.machine.specs.Demand.{◌∈◌}
use Rattle.machine.proofs.Lists.{mem-reverse, get_or-mem, get_d_map}
use Rattle.search.specs.ListMachine.{moved, back_links, best_result, word_for, result_bytes}
use Rattle.search.specs.Listed.{links_from, along, way_from, one_way, list_of}
use Rattle.search.proofs.Results.{Labels, labels-all, Storable, read_result, source_at, out_one, repeated-is}

-- The fields of the result hold what it has: 2 ^ 28 links make 2 ^ 32 bytes.
pub record OneFits (m : Machine) (x : Reading) : Type 0 where
  pub labels : Labels m
  pub few : length x.run < 2 ^ 28
  pub inputs : (l : ℕ) → l ∈ x.run → l < no_start
  pub unit-word : Below 4294967296 (unit_fields m.form)

-- ---- the links by number
length_back : (m : Machine) (s : ℕ) (ls : List ℕ) → length (back_links m s ls) ≡ length ls
unfolding back_links
length_back m s [] = refl
length_back m s (l ∷ ls) = ap suc (length_back m (suc s) ls)

back_at : (m : Machine) (s : ℕ) (ls : List ℕ) (i : ℕ) (d : Link) → i < length ls → get_or (back_links m s ls) i d ≡ moved (link m (get_or ls i 0)) (s + i) (s + i - 1)
unfolding back_links
back_at m s [] i d h = absurd (omega arith)
back_at m s (l ∷ ls) zero d h = ap (λ (n : ℕ). moved (link m l) n (n - 1)) (let z : s ≡ s + 0 = omega arith in z)
back_at m s (l ∷ ls) (suc i) d h = back_at m (suc s) ls i d (omega arith) ∙ ap (λ (n : ℕ). moved (link m (get_or ls i 0)) n (n - 1)) (let z : suc s + i ≡ s + suc i = omega arith in z)

abbrev way_back : Machine → Reading → Machine
way_back m x = (best_result m x).machine

module _ (m : Machine) (x : Reading) where
  pub links-long : length (way_back m x).links ≡ length x.run
  links-long = length_back m 1 (reverse x.run) ∙ length-reverse x.run

  pub nodes-long : length (way_back m x).finals ≡ suc (length x.run)
  nodes-long = ap suc (length-replicate {A = Option Tropical} (length x.run) none)

  pub link_at : (l : ℕ) (d : Link) → l < length x.run → get_or (way_back m x).links l d ≡ moved (link m (get_or (reverse x.run) l 0)) (suc l) l
  link_at l d h = back_at m 1 (reverse x.run) l d (omega (arith, length-reverse x.run)) ∙ ap₂ (moved (link m (get_or (reverse x.run) l 0))) (let z : 1 + l ≡ suc l = omega arith in z) (let z : 1 + l - 1 ≡ l = omega arith in z)

  source-at : (l : ℕ) (d : Link) → l < length x.run → (get_or (way_back m x).links l d).source ≡ suc l
  source-at l d h = ap (λ (k : Link). k.source) (link_at l d h)

  pub words_are : map word_for (best_result m x).repeats ≡ reverse x.run
  words_are = map-map word_for some (reverse x.run) ∙ map-id (reverse x.run)

module _ (m : Machine) (x : Reading) (f : OneFits m x) where
  pub word_fits : (l : ℕ) → l < length x.run → get_or (reverse x.run) l 0 < no_start
  word_fits l h = f.inputs (get_or (reverse x.run) l 0) (mem-reverse x.run (get_or-mem (reverse x.run) l 0 (omega (arith, length-reverse x.run))))

  pub best-storable : Storable (best_result m x)
  best-storable = record {
    machine-fits = record {
      each = λ l d h.
          let b : l < length x.run = omega (arith, links-long m x) in
          let e = link_at m x l d b in
          let r = labels-all m f.labels (get_or (reverse x.run) l 0) in
          record {
            source_in = omega (arith, ap (λ (k : Link). k.source) e, nodes-long m x);
            ilabel-fits = omega (arith, ap (λ (k : Link). k.ilabel) e, r.0);
            olabel-fits = omega (arith, ap (λ (k : Link). k.olabel) e, r.1);
            next_fits = omega (arith, ap (λ (k : Link). k.next) e, f.few);
          };
      by-source = λ k l d a b. omega (arith, source-at m x k d (omega (arith, links-long m x)), source-at m x l d (omega (arith, links-long m x)));
      start_fits_lem = omega (arith, f.few);
      few-nodes = omega (arith, nodes-long m x, f.few);
      few-links = omega (arith, links-long m x, f.few);
      unit-word = f.unit-word;
    };
    word_each = length-map {B = Option ℕ} (reverse x.run) some ∙ length-reverse x.run ∙ sym (links-long m x);
    inputs-fit = λ i l h e.
        let b : i < length x.run = omega (arith, length-map {B = Option ℕ} (reverse x.run) some, length-reverse x.run) in
        let q : some (get_or (reverse x.run) i 0) ≡ some l = sym (get_d_map some (reverse x.run) i 0 none (omega (arith, length-reverse x.run))) ∙ e in
        let z : get_or (reverse x.run) i 0 ≡ l = cc in
        omega (arith, word_fits i b);
  }

-- ---- along the one way
abbrev fields : Machine → Reading → Parts
fields m x = parts_for (way_back m x)

module _ (m : Machine) (x : Reading) (f : OneFits m x) (w : Tropical) (marked : final m x.end ≡ some w) where
  writable : Writable (way_back m x)
  writable = (best-storable m x f).machine-fits

  abbrev ws : List ℕ
  ws = reverse x.run

  count-links : link_count (fields m x) ≡ length x.run
  count-links = links-are (way_back m x) ∙ links-long m x

  source-here : (l : ℕ) → l < length x.run → source_at (fields m x) ws l ≡ suc l
  source-here l h = source_of (way_back m x) writable l no_link (omega (arith, links-long m x)) ∙ source-at m x l no_link h

  link-out : (l : ℕ) → l < length x.run → links_from (fields m x) ws (suc l) ≡ l ∷ []
  link-out l h = out_one (fields m x) ws (suc l) (link_count (fields m x)) l (omega (arith, count-links)) (source-here l h) (λ i b e. omega (arith, source-here i (omega (arith, count-links))))

  mark-end : mark (fields m x) 0 ≡ 1
  mark-end = mark-some (way_back m x) 0 (omega (arith, nodes-long m x)) w marked

  mark-other : (l : ℕ) → l < length x.run → mark (fields m x) (suc l) ≡ 0
  mark-other l h = mark-none (way_back m x) (suc l) (omega (arith, nodes-long m x)) (get_or-replicate (length x.run) l none none h)

  -- from state q the first q links remain, the last of them first
  way-is : (q k : ℕ) → q < k → q ≤ length x.run → way_from (fields m x) ws k q ≡ reverse (take q ws)
  unfolding way_from
  way-is zero zero h b = absurd (omega arith)
  way-is zero (suc k) h b =
      ap (λ (t : Bool). cond t [] (along (fields m x) ws (way_from (fields m x) ws k) (links_from (fields m x) ws 0))) (eq-eqb (mark (fields m x) 0) 1 mark-end)
  way-is (suc q) zero h b = absurd (omega arith)
  way-is (suc q) (suc k) h b =
      ap₂ (λ (t : Bool) (ls : List ℕ). cond t [] (along (fields m x) ws (way_from (fields m x) ws k) ls)) (ne_eqb (mark (fields m x) (suc q)) 1 (λ z. omega (arith, z, mark-other q b))) (link-out q b)
      ∙ repeated-is (fields m x) ws (some (get_or ws q 0)) q (way_from (fields m x) ws k (next (fields m x) q)) (λ a e. let z : get_or ws q 0 ≡ a = cc in omega (arith, word_fits m x f q b)) refl
      ∙ ap (λ (v : ℕ). get_or ws q 0 ∷ way_from (fields m x) ws k v) (next-is (way_back m x) q no_link (omega (arith, links-long m x)) ∙ ap (λ (k : Link). k.next) (link_at m x q no_link b))
      ∙ ap (λ (r : List ℕ). get_or ws q 0 ∷ r) (way-is q k (omega arith) (omega arith))
      ∙ sym (ap reverse (take-suc ws q 0 (omega (arith, length-reverse x.run))) ∙ reverse-append (take q ws) (get_or ws q 0 ∷ []))

  one_way_lem : one_way (fields m x) ws ≡ x.run ∷ []
  one_way_lem =
      let n : node_count (fields m x) ≡ suc (length x.run) = nodes-are (way_back m x) ∙ nodes-long m x in
      ap₂ (λ (t : Bool) (q : ℕ). cond t [] (way_from (fields m x) ws (node_count (fields m x)) q ∷ [])) (ne_eqb (node_count (fields m x)) 0 (λ z. omega (arith, z, n))) (start_is (way_back m x))
      ∙ ap (λ (r : List ℕ). r ∷ []) (way-is (length x.run) (node_count (fields m x)) (omega arith) (omega arith)
      ∙ ap reverse (ap (λ (k : ℕ). take k ws) (sym (length-reverse x.run)) ∙ take-length ws) ∙ reverse-reverse x.run)

  -- the list read back is the one reading
  pub best-back : (rest : List ℕ) → list_of m.form 1 (length (best_result m x).machine.finals) (length (best_result m x).machine.links) (result_bytes (best_result m x) ++ rest) ≡ x.run ∷ []
  best-back rest = read_result (best_result m x) (best-storable m x f) rest 1 ∙ ap (one_way (fields m x)) (words_are m x) ∙ one_way_lem
