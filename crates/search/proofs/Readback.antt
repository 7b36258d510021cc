-- From n = 2, the list read back from the bytes of a search's result is the list of the readings that the search listed. Assumes nothing.
use mathlib.Core.Path.{◌≡◌, refl, sym, ap, ap₂, ◌∙◌}
use mathlib.Core.Logic.{inl, inr}
use mathlib.Core.Bool.{Bool, cond}
use mathlib.Core.Option.{Option, none, some}
use mathlib.Core.List.{List, [], ◌∷◌, ◌++◌, map}
use Prim.Native.Nat.{ℕ, zero, suc, ◌+◌, ◌-◌, ◌^◌, ◌≤◌, ◌<◌}
use native.Mathlib.Omega.{arith}
use lib.ListN.{length, get_or, replicate, length-append, length-map, length-replicate, get_or-replicate, get_or-append}
use lib.Seq.{get_or-append-add}
use borrow.Author.Tests.{eq-eqb, ne_eqb}
use Rattle.tropical_weight.specs.Tropical.{Tropical, one}
use Rattle.sheet.specs.Below.{list_below}
use Rattle.sheet.specs.Sheet.{Parts, unit_fields, no_start, link_count, node_count, next, mark}
use Rattle.sheet.specs.Machine.{Link, Machine, parts_for}
use Rattle.sheet.proofs.Below.{split_at}
use Rattle.sheet.proofs.Round.{Below}
use Rattle.sheet.proofs.Encoding.{LinkFits, Writable, nodes-are, links-are, start_is, next-is, mark-some, mark-none, source_of}
use Rattle.machine.specs.Readings.{no_link}
use Rattle.machine.specs.Demand.{◌∈◌}
use Rattle.machine.proofs.Lists.{get_or-mem, get_d_map, map-places}
use Rattle.search.specs.Search.{Entry, half, finished, first, Search, with_input, run_of, runs}
use Rattle.search.specs.ListMachine.{link_by, word_for, result_bytes}
use Rattle.search.specs.States.{kept, state_of, later, start_link, entry_link, list_machine, list_result}
use Rattle.search.specs.Listed.{links_from, repeated, along, way_from, one_way, ways, list_of}
use Rattle.search.proofs.Mirror.{run-first}
use Rattle.search.proofs.Numbered.{Numbered}
use Rattle.search.proofs.OnWays.{came_from, OnWay, link_by-ends, way-listed, way-from, kept-le, kept_at, kept-place, state-pos, state-le, state-lt, state-in, state-at}
use Rattle.search.proofs.Results.{Labels, labels-all, Storable, read_result, source_at, out_one, out-front, repeated-is}

abbrev pub input_of : Search → ℕ → Option ℕ
input_of s j = (get_or s.entries j first).input

-- The fields of the result hold what it has: 2 ^ 28 links make 2 ^ 32 bytes.
pub record Fits (m : Machine) (s : Search) : Type 0 where
  pub labels : Labels m
  pub few : length s.listed + length s.entries ≤ 2 ^ 28
  pub inputs : (i l : ℕ) → i < length s.entries → input_of s i ≡ some l → l < no_start
  pub unit-word : Below 4294967296 (unit_fields m.form)

-- ---- the list machine by its numbers
module _ (m : Machine) (s : Search) where
  pub links-long : length (list_machine m s).links ≡ length s.listed + length (later s)
  links-long = length-append (map (start_link s) s.listed) (map (entry_link m s) (later s)) ∙ λ i. length-map s.listed (start_link s) i + length-map (later s) (entry_link m s) i

  pub nodes-long : length (list_machine m s).finals ≡ 2 + length (later s)
  nodes-long = omega (arith, length-replicate {A = Option Tropical} (length (later s)) none)

  pub link_start : (l : ℕ) (d : Link) → l < length s.listed → get_or (list_machine m s).links l d ≡ start_link s (get_or s.listed l 0)
  link_start l d h = get_or-append (map (start_link s) s.listed) (map (entry_link m s) (later s)) d l (omega (arith, length-map s.listed (start_link s))) ∙ get_d_map (start_link s) s.listed l 0 d h

  pub link-entry : (l i : ℕ) (d : Link) → i < length (later s) → l ≡ length s.listed + i → get_or (list_machine m s).links l d ≡ entry_link m s (get_or (later s) i 0)
  link-entry l i d h e =
      ap (λ (n : ℕ). get_or (list_machine m s).links n d) (let z : l ≡ length (map (start_link s) s.listed) + i = omega (arith, length-map s.listed (start_link s)) in z)
      ∙ get_or-append-add (map (start_link s) s.listed) (map (entry_link m s) (later s)) i d ∙ get_d_map (entry_link m s) (later s) i 0 d h

  entry-source : (j : ℕ) → (entry_link m s j).source ≡ state_of s j
  entry-source j = let e = get_or s.entries j first in (link_by-ends m e.input e.entry (state_of s j) (state_of s e.from)).0

  pub entry_next : (j : ℕ) → (entry_link m s j).next ≡ state_of s (came_from s j)
  entry_next j = let e = get_or s.entries j first in (link_by-ends m e.input e.entry (state_of s j) (state_of s e.from)).1

  -- a number among the links of the start, or among those of the entries
  data Which (l : ℕ) : Type 0 where
    of-start : l < length s.listed → Which l
    of_entry : (i : ℕ) → i < length (later s) → l ≡ length s.listed + i → Which l

  which : (l : ℕ) → l < length (list_machine m s).links → Which l
  which l h = elim (split_at l (length s.listed)) [ inl b ↦ of-start b | inr b ↦ of_entry (l - length s.listed) (omega (arith, links-long)) (omega arith) ]

  source-start : (l : ℕ) (d : Link) → l < length s.listed → (get_or (list_machine m s).links l d).source ≡ 0
  source-start l d h = ap (λ (k : Link). k.source) (link_start l d h)

  source-entry : (l i : ℕ) (d : Link) → i < length (later s) → l ≡ length s.listed + i → (get_or (list_machine m s).links l d).source ≡ 2 + i
  source-entry l i d h e = ap (λ (k : Link). k.source) (link-entry l i d h e) ∙ entry-source (get_or (later s) i 0) ∙ state-at s i h

  -- its links stand by source
  pub sources-rise : (k l : ℕ) (d : Link) → k ≤ l → l < length (list_machine m s).links → (get_or (list_machine m s).links k d).source ≤ (get_or (list_machine m s).links l d).source
  sources-rise k l d a b = go (which l b) (which k (omega arith))
    where
      go : Which l → Which k → (get_or (list_machine m s).links k d).source ≤ (get_or (list_machine m s).links l d).source
      go q (of-start h) = omega (arith, source-start k d h)
      go (of-start g) (of_entry u h e) = absurd (omega (arith, e))
      go (of_entry v g f) (of_entry u h e) = omega (arith, source-entry l v d g f, source-entry k u d h e)

  -- the input links that its links repeat
  repeat-start : (l : ℕ) → l < length s.listed → get_or (list_result m s).repeats l none ≡ none
  repeat-start l h =
      get_or-append (replicate (length s.listed) none) (map (input_of s) (later s)) none l (omega (arith, length-replicate {A = Option ℕ} (length s.listed) none))
      ∙ get_or-replicate (length s.listed) l none none h

  pub repeat-entry : (l i : ℕ) → i < length (later s) → l ≡ length s.listed + i → get_or (list_result m s).repeats l none ≡ input_of s (get_or (later s) i 0)
  repeat-entry l i h e =
      ap (λ (n : ℕ). get_or (list_result m s).repeats n none) (let z : l ≡ length (replicate {A = Option ℕ} (length s.listed) none) + i = omega (arith, length-replicate {A = Option ℕ} (length s.listed) none) in z)
      ∙ get_or-append-add (replicate (length s.listed) none) (map (input_of s) (later s)) i none ∙ get_d_map (input_of s) (later s) i 0 none h

  repeats-long : length (list_result m s).repeats ≡ length (list_machine m s).links
  repeats-long = length-append (replicate (length s.listed) none) (map (input_of s) (later s))
      ∙ (λ i. length-replicate {A = Option ℕ} (length s.listed) none i + length-map (later s) (input_of s) i) ∙ sym links-long

-- ---- a result that its bytes give back
by-labels : (m : Machine) → Labels m → (o : Option ℕ) (e : Entry) (a b : ℕ) → ((link_by m o e a b).ilabel < 2 ^ 32) × ((link_by m o e a b).olabel < 2 ^ 32)
by-labels m h (some l) e a b = labels-all m h l
by-labels m h none (half v c) a b = (omega arith, omega arith)
by-labels m h none (finished c) a b = (omega arith, omega arith)

module _ (m : Machine) (s : Search) (w : Numbered s) (x : Fits m s) where
  later-few : length s.listed + length (later s) < 2 ^ 28
  later-few = omega (arith, kept-le s (length s.entries - 1), w.some_in, x.few)

  state-small : (j : ℕ) → j < length s.entries → state_of s j < 2 ^ 32
  state-small j h = omega (arith, state-le s j, x.few)

  -- entries that are kept are entries
  later-in : (i : ℕ) → i < length (later s) → get_or (later s) i 0 < length s.entries
  later-in i h = let r = kept-place s (length s.entries - 1) i h in omega (arith, r.1, r.3)

  link_fits : (l : ℕ) (d : Link) → Which m s l → LinkFits (length (list_machine m s).finals) (get_or (list_machine m s).links l d)
  link_fits l d (of-start h) =
      let e = link_start m s l d h in
      record {
        source_in = omega (arith, ap (λ (k : Link). k.source) e, nodes-long m s);
        ilabel-fits = omega (arith, ap (λ (k : Link). k.ilabel) e);
        olabel-fits = omega (arith, ap (λ (k : Link). k.olabel) e);
        next_fits = omega (arith, ap (λ (k : Link). k.next) e, state-small (get_or s.listed l 0) (w.inside (get_or s.listed l 0) (get_or-mem s.listed l 0 h)));
      }
  link_fits l d (of_entry i h q) =
      let e = link-entry m s l i d h q in
      let j = get_or (later s) i 0 in
      let p = get_or s.entries j first in
      let b = by-labels m x.labels p.input p.entry (state_of s j) (state_of s p.from) in
      record {
        source_in = omega (arith, ap (λ (k : Link). k.source) e, entry-source m s j, state-at s i h, nodes-long m s);
        ilabel-fits = omega (arith, ap (λ (k : Link). k.ilabel) e, b.0);
        olabel-fits = omega (arith, ap (λ (k : Link). k.olabel) e, b.1);
        next_fits = omega (arith, ap (λ (k : Link). k.next) e, entry_next m s j, state-small (came_from s j) (omega (arith, w.earlier j, later-in i h)));
      }

  input-fits : (l : ℕ) → Which m s l → (a : ℕ) → get_or (list_result m s).repeats l none ≡ some a → a < no_start
  input-fits l (of-start h) a e = let z : ◌≡◌ {A = ℕ} 0 1 = cc (repeat-start m s l h) in absurd (omega arith)
  input-fits l (of_entry i h q) a e = x.inputs (get_or (later s) i 0) a (later-in i h) (sym (repeat-entry m s l i h q) ∙ e)

  pub list-storable : Storable (list_result m s)
  list-storable = record {
    machine-fits = record {
      each = λ l d h. link_fits l d (which m s l h);
      by-source = sources-rise m s;
      start_fits_lem = omega arith;
      few-nodes = omega (arith, nodes-long m s, later-few);
      few-links = omega (arith, links-long m s, later-few);
      unit-word = x.unit-word;
    };
    word_each = repeats-long m s;
    inputs-fit = λ l a h e. input-fits l (which m s l (omega (arith, repeats-long m s))) a e;
  }

-- ---- along the machine's ways
abbrev fields : Machine → Search → Parts
fields m s = parts_for (list_machine m s)

abbrev words_of : Machine → Search → List ℕ
words_of m s = map word_for (list_result m s).repeats

module _ (m : Machine) (s : Search) (w : Numbered s) (x : Fits m s) where
  writable : Writable (list_machine m s)
  writable = (list-storable m s w x).machine-fits

  count-links : link_count (fields m s) ≡ length s.listed + length (later s)
  count-links = links-are (list_machine m s) ∙ links-long m s

  source-start-at : (l : ℕ) → l < length s.listed → source_at (fields m s) (words_of m s) l ≡ 0
  source-start-at l h = source_of (list_machine m s) writable l no_link (omega (arith, links-long m s)) ∙ source-start m s l no_link h

  source-entry-at : (l i : ℕ) → i < length (later s) → l ≡ length s.listed + i → source_at (fields m s) (words_of m s) l ≡ 2 + i
  source-entry-at l i h e = source_of (list_machine m s) writable l no_link (omega (arith, links-long m s)) ∙ source-entry m s l i no_link h e

  -- the one link out of the state of place i
  link-out : (i : ℕ) → i < length (later s) → links_from (fields m s) (words_of m s) (2 + i) ≡ (length s.listed + i) ∷ []
  link-out i h = out_one (fields m s) (words_of m s) (2 + i) (link_count (fields m s)) (length s.listed + i) (omega (arith, count-links)) (source-entry-at (length s.listed + i) i h refl) (λ l b e. only l e (which m s l (omega (arith, count-links, links-long m s))))
    where
      only : (l : ℕ) → source_at (fields m s) (words_of m s) l ≡ 2 + i → Which m s l → l ≡ length s.listed + i
      only l e (of-start g) = absurd (omega (arith, source-start-at l g))
      only l e (of_entry j g q) = omega (arith, source-entry-at l j g q)

  -- those out of the start
  links-out : links_from (fields m s) (words_of m s) 0 ≡ list_below (length s.listed) (λ l. l)
  links-out = out-front (fields m s) (words_of m s) 0 (link_count (fields m s)) (length s.listed) (omega (arith, count-links)) source-start-at (λ l h b e. none_after l h e (which m s l (omega (arith, count-links, links-long m s))))
    where
      none_after : (l : ℕ) → length s.listed ≤ l → source_at (fields m s) (words_of m s) l ≡ 0 → Which m s l → ⊥
      none_after l h e (of-start g) = omega arith
      none_after l h e (of_entry j g q) = omega (arith, source-entry-at l j g q)

  mark-first : mark (fields m s) 1 ≡ 1
  mark-first = mark-some (list_machine m s) 1 (omega (arith, nodes-long m s)) one refl

  mark-later : (i : ℕ) → i < length (later s) → mark (fields m s) (2 + i) ≡ 0
  mark-later i h = mark-none (list_machine m s) (2 + i) (omega (arith, nodes-long m s)) (at (2 + i) (omega arith))
    where
      at : (v : ℕ) → v ≡ suc (suc i) → get_or (list_machine m s).finals v none ≡ none
      at v e = ap (λ (n : ℕ). get_or (list_machine m s).finals n none) e ∙ get_or-replicate (length (later s)) i none none h

  word_at : (l : ℕ) → l < length (list_machine m s).links → get_or (words_of m s) l 0 ≡ word_for (get_or (list_result m s).repeats l none)
  word_at l h = get_d_map word_for (list_result m s).repeats l none 0 (omega (arith, repeats-long m s))

  way-is : (f g j : ℕ) → j < length s.entries → OnWay s j → state_of s j ≤ f → j ≤ g → way_from (fields m s) (words_of m s) f (state_of s j) ≡ run_of s.entries g j
  unfolding way_from run_of state_of
  way-is zero g j h o b c = absurd (omega (arith, state-pos s j))
  way-is (suc f) g zero h o b c =
      ap (λ (t : Bool). cond t [] (along (fields m s) (words_of m s) (way_from (fields m s) (words_of m s) f) (links_from (fields m s) (words_of m s) 1))) (eq-eqb (mark (fields m s) 1) 1 mark-first)
      ∙ sym (run-first s.entries w.zeroth g)
  way-is (suc f) zero (suc j) h o b c = absurd (omega arith)
  way-is (suc f) (suc g) (suc j) h o b c =
      let r = kept_at s (length s.entries - 1) j (omega arith) o in
      let i = length (kept s j) in
      let l = length s.listed + i in
      let e = get_or s.entries (suc j) first in
      let u = came_from s (suc j) in
      let below : u < suc j = omega (arith, w.earlier (suc j)) in
      let on : OnWay s u = way-from s w (suc j) o in
      let in-links : l < length (list_machine m s).links = omega (arith, links-long m s, r.0) in
      let input : get_or (list_result m s).repeats l none ≡ e.input = repeat-entry m s l i r.0 refl ∙ ap (input_of s) r.1 in
      let to : next (fields m s) l ≡ state_of s u = next-is (list_machine m s) l no_link in-links ∙ ap (λ (k : Link). k.next) (link-entry m s l i no_link r.0 refl ∙ ap (entry_link m s) r.1) ∙ entry_next m s (suc j) in
      ap₂ (λ (t : Bool) (ls : List ℕ). cond t [] (along (fields m s) (words_of m s) (way_from (fields m s) (words_of m s) f) ls)) (ne_eqb (mark (fields m s) (2 + i)) 1 (λ z. omega (arith, z, mark-later i r.0))) (link-out i r.0)
      ∙ repeated-is (fields m s) (words_of m s) e.input l (way_from (fields m s) (words_of m s) f (next (fields m s) l)) (λ a q. x.inputs (suc j) a h q) (word_at l in-links ∙ ap word_for input)
      ∙ ap (λ (v : ℕ). with_input e.input (way_from (fields m s) (words_of m s) f v)) to
      ∙ ap (with_input e.input) (way-is f g u (omega arith) on (omega (arith, state-lt s u (suc j) below on)) (omega arith))

  ways-are : ways (fields m s) (words_of m s) ≡ runs s
  unfolding runs
  ways-are =
      ap (λ (q : ℕ). map along-start (links_from (fields m s) (words_of m s) q)) (start_is (list_machine m s)) ∙ ap (map along-start) links-out ∙ map-places along-start (λ i. run_of s.entries (length s.entries) i) s.listed 0 same
    where
      along-start : ℕ → List ℕ
      along-start l = repeated (fields m s) (words_of m s) l (way_from (fields m s) (words_of m s) (node_count (fields m s)) (next (fields m s) l))

      same : (l : ℕ) → l < length s.listed → along-start l ≡ run_of s.entries (length s.entries) (get_or s.listed l 0)
      same l h =
          let i = get_or s.listed l 0 in
          let listed : i ∈ s.listed = get_or-mem s.listed l 0 h in
          let on : OnWay s i = way-listed s i listed in
          let in-links : l < length (list_machine m s).links = omega (arith, links-long m s) in
          repeated-is (fields m s) (words_of m s) none l (way_from (fields m s) (words_of m s) (node_count (fields m s)) (next (fields m s) l)) (λ a q. let z : ◌≡◌ {A = ℕ} 0 1 = cc in absurd (omega arith)) (word_at l in-links ∙ ap word_for (repeat-start m s l h))
          ∙ ap (way_from (fields m s) (words_of m s) (node_count (fields m s))) (next-is (list_machine m s) l no_link in-links ∙ ap (λ (k : Link). k.next) (link_start m s l no_link h))
          ∙ way-is (node_count (fields m s)) (length s.entries) i (w.inside i listed) on (omega (arith, nodes-are (list_machine m s), nodes-long m s, state-in s i (w.inside i listed) on)) (omega (arith, w.inside i listed))

  -- the list read back is the list
  pub list_back : (n : ℕ) → (n ≡ 1 → ⊥) → (rest : List ℕ) → list_of m.form n (length (list_machine m s).finals) (length (list_machine m s).links) (result_bytes (list_result m s) ++ rest) ≡ runs s
  list_back n h rest = read_result (list_result m s) (list-storable m s w x) rest n ∙ ap (λ (t : Bool). cond t (one_way (fields m s) (words_of m s)) (ways (fields m s) (words_of m s))) (ne_eqb n 1 h) ∙ ways-are
