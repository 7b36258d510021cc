-- What the bytes of an answer say of its list is the list that it holds. Assumes nothing.
use mathlib.Core.Path.{◌≡◌, refl, sym, ap, ap₂, ◌∙◌, subst}
use mathlib.Core.Bool.{Bool, ◌&&◌, cond}
use mathlib.Core.Option.{Option, none, some}
use mathlib.Core.List.{List, [], ◌∷◌, ◌++◌, map, reverse, reverse-append, reverse-reverse}
use Prim.Native.Nat.{ℕ, zero, suc, ◌+◌, ◌-◌, ◌*◌, ◌≤◌, ◌<◌}
use native.Mathlib.Omega.{arith}
use lib.Dec.{eqb, ltb}
use lib.ListN.{length, get_or, take, length-map, length-reverse}
use lib.Seq.{take-suc, take-length, get_or-take, length-take-le}
use borrow.Author.Tests.{lt-ltb, ne_eqb}
use Rattle.tropical_weight.specs.Limits.{list_limit}
use Rattle.sheet.specs.Words.{word}
use Rattle.sheet.specs.declared.form.Form.{Form}
use Rattle.sheet.specs.Sheet.{link_length, node_length, Parts, trailer_length, unit_fields, no_start, link_count, node_count, next, count, parts_of, stated_links, stated_nodes}
use Rattle.sheet.specs.Machine.{Link, Machine, parts_for}
use Rattle.sheet.proofs.Forms.{size-least}
use Rattle.sheet.proofs.Round.{Below}
use Rattle.sheet.proofs.Fields.{get_d_words, read-fields}
use Rattle.sheet.proofs.Encoding.{links-are, nodes-are, next-is, start_is, form-is}
use Rattle.machine.specs.Readings.{no_link, Reading, IsReading, reading_of}
use Rattle.machine.specs.Parents.{best}
use Rattle.machine.proofs.Lists.{map-mem, get_or-mem, get_d_map}
use Rattle.machine.proofs.Parents.{best-is}
use Rattle.search.specs.Search.{Search, search, with_input, run_of, runs}
use Rattle.search.specs.ListMachine.{Result, empty, best_result, word_for, result_by, result_for, result_bytes}
use Rattle.search.specs.States.{kept, state_of, later, entry_link, list_machine, list_result}
use Rattle.search.proofs.Numbered.{Numbered}
use Rattle.search.proofs.Entries.{numbered}
use Rattle.search.proofs.Mirror.{run-first}
use Rattle.search.proofs.OnWays.{came_from, OnWay, way-listed, way-from, kept_at, state-lt}
use Rattle.search.proofs.Trims.{trimmed-is}
use Rattle.search.proofs.Results.{Storable, parts-read, words-read, result-long, empty-storable, empty_back}
use Rattle.search.proofs.Readback.{input_of, Fits, links-long, nodes-long, link_start, link-entry, entry_next, repeat-entry, list-storable, list_back}
use Rattle.search.proofs.BackOne.{OneFits, words_are, best-storable, best-back}
use Rattle.search.proofs.BackOne as One
use Rattle.search.proofs.Lists.{list_in, Accepted, fits, one-fits, some-listed, demand-result}
use Rattle.list_machine.proofs.Writings.{nodes-is}
use Rattle.read_back.specs.Way.{next_at, told, told_before, answer_bytes, number_at, start_links, count_in, start_state, only_link, way_from, way_of}
use Rattle.read_back.proofs.Ways.{told_none, told-some, way_end, way_next}

word-take : (bytes : List ℕ) (size at : ℕ) → at + 4 ≤ size → word (take size bytes) at ≡ word bytes at
unfolding word
word-take bytes size at h =
    λ i. get_or-take size bytes at 0 (omega arith) i + 256 * get_or-take size bytes (at + 1) 0 (omega arith) i + 65536 * get_or-take size bytes (at + 2) 0 (omega arith) i + 16777216 * get_or-take size bytes (at + 3) 0 (omega arith) i

-- ---- the bytes of a result word by word
module _ (r : Result) (x : Storable r) (rest : List ℕ) where
  abbrev bytes : List ℕ
  bytes = result_bytes r ++ rest

  abbrev nodes : ℕ
  nodes = length r.machine.finals

  abbrev links : ℕ
  links = length r.machine.links

  abbrev sheet : List ℕ
  sheet = take (link_length * links + node_length * nodes + trailer_length r.machine.form) bytes

  stated-links : stated_links sheet ≡ links
  stated-links = sym (read-fields sheet).links-are ∙ ap link_count (parts-read r x rest) ∙ links-are r.machine

  stated-nodes : stated_nodes sheet ≡ nodes
  stated-nodes = sym (read-fields sheet).nodes-are ∙ ap node_count (parts-read r x rest) ∙ nodes-are r.machine

  next-at : (l : ℕ) → l < links → next_at bytes l ≡ (get_or r.machine.links l no_link).next
  next-at l h =
      sym (word-take bytes (link_length * links + node_length * nodes + trailer_length r.machine.form) (link_length * l + 12) (omega arith)) ∙ sym ((read-fields sheet).next-is l (omega (arith, stated-links))) ∙ ap (λ (p : Parts). next p l) (parts-read r x rest) ∙ next-is r.machine l no_link h

  number-at : (l : ℕ) → l < links → number_at r.machine.form bytes nodes links l ≡ get_or (map word_for r.repeats) l 0
  number-at l h = sym (get_d_words bytes (link_length * links + node_length * nodes + trailer_length r.machine.form) links l h) ∙ ap (λ (ws : List ℕ). get_or ws l 0) (words-read r x rest)

  state-at : start_state bytes nodes links ≡ (parts_for r.machine).start
  unfolding parts_of
  state-at =
      let f = r.machine.form in
      sym (word-take bytes (link_length * links + node_length * nodes + trailer_length f) (link_length * links + node_length * nodes + 16) (omega (arith, size-least f)))
      ∙ ap (word sheet) (let z : link_length * links + node_length * nodes + 16 ≡ length sheet - trailer_length f + 16 = omega (arith, size-least f, length-take-le (link_length * links + node_length * nodes + trailer_length f) bytes (omega (arith, result-long r x rest))) in z)
      ∙ ap (λ (g : Form). word sheet (length sheet - trailer_length g + 16)) (sym (ap (λ (p : Parts). p.form) (parts-read r x rest) ∙ form-is r.machine))
      ∙ ap (λ (p : Parts). p.start) (parts-read r x rest)

  starts-at : 0 < nodes → start_links bytes nodes links ≡ count (parts_for r.machine) 0
  starts-at h =
      sym (word-take bytes (link_length * links + node_length * nodes + trailer_length r.machine.form) (link_length * links) (omega arith))
      ∙ ap (word sheet) (let z : link_length * links ≡ link_length * stated_links sheet + node_length * 0 = omega (arith, stated-links) in z)
      ∙ sym ((read-fields sheet).count-is 0 (omega (arith, stated-nodes))) ∙ ap (λ (p : Parts). count p 0) (parts-read r x rest)

-- What the bytes of a result say is the list for n that it holds.
pub record ReadsBack (n : ℕ) (r : Result) (rest : List ℕ) : Type 0 where
  pub long : answer_bytes r.machine.form (result_bytes r ++ rest) (length r.machine.finals) (length r.machine.links) ≤ length (result_bytes r ++ rest)
  pub counts : count_in (result_bytes r ++ rest) (length r.machine.finals) (length r.machine.links) n ≡ length (list_in n r rest)
  pub each : (k : ℕ) → k < length (list_in n r rest) → way_of r.machine.form (result_bytes r ++ rest) (length r.machine.finals) (length r.machine.links) n k ≡ some (get_or (list_in n r rest) k [])

-- ---- no readings
empty-reads : (f : Form) → Below 4294967296 (unit_fields f) → (n : ℕ) (rest : List ℕ) → ReadsBack n (empty f) rest
empty-reads f u n rest = record {
  long = result-long (empty f) (empty-storable f u) rest;
  counts = sym (ap length (empty_back f u n rest));
  each = λ k h. absurd (omega (arith, ap length (empty_back f u n rest)));
}

-- a state above the last, its link and the number that it tells: one step of a way
one-step : (form : Form) (result : List ℕ) (nodes links before last q next number : ℕ) → last < q → q < nodes → only_link result nodes links before last q < links
    → next_at result (only_link result nodes links before last q) ≡ next → next < q → number_at form result nodes links (only_link result nodes links before last q) ≡ number
    → way_from form result nodes links before last nodes q ≡ told_before number (way_from form result nodes links before last nodes next)
one-step form result nodes links before last q next number h inside link leads lower tells =
    way_next form result nodes links before last q h (λ i. lt-ltb q nodes inside i && lt-ltb (only_link result nodes links before last q) links link i && lt-ltb (next_at result (only_link result nodes links before last q)) q (omega (arith, leads)) i)
    ∙ λ i. told_before (tells i) (way_from form result nodes links before last nodes (leads i))

-- ---- n = 1
module _ (m : Machine) (y : Reading) (f : OneFits m y) (rest : List ℕ) where
  abbrev one : Result
  one = best_result m y

  abbrev ws : List ℕ
  ws = reverse y.run

  abbrev one_bytes : List ℕ
  one_bytes = result_bytes one ++ rest

  abbrev N : ℕ
  N = length one.machine.finals

  abbrev T : ℕ
  T = length one.machine.links

  -- from state q the first q links remain, the last of them first
  back_is : (q : ℕ) → q ≤ length y.run → way_from m.form one_bytes N T 0 0 N q ≡ some (reverse (take q ws))
  back_is zero h = way_end m.form one_bytes N T 0 0 N 0 (omega arith)
  back_is (suc q) h =
      let in-links : q < T = omega (arith, One.links-long m y) in
      let at : only_link one_bytes N T 0 0 (suc q) ≡ q = omega arith in
      one-step m.form one_bytes N T 0 0 (suc q) q (get_or ws q 0) (omega arith) (omega (arith, One.nodes-long m y)) (omega (arith, at, in-links))
      (ap (next_at one_bytes) at ∙ next-at one (best-storable m y f) rest q in-links ∙ ap (λ (k : Link). k.next) (One.link_at m y q no_link (omega arith))) (omega arith)
      (ap (number_at m.form one_bytes N T) at ∙ number-at one (best-storable m y f) rest q in-links ∙ ap (λ (k : List ℕ). get_or k q 0) (words_are m y))
      ∙ ap (told_before (get_or ws q 0)) (back_is q (omega arith))
      ∙ ap (λ (r : List ℕ). some (r ++ reverse (take q ws))) (told-some (get_or ws q 0) (λ z. omega (arith, z, One.word_fits m y f q (omega arith))))
      ∙ ap some (sym (ap reverse (take-suc ws q 0 (omega (arith, length-reverse y.run))) ∙ reverse-append (take q ws) (get_or ws q 0 ∷ [])))

  all_back : (k : ℕ) → way_of m.form one_bytes N T 1 k ≡ some y.run
  all_back k =
      ap (way_from m.form one_bytes N T 0 0 N) (state-at one (best-storable m y f) rest ∙ start_is one.machine)
      ∙ back_is (length y.run) (omega arith)
      ∙ ap some (ap (λ (k : ℕ). reverse (take k ws)) (sym (length-reverse y.run)) ∙ ap reverse (take-length ws) ∙ reverse-reverse y.run)

  one-reads : list_in 1 one rest ≡ y.run ∷ [] → ReadsBack 1 one rest
  one-reads e = record {
    long = result-long one (best-storable m y f) rest;
    counts = ap {B = ℕ} (λ (b : Bool). cond b 0 1) (ne_eqb (length one.machine.finals) 0 (λ z. omega (arith, z, One.nodes-long m y))) ∙ sym (ap length e);
    each = λ k h. all_back k ∙ ap some (sym (ap₂ (λ (l : List (List ℕ)) (i : ℕ). get_or l i []) e (let z : k ≡ 0 = omega (arith, ap length e) in z)));
  }

-- ---- from n = 2
told_is : (o : Option ℕ) (way : List ℕ) → ((a : ℕ) → o ≡ some a → a < no_start) → told (word_for o) ++ way ≡ with_input o way
told_is none way f = ap (λ (l : List ℕ). l ++ way) (told_none no_start refl)
told_is (some a) way f = ap (λ (l : List ℕ). l ++ way) (told-some a (λ z. omega (arith, z, f a refl)))

module _ (m : Machine) (s : Search) (w : Numbered s) (x : Fits m s) (rest : List ℕ) where
  abbrev many : Result
  many = list_result m s

  abbrev many_bytes : List ℕ
  many_bytes = result_bytes many ++ rest

  abbrev states : ℕ
  states = length many.machine.finals

  abbrev total : ℕ
  total = length many.machine.links

  storable : Storable (list_result m s)
  storable = list-storable m s w x

  starts : start_links many_bytes states total ≡ length s.listed
  starts = starts-at many storable rest (omega (arith, nodes-long m s)) ∙ ap (λ (ns : List ℕ). get_or ns 0 0) (nodes-is m s)

  start-next : (k : ℕ) → k < length s.listed → next_at many_bytes k ≡ state_of s (get_or s.listed k 0)
  start-next k h = next-at many storable rest k (omega (arith, links-long m s)) ∙ ap (λ (l : Link). l.next) (link_start m s k no_link h)

  -- a state from 2 on has the link of its entry, which leads to that of the one it came from
  step_is : (i j : ℕ) → i < length (later s) → get_or (later s) i 0 ≡ j → state_of s (came_from s j) < 2 + i
      → way_from m.form many_bytes states total (length s.listed) 1 states (2 + i) ≡ told_before (word_for (input_of s j)) (way_from m.form many_bytes states total (length s.listed) 1 states (state_of s (came_from s j)))
  step_is i j h e lower =
      one-step m.form many_bytes states total (length s.listed) 1 (2 + i) (state_of s (came_from s j)) (word_for (input_of s j)) (omega arith) (omega (arith, nodes-long m s)) (omega (arith, at, in-links))
      (ap (next_at many_bytes) at ∙ next-at many storable rest l in-links ∙ ap (λ (k : Link). k.next) (link-entry m s l i no_link h refl ∙ ap (entry_link m s) e) ∙ entry_next m s j) lower
      (ap (number_at m.form many_bytes states total) at ∙ number-at many storable rest l in-links ∙ get_d_map word_for many.repeats l none 0 (omega (arith, storable.word_each, in-links)) ∙ ap word_for (repeat-entry m s l i h refl ∙ ap (input_of s) e))
    where
      l : ℕ
      l = length s.listed + i

      at : only_link many_bytes states total (length s.listed) 1 (2 + i) ≡ length s.listed + i
      at = omega arith

      in-links : length s.listed + i < length (list_machine m s).links
      in-links = omega (arith, links-long m s)

  -- the numbers along a state's way are the inputs of its entry and those that it came from
  from_is : (g j : ℕ) → j ≤ g → j < length s.entries → OnWay s j → way_from m.form many_bytes states total (length s.listed) 1 states (state_of s j) ≡ some (run_of s.entries g j)
  unfolding run_of state_of
  from_is zero zero b h o = way_end m.form many_bytes states total (length s.listed) 1 states 1 (omega arith)
  from_is zero (suc j) b h o = absurd (omega arith)
  from_is (suc g) zero b h o = way_end m.form many_bytes states total (length s.listed) 1 states 1 (omega arith) ∙ ap some (sym (run-first s.entries w.zeroth (suc g)))
  from_is (suc g) (suc j) b h o =
      let r = kept_at s (length s.entries - 1) j (omega arith) o in
      let i = length (kept s j) in
      let below : came_from s (suc j) < suc j = omega (arith, w.earlier (suc j)) in
      let came = way-from s w (suc j) o in
      step_is i (suc j) r.0 r.1 (state-lt s (came_from s (suc j)) (suc j) below came)
      ∙ ap (told_before (word_for (input_of s (suc j)))) (from_is g (came_from s (suc j)) (omega arith) (omega arith) came)
      ∙ ap some (told_is (input_of s (suc j)) (run_of s.entries g (came_from s (suc j))) (λ a e. x.inputs (suc j) a h e))

  runs-long : length (runs s) ≡ length s.listed
  unfolding runs
  runs-long = length-map s.listed (λ i. run_of s.entries (length s.entries) i)

  run_is : (k : ℕ) → k < length s.listed → way_from m.form many_bytes states total (length s.listed) 1 states (next_at many_bytes k) ≡ some (get_or (runs s) k [])
  unfolding runs
  run_is k h =
      let i = get_or s.listed k 0 in
      let mem = get_or-mem s.listed k 0 h in
      ap (way_from m.form many_bytes states total (length s.listed) 1 states) (start-next k h)
      ∙ from_is (length s.entries) i (omega (arith, w.inside i mem)) (w.inside i mem) (way-listed s i mem)
      ∙ ap some (sym (get_d_map (λ i. run_of s.entries (length s.entries) i) s.listed k 0 [] h))

  -- the way of reading k, by the start's links and the last state of such an n
  way-is : (n k : ℕ) → (n ≡ 1 → ⊥) → k < length s.listed → way_of m.form many_bytes states total n k ≡ some (get_or (runs s) k [])
  way-is n k d h =
      ap (λ (b : Bool). way_from m.form many_bytes states total (cond b 0 (start_links many_bytes states total)) (cond b 0 1) states (cond b (start_state many_bytes states total) (cond (ltb k total) (next_at many_bytes k) 0))) (ne_eqb n 1 d)
      ∙ ap (λ (b : Bool). way_from m.form many_bytes states total (start_links many_bytes states total) 1 states (cond b (next_at many_bytes k) 0)) (lt-ltb k total (omega (arith, links-long m s)))
      ∙ ap (λ (before : ℕ). way_from m.form many_bytes states total before 1 states (next_at many_bytes k)) starts ∙ run_is k h

  many-reads : (n : ℕ) → (n ≡ 1 → ⊥) → ReadsBack n (list_result m s) rest
  many-reads n d =
      let list = list_back m s w x n d rest in
      record {
        long = result-long many storable rest;
        counts =
            ap {B = ℕ} (λ (b : Bool). cond b 0 (cond (eqb n 1) 1 (start_links many_bytes states total))) (ne_eqb states 0 (λ z. omega (arith, z, nodes-long m s)))
            ∙ ap {B = ℕ} (λ (b : Bool). cond b 1 (start_links many_bytes states total)) (ne_eqb n 1 d) ∙ starts ∙ sym (ap length list ∙ runs-long);
        each = λ k h. way-is n k d (omega (arith, ap length list, runs-long)) ∙ ap (λ (l : List (List ℕ)). some (get_or l k [])) (sym list);
      }

-- ---- for every n
module _ (m : Machine) (a : Accepted m) where
  pub result-reads : (n : ℕ) → n ≤ list_limit → (rest : List ℕ) → ReadsBack n (result_for m n) rest
  unfolding result_for
  result-reads n b rest = go n b (best m) refl
    where
      go : (n : ℕ) → n ≤ list_limit → (o : Option Reading) → best m ≡ o → ReadsBack n (result_by m n o) rest
      go n b none e = empty-reads m.form a.unit-word n rest
      go zero b (some y) e = empty-reads m.form a.unit-word 0 rest
      go (suc zero) b (some y) e =
          let i = (best-is m a.climbs y e).0 in
          one-reads m y (one-fits m a y i) rest (best-back m y (one-fits m a y i) i.weight i.marked rest)
      go (suc (suc k)) b (some y) e =
          let n = suc (suc k) in
          let i = (best-is m a.climbs y e).0 in
          subst (λ (r : Result). ReadsBack n r rest) (sym (trimmed-is m (search m n) (numbered m a.climbs n) (some-listed m a n (omega arith) y i)))
          (many-reads m (search m n) (numbered m a.climbs n) (fits m a n b) rest n (λ z. omega (arith, z)))

  -- from n = 1, each is a reading
  pub listed-reading : (n : ℕ) → 1 ≤ n → n ≤ list_limit → (rest : List ℕ) (k : ℕ) → k < length (list_in n (result_for m n) rest) → IsReading m (reading_of m (get_or (list_in n (result_for m n) rest) k []))
  listed-reading n p b rest k h = let list = list_in n (result_for m n) rest in (demand-result m a n p b rest).each (reading_of m (get_or list k [])) (map-mem (reading_of m) (get_or-mem list k [] h))
