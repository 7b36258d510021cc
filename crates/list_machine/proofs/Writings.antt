-- The words that are written are those of the list machine as a sheet, and of its links. Assumes nothing.
use mathlib.Core.Path.{◌≡◌, refl, sym, ap, ap₂, ◌∙◌}
use mathlib.Core.Logic.{◌⊎◌, inl, inr}
use mathlib.Core.Bool.{Bool, true, false, cond}
use mathlib.Core.Option.{Option, none, some}
use mathlib.Core.List.{List, [], ◌∷◌, ◌++◌, map, flat_map, append-nil, append_assoc}
use Prim.Native.Nat.{ℕ, zero, suc, ◌+◌, ◌-◌, ◌*◌, ◌≤◌, ◌<◌}
use native.Mathlib.Decide.{ℕ_discrete}
use native.Mathlib.Omega.{arith}
use lib.Dec.{eqb, ltb}
use lib.ListN.{length, get_or, take, drop, replicate, length-append}
use lib.Seq.{take-suc, take-length}
use borrow.Author.Tests.{eq-eqb, ne_eqb}
use Rattle.tropical_weight.specs.Tropical.{Tropical, one}
use Rattle.sheet.specs.Words.{word_length, word, bytes_of_all}
use Rattle.sheet.specs.Sheet.{link_length, node_length, unit_fields, parts_of, stated_links, stated_nodes, sheet_of, trailer_of}
use Rattle.sheet.specs.Machine.{Link, Machine, unit_in, machine_of, machine, bits_of, link_fields, leaving, node_fields, parts_for}
use Rattle.sheet.proofs.Bytes.{bytes_of_all-append}
use Rattle.sheet.proofs.Round.{Below}
use Rattle.sheet.proofs.Forms.{covered}
use Rattle.sheet.proofs.Encoding.{links-are, nodes-are, start_is, form-is, bits-one}
use Rattle.machine.specs.Readings.{link, final, final_weight}
use Rattle.machine.specs.Input.{input_number}
use Rattle.machine.proofs.SheetFields.{SheetFields, sheet-fields, final-word}
use Rattle.machine.proofs.Lists.{get_or-mem, map-append}
use Rattle.search.specs.Search.{Entry, half, finished, Put, first, Search}
use Rattle.search.specs.ListMachine.{on_way, link_by, word_for, result_bytes}
use Rattle.search.specs.States.{kept, state_of, later, start_link, entry_link, list_machine, list_result}
use Rattle.search.proofs.Numbered.{Numbered}
use Rattle.search.proofs.Readback.{links-long, nodes-long}
use Rattle.search.proofs.OnWays.{OnWay, came_from, way-listed, way-from, way-inside}
use Rattle.slots.specs.Slots.{slot_length, nothing}
use Rattle.slots.proofs.Numbers.{number-none, number-some}
use Rattle.search_slots.specs.Slots.{node_word, from_word, input_word, listed_word, state_word, node_field, input_field}
use Rattle.list_machine.specs.TrimWords.{stated, kept_count, start_words, node_of, blank_bits, entry_words, stated_words, link_words, head_words, trailer_words, repeat_words, input_words, links_part, nodes_part, words_part, list_words, list_length, list_answer, list_after, Readable, Linked, Listable, Holding, Sourced}
use Rattle.list_answer.specs.ListAnswer.{listed_by, listed_in, listed_over, link_to, state_words}
use Rattle.list_machine.proofs.Marks.{stated-other, from-other, listed-other, new-kept}
use Rattle.list_machine.proofs.Placing.{length-list, stated-off, stated-on, repeat-off, repeat-on, entry-blank, entry-copied}
use Rattle.list_machine.proofs.Trimming.{kept-count, state-on, state-off}

-- ---- lists
flat_append : (j : ℕ) (a b : List Link) → flat_map (link_fields j) (a ++ b) ≡ flat_map (link_fields j) a ++ flat_map (link_fields j) b
unfolding flat_map
flat_append j [] b = refl
flat_append j (k ∷ a) b = ap (λ (r : List ℕ). link_fields j k ++ r) (flat_append j a b) ∙ sym (append_assoc (link_fields j k) (flat_map (link_fields j) a) (flat_map (link_fields j) b))

flat-one : (j : ℕ) (k : Link) → flat_map (link_fields j) (k ∷ []) ≡ link_fields j k
unfolding flat_map
flat-one j k = append-nil (link_fields j k)

leaving-append : (a b : List Link) (v : ℕ) → leaving (a ++ b) v ≡ leaving a v + leaving b v
unfolding leaving
leaving-append [] b v = omega arith
leaving-append (k ∷ a) b v = go (eqb k.source v) (leaving-append a b v)
  where
    go : (t : Bool) → leaving (a ++ b) v ≡ leaving a v + leaving b v → cond t (suc (leaving (a ++ b) v)) (leaving (a ++ b) v) ≡ cond t (suc (leaving a v)) (leaving a v) + leaving b v
    go true e = omega arith
    go false e = e

-- ---- the nodes of the list machine
-- nodes of one link that are not final
one_each : (unit : ℕ) (ks : List Link) (k v : ℕ) → ((j : ℕ) → j < k → leaving ks (v + j) ≡ 1) → node_fields unit ks v (replicate k none) ≡ state_words k
unfolding node_fields state_words
one_each unit ks zero v h = refl
one_each unit ks (suc k) v h =
    ap₂ (λ (a : ℕ) (r : List ℕ). (a ∷ 0 ∷ 0 ∷ []) ++ r) (ap (leaving ks) (let e : v ≡ v + 0 = omega arith in e) ∙ h 0 (omega arith))
    (one_each unit ks k (suc v) (λ j b. ap (leaving ks) (let e : suc v + j ≡ v + suc j = omega arith in e) ∙ h (suc j) (omega arith)))

link-source : (m : Machine) (o : Option ℕ) (e : Entry) (u v : ℕ) → (link_by m o e u v).source ≡ u
link-source m (some l) e u v = refl
link-source m none (half x c) u v = refl
link-source m none (finished c) u v = refl

module _ (m : Machine) (s : Search) where
  starts-leave : (l : List ℕ) → leaving (map (start_link s) l) 0 ≡ length l
  unfolding leaving
  starts-leave [] = refl
  starts-leave (i ∷ l) = ap suc (starts-leave l)

  starts-stay : (l : List ℕ) (v : ℕ) → 0 < v → leaving (map (start_link s) l) v ≡ 0
  unfolding leaving
  starts-stay [] v h = refl
  starts-stay (i ∷ l) v h = ap (λ (t : Bool). cond t (suc (leaving (map (start_link s) l) v)) (leaving (map (start_link s) l) v)) (ne_eqb 0 v (λ e. omega arith)) ∙ starts-stay l v h

  -- one more entry kept, whose state comes next
  one-leaves : (k v : ℕ) → leaving (entry_link m s (suc k) ∷ []) v ≡ cond (eqb (2 + length (kept s k)) v) 1 0
  unfolding leaving state_of
  one-leaves k v = let e = get_or s.entries (suc k) first in ap (λ (u : ℕ). cond (eqb u v) 1 0) (link-source m e.input e.entry (state_of s (suc k)) (state_of s e.from))

  abbrev entry_links : ℕ → List Link
  entry_links k = map (entry_link m s) (kept s k)

  -- with the next entry, where it is kept, one more
  abbrev on : ℕ → Bool
  on k = on_way s.entries s.listed (suc k)

  kept_more : (k : ℕ) → length (kept s (suc k)) ≡ length (kept s k) + cond (on k) 1 0
  unfolding kept
  kept_more k = length-append (kept s k) (cond (on k) (suc k ∷ []) []) ∙ go (on k)
    where
      go : (t : Bool) → length (kept s k) + length (cond t (suc k ∷ []) []) ≡ length (kept s k) + cond t 1 0
      go true = refl
      go false = refl

  leave-more : (k v : ℕ) → leaving (entry_links (suc k)) v ≡ leaving (entry_links k) v + cond (on k) (cond (eqb (2 + length (kept s k)) v) 1 0) 0
  unfolding kept
  leave-more k v = ap (λ (l : List Link). leaving l v) (map-append (entry_link m s) (kept s k) (cond (on k) (suc k ∷ []) [])) ∙ leaving-append (entry_links k) (map (entry_link m s) (cond (on k) (suc k ∷ []) [])) v ∙ ap (λ (n : ℕ). leaving (entry_links k) v + n) (go (on k))
    where
      go : (t : Bool) → leaving (map (entry_link m s) (cond t (suc k ∷ []) [])) v ≡ cond t (cond (eqb (2 + length (kept s k)) v) 1 0) 0
      go true = one-leaves k v
      go false = unfold leaving in refl

  -- the states from 2 on have one link each, and no others one of theirs
  entries-off : (k v : ℕ) → (v < 2) ⊎ (2 + length (kept s k) ≤ v) → leaving (entry_links k) v ≡ 0
  unfolding kept leaving
  entries-off zero v h = refl
  entries-off (suc k) v h = leave-more k v ∙ go (on k) (kept_more k) h (entries-off k v)
    where
      go : (t : Bool) → length (kept s (suc k)) ≡ length (kept s k) + cond t 1 0 → (v < 2) ⊎ (2 + length (kept s (suc k)) ≤ v) → ((v < 2) ⊎ (2 + length (kept s k) ≤ v) → leaving (entry_links k) v ≡ 0)
          → leaving (entry_links k) v + cond t (cond (eqb (2 + length (kept s k)) v) 1 0) 0 ≡ 0
      go true e (inl h) ih = omega (arith, ih (inl h), ap {B = ℕ} (λ t. cond t 1 0) (ne_eqb (2 + length (kept s k)) v (λ q. omega arith)))
      go true e (inr h) ih = omega (arith, ih (inr (omega arith)), ap {B = ℕ} (λ t. cond t 1 0) (ne_eqb (2 + length (kept s k)) v (λ q. omega arith)))
      go false e (inl h) ih = omega (arith, ih (inl h))
      go false e (inr h) ih = omega (arith, ih (inr (omega arith)))

  entries-on : (k j : ℕ) → j < length (kept s k) → leaving (entry_links k) (2 + j) ≡ 1
  unfolding kept
  entries-on zero j h = absurd (omega arith)
  entries-on (suc k) j h = leave-more k (2 + j) ∙ go (on k) (kept_more k) (ℕ_discrete j (length (kept s k))) (entries-on k j)
    where
      go : (t : Bool) → length (kept s (suc k)) ≡ length (kept s k) + cond t 1 0 → Dec (j ≡ length (kept s k)) → (j < length (kept s k) → leaving (entry_links k) (2 + j) ≡ 1)
          → leaving (entry_links k) (2 + j) + cond t (cond (eqb (2 + length (kept s k)) (2 + j)) 1 0) 0 ≡ 1
      go true e (yes q) ih = omega (arith, entries-off k (2 + j) (inr (omega arith)), ap {B = ℕ} (λ t. cond t 1 0) (eq-eqb (2 + length (kept s k)) (2 + j) (omega arith)))
      go true e (no q) ih = omega (arith, ih (omega (arith, q)), ap {B = ℕ} (λ t. cond t 1 0) (ne_eqb (2 + length (kept s k)) (2 + j) (λ z. q (omega arith))))
      go false e d ih = omega (arith, ih (omega arith))

  -- all links
  all-leave : (v : ℕ) → leaving (list_machine m s).links v ≡ leaving (map (start_link s) s.listed) v + leaving (map (entry_link m s) (later s)) v
  all-leave v = leaving-append (map (start_link s) s.listed) (map (entry_link m s) (later s)) v

  pub nodes-is : (parts_for (list_machine m s)).nodes ≡ head_words (length s.listed) ++ state_words (length (later s))
  unfolding parts_for node_fields
  nodes-is =
      let start : leaving (list_machine m s).links 0 ≡ length s.listed = all-leave 0 ∙ omega (arith, starts-leave s.listed, entries-off (length s.entries - 1) 0 (inl (omega arith))) in
      let end : leaving (list_machine m s).links 1 ≡ 0 = all-leave 1 ∙ omega (arith, starts-stay s.listed 1 (omega arith), entries-off (length s.entries - 1) 1 (inl (omega arith))) in
      let rest = one_each (unit_in m) (list_machine m s).links (length (later s)) 2 (λ j h. all-leave (2 + j) ∙ omega (arith, starts-stay s.listed (2 + j) (omega arith), entries-on (length s.entries - 1) j h)) in
      λ i. start i ∷ 0 ∷ 0 ∷ end i ∷ 1 ∷ bits-one (unit_in m) (covered m.form) i ∷ rest i

  trailer-is : trailer_of (parts_for (list_machine m s)) ≡ trailer_words m.form (length s.listed + length (later s)) (2 + length (later s))
  trailer-is =
      let l = links-are (list_machine m s) ∙ links-long m s in
      let n = nodes-are (list_machine m s) ∙ nodes-long m s in
      λ i. 0 ∷ link_length * l i ∷ n i ∷ l i ∷ start_is (list_machine m s) i ∷ unit_fields (form-is (list_machine m s) i)

-- ---- the links, and their words
module _ (bytes : List ℕ) (below : Below 256 bytes) (accepted : input_number bytes ≡ 0) (s : Search) (n : Numbered s) (part : List ℕ) (x : Holding (unit_in (machine_of (parts_of bytes))) part s) (y : Sourced (machine_of (parts_of bytes)) s) where
  abbrev m : Machine
  m = machine_of (parts_of bytes)

  abbrev links : ℕ
  links = stated_links bytes

  -- the unit is 1 / 2 ^ unit
  abbrev unit : ℕ
  unit = unit_in m

  one-bits : bits_of unit one ≡ 0
  one-bits = bits-one unit (covered m.form)

  abbrev size : ℕ
  size = length s.entries

  abbrev e : ℕ → Put
  e i = get_or s.entries i first

  fields : SheetFields bytes (stated_links bytes) (stated_nodes bytes) (machine bytes)
  fields = sheet-fields bytes accepted

  -- link l by its fields, with other ends
  link-words : (l to source : ℕ) → l < stated_links bytes
      → link_fields unit (record { source = source; ilabel = (link m l).ilabel; olabel = (link m l).olabel; weight = (link m l).weight; next = to }) ≡ link_to bytes l to
  link-words l to source h = sym (λ i. fields.ilabel-at l h i ∷ fields.olabel-at l h i ∷ fields.link-bits below l h i ∷ to ∷ [])

  linked : Linked part (length s.entries) (length s.listed)
  linked = record {
    some_in = n.some_in;
    slots = x.slots;
    listed-slots = x.listed-slots;
    few = y.few;
    came-in = λ i a b. omega (arith, (x.held i b).from, n.earlier i);
    listed_in_lem = λ k h. omega (arith, x.held-listed k h, n.inside (get_or s.listed k 0) (get_or-mem s.listed k 0 h));
  }

  -- ---- the words that are read
  input-some : (i l : ℕ) → i < size → (e i).input ≡ some l → (input_word part i ≡ l) × (l < links)
  input-some i l h q = ((x.held i h).input ∙ ap input_field q, omega (arith, y.inputs_in i l h q, fields.links-are))

  input_none : (i : ℕ) → i < size → (e i).input ≡ none → input_word part i ≡ nothing
  input_none i h q = (x.held i h).input ∙ ap input_field q

  node-half : (i v : ℕ) (c : Tropical) → i < size → (e i).entry ≡ half v c → node_word part i ≡ v
  node-half i v c h q = (x.held i h).node ∙ ap node_field q

  node-finished : (i : ℕ) (c : Tropical) → i < size → (e i).entry ≡ finished c → node_word part i ≡ nothing
  node-finished i c h q = (x.held i h).node ∙ ap node_field q

  -- what an entry was put in by
  record Final (i : ℕ) : Type 0 where
    old : ℕ
    cost : Tropical
    weight : Tropical
    none_is : (e i).input ≡ none
    half_is : (e i).entry ≡ half (suc old) cost
    weight_is : final m old ≡ some weight
    inside : old < stated_nodes bytes

  record Ended (i : ℕ) : Type 0 where
    cost : Tropical
    none_is : (e i).input ≡ none
    end_is : (e i).entry ≡ finished cost

  put-by : (i : ℕ) → 0 < i → i < size → ((l : ℕ) × ((e i).input ≡ some l)) ⊎ (Final i ⊎ Ended i)
  put-by i a b = go (e i).input (e i).entry refl refl
    where
      go : (o : Option ℕ) (z : Entry) → (e i).input ≡ o → (e i).entry ≡ z → ((l : ℕ) × ((e i).input ≡ some l)) ⊎ (Final i ⊎ Ended i)
      go (some l) z p q = inl (l, p)
      go none (half v c) p q =
          let f = y.finals-in i v c a b p q in
          inr (inl (record { old = f.0; cost = c; weight = f.1; none_is = p; half_is = q ∙ ap (λ (u : ℕ). half u c) f.2; weight_is = f.3; inside = (final-word fields below f.0 f.1 f.3).0 }))
      go none (finished c) p q = inr (inr (record { cost = c; none_is = p; end_is = q }))

  pub listable : Listable bytes (stated_links bytes) part (length s.entries) (length s.listed)
  listable = record { linked = linked; readable = readable }
    where
      readable : (i : ℕ) → 0 < i → i < size → Readable bytes links part i
      readable i a b = record {
        slot = omega (arith, x.slots);
        from_in = omega (arith, x.slots, linked.came-in i a b);
        input-in = λ h. elim (put-by i a b) [
          | inl q ↦ omega (arith, fields.laid_out, (input-some i q.0 b q.1).0, (input-some i q.0 b q.1).1)
          | inr (inl f) ↦ absurd (h (input_none i b f.none_is))
          | inr (inr f) ↦ absurd (h (input_none i b f.none_is))
        ];
        node_in = λ z h. elim (put-by i a b) [
          | inl q ↦ absurd (omega (arith, fields.few-links, (input-some i q.0 b q.1).0, (input-some i q.0 b q.1).1))
          | inr (inl f) ↦ let v = node-half i (suc f.old) f.cost b f.half_is in (omega (arith, v), omega (arith, v, fields.laid_out, f.inside))
          | inr (inr f) ↦ absurd (h (node-finished i f.cost b f.end_is))
        ];
      }

  -- ---- the words that are written
  abbrev new : List ℕ
  new = stated size (length s.listed) part

  input-new : (i : ℕ) → input_word new i ≡ input_word part i
  input-new i = stated-other part size (length s.listed) linked (slot_length * i + 3) (λ q b. omega arith)

  node-new : (i : ℕ) → node_word new i ≡ node_word part i
  node-new i = stated-other part size (length s.listed) linked (slot_length * i) (λ q b. omega arith)

  -- an entry's link leads to the state of the entry it came from
  to_is : (i : ℕ) → i < size → OnWay s i → state_word new (from_word new i) ≡ state_of s (e i).from
  to_is i h on =
      let w = way-from s n i on in
      ap (state_word new) (stated-other part size (length s.listed) linked (slot_length * i + 2) (from-other size i) ∙ (x.held i h).from) ∙ state-on s n part x (came_from s i) (way-inside s n (came_from s i) w) w

  -- the field of its weight, where it was put in by no input link
  final-bits : (i : ℕ) → i < size → (f : Final i) → blank_bits bytes links (node_of new i) ≡ bits_of unit (final_weight (final m (suc f.old - 1)))
  final-bits i h f =
      let back : suc f.old - 1 ≡ f.old = omega arith in
      let is = node-new i ∙ node-half i (suc f.old) f.cost h f.half_is in
      ap (blank_bits bytes links) (number-some (node_word new i) (λ z. omega (arith, fields.few-nodes, f.inside, is)))
      ∙ ap (λ (v : ℕ). word bytes (link_length * links + node_length * (v - 1) + 2 * word_length)) is
      ∙ ap (λ (v : ℕ). word bytes (link_length * links + node_length * v + 2 * word_length)) back
      ∙ sym (final-word fields below f.old f.weight f.weight_is).1
      ∙ sym (ap (λ (o : Option Tropical). bits_of unit (final_weight o)) (ap (final m) back ∙ f.weight_is))

  ended-bits : (i : ℕ) → i < size → (f : Ended i) → blank_bits bytes links (node_of new i) ≡ bits_of unit one
  ended-bits i h f = ap (blank_bits bytes links) (number-none (node_word new i) (node-new i ∙ node-finished i f.cost h f.end_is)) ∙ sym one-bits

  entry-is : (i : ℕ) → 0 < i → i < size → OnWay s i → entry_words bytes links new i ≡ link_fields unit (entry_link m s i)
  entry-is i a b on = go (put-by i a b) (to_is i b on)
    where
      u : ℕ
      u = state_of s i

      to : ℕ
      to = state_of s (e i).from

      go : ((l : ℕ) × ((e i).input ≡ some l)) ⊎ (Final i ⊎ Ended i) → state_word new (from_word new i) ≡ to → entry_words bytes links new i ≡ link_fields unit (link_by m (e i).input (e i).entry u to)
      go (inl q) t =
          let r = input-some i q.0 b q.1 in
          let w : input_word new i ≡ q.0 = input-new i ∙ r.0 in
          entry-copied new i bytes links (λ z. omega (arith, fields.few-links, w, r.1))
          ∙ (λ j. link_to bytes (w j) (t j))
          ∙ sym (link-words q.0 to u r.1)
          ∙ ap (λ (o : Option ℕ). link_fields unit (link_by m o (e i).entry u to)) (sym q.1)
      go (inr (inl f)) t =
          entry-blank new i bytes links (input-new i ∙ input_none i b f.none_is)
          ∙ (λ j. 0 ∷ 0 ∷ final-bits i b f j ∷ t j ∷ [])
          ∙ (λ j. link_fields unit (link_by m (sym f.none_is j) (sym f.half_is j) u to))
      go (inr (inr f)) t =
          entry-blank new i bytes links (input-new i ∙ input_none i b f.none_is)
          ∙ (λ j. 0 ∷ 0 ∷ ended-bits i b f j ∷ t j ∷ [])
          ∙ (λ j. link_fields unit (link_by m (sym f.none_is j) (sym f.end_is j) u to))

  state-some : (i : ℕ) → i < size → OnWay s i → state_word new i ≡ 0 → ⊥
  unfolding state_of
  state-some zero h on z = omega (arith, state-on s n part x 0 h on)
  state-some (suc i) h on z = omega (arith, state-on s n part x (suc i) h on)

  links-is : (k : ℕ) → k < size → link_words bytes links new k ≡ flat_map (link_fields unit) (map (entry_link m s) (kept s k))
  unfolding link_words kept flat_map
  links-is zero h = refl
  links-is (suc k) h =
      let t = on_way s.entries s.listed (suc k) in
      ap₂ (λ (a b : List ℕ). a ++ b) (links-is k (omega arith)) (go t refl)
      ∙ sym (flat_append unit (map (entry_link m s) (kept s k)) (map (entry_link m s) (cond t (suc k ∷ []) [])))
      ∙ ap (flat_map (link_fields unit)) (sym (map-append (entry_link m s) (kept s k) (cond t (suc k ∷ []) [])))
    where
      go : (t : Bool) → on_way s.entries s.listed (suc k) ≡ t → stated_words bytes links new (suc k) ≡ flat_map (link_fields unit) (map (entry_link m s) (cond t (suc k ∷ []) []))
      go true q = stated-on new (suc k) bytes links (state-some (suc k) h q) ∙ entry-is (suc k) (omega arith) h q ∙ sym (flat-one unit (entry_link m s (suc k)))
      go false q = stated-off new (suc k) bytes links (state-off s n part x (suc k) (omega arith) h q)

  starts_is : (k : ℕ) → k ≤ length s.listed → start_words new k ≡ flat_map (link_fields unit) (map (start_link s) (take k s.listed))
  unfolding start_words flat_map
  starts_is zero h = refl
  starts_is (suc k) h =
      let i = get_or s.listed k 0 in
      let mem = get_or-mem s.listed k 0 (omega arith) in
      let state : state_word new (listed_word new k) ≡ state_of s i = ap (state_word new) (stated-other part size (length s.listed) linked (slot_length * k + 6) (listed-other size k) ∙ x.held-listed k (omega arith)) ∙ state-on s n part x i (n.inside i mem) (way-listed s i mem) in
      ap₂ (λ (a b : List ℕ). a ++ b) (starts_is k (omega arith)) ((λ j. 0 ∷ 0 ∷ sym one-bits j ∷ state j ∷ []) ∙ sym (flat-one unit (start_link s i)))
      ∙ sym (flat_append unit (map (start_link s) (take k s.listed)) (start_link s i ∷ []))
      ∙ ap (flat_map (link_fields unit)) (sym (ap (map (start_link s)) (take-suc s.listed k 0 (omega arith)) ∙ map-append (start_link s) (take k s.listed) (i ∷ [])))

  word-is : (o : Option ℕ) → input_field o ≡ word_for o
  word-is none = refl
  word-is (some l) = refl

  inputs-is : (k : ℕ) → k < size → input_words new k ≡ map word_for (map (λ j. (e j).input) (kept s k))
  unfolding input_words kept
  inputs-is zero h = refl
  inputs-is (suc k) h =
      let t = on_way s.entries s.listed (suc k) in
      ap₂ (λ (a b : List ℕ). a ++ b) (inputs-is k (omega arith)) (go t refl)
      ∙ sym (map-append word_for (map (λ j. (e j).input) (kept s k)) (map (λ j. (e j).input) (cond t (suc k ∷ []) [])))
      ∙ ap (map word_for) (sym (map-append (λ j. (e j).input) (kept s k) (cond t (suc k ∷ []) [])))
    where
      go : (t : Bool) → on_way s.entries s.listed (suc k) ≡ t → repeat_words new (suc k) ≡ map word_for (map (λ j. (e j).input) (cond t (suc k ∷ []) []))
      go true q = repeat-on new (suc k) (state-some (suc k) h q) ∙ ap (λ (w : ℕ). w ∷ []) (input-new (suc k) ∙ (x.held (suc k) h).input ∙ word-is (e (suc k)).input)
      go false q = repeat-off new (suc k) (state-off s n part x (suc k) (omega arith) h q)

  nothings : (k : ℕ) → replicate k nothing ≡ map word_for (replicate k none)
  nothings zero = refl
  nothings (suc k) = ap (λ (l : List ℕ). nothing ∷ l) (nothings k)

  links-part : links_part bytes links new size (length s.listed) ≡ (parts_for (list_machine m s)).links
  unfolding parts_for
  links-part =
      ap₂ (λ (a b : List ℕ). a ++ b) (starts_is (length s.listed) (omega arith) ∙ ap (λ (l : List ℕ). flat_map (link_fields unit) (map (start_link s) l)) (take-length s.listed)) (links-is (size - 1) (omega (arith, n.some_in)))
      ∙ sym (flat_append unit (map (start_link s) s.listed) (map (entry_link m s) (later s)))

  nodes-part : nodes_part m.form (length s.listed) (length (later s)) ≡ (parts_for (list_machine m s)).nodes ++ trailer_of (parts_for (list_machine m s))
  nodes-part = sym (ap₂ (λ (a b : List ℕ). a ++ b) (nodes-is m s) (trailer-is m s))

  words-part : words_part new size (length s.listed) ≡ map word_for (list_result m s).repeats
  words-part = ap₂ (λ (a b : List ℕ). a ++ b) (nothings (length s.listed)) (inputs-is (size - 1) (omega (arith, n.some_in))) ∙ sym (map-append word_for (replicate (length s.listed) none) (map (λ j. (e j).input) (later s)))

  -- the bytes are those of the result
  pub list-bytes : bytes_of_all (list_words bytes (stated_links bytes) (machine_of (parts_of bytes)).form (stated (length s.entries) (length s.listed) part) (length s.entries) (length s.listed) (kept_count (length s.entries) (length s.listed) part)) ≡ result_bytes (list_result (machine_of (parts_of bytes)) s)
  unfolding result_bytes sheet_of
  list-bytes =
      let p = parts_for (list_machine m s) in
      let ws = map word_for (list_result m s).repeats in
      ap (λ (k : ℕ). bytes_of_all (list_words bytes links m.form new size (length s.listed) k)) (kept-count s n part x)
      ∙ (λ j. bytes_of_all (links-part j ++ nodes-part j ++ words-part j))
      ∙ ap (λ (l : List ℕ). bytes_of_all (l ++ ws)) (sym (append_assoc p.links p.nodes (trailer_of p)))
      ∙ bytes_of_all-append (p.links ++ p.nodes ++ trailer_of p) ws

  -- ---- what writing answers and leaves, by the result
  size_is : list_length m.form (length s.listed) (kept_count size (length s.listed) part) ≡ length (result_bytes (list_result m s))
  size_is = sym (length-list bytes links m.form new size (length s.listed) (kept_count size (length s.listed) part) (sym (new-kept bytes links part size (length s.listed) listable))) ∙ ap length list-bytes

  pub list-answers : (room : ℕ) → list_answer (machine_of (parts_of bytes)).form (length s.listed) (kept_count (length s.entries) (length s.listed) part) s.taken room ≡ listed_in (list_result (machine_of (parts_of bytes)) s) room
  list-answers room =
      let kept = kept-count s n part x in
      λ j. listed_by (ltb room (size_is j)) ((ap (λ (k : ℕ). 2 + k) kept ∙ sym (nodes-long m s)) j) ((ap (λ (k : ℕ). length s.listed + k) kept ∙ sym (links-long m s)) j) s.taken

  pub list-leaves : (old : List ℕ) → list_after bytes (stated_links bytes) (machine_of (parts_of bytes)).form part (length s.entries) (length s.listed) old ≡ listed_over (list_result (machine_of (parts_of bytes)) s) old
  list-leaves old = λ j. cond (ltb (length old) (size_is j)) old (list-bytes j ++ drop (size_is j) old)
