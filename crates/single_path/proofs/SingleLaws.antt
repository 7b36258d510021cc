-- The best reading of an accepted sheet, from its distances and parents to the answer. Assumes nothing.
use mathlib.Core.Path.{◌≡◌, refl, sym, ap, ◌∙◌, subst}
use mathlib.Core.Option.{Option, none, some}
use mathlib.Core.List.{List, reverse}
use Prim.Native.Nat.{ℕ, ◌+◌, ◌*◌, ◌≤◌, ◌<◌}
use native.Mathlib.Omega.{arith}
use lib.Dec.{ltb}
use lib.ListN.{length, drop}
use Rattle.tropical_weight.specs.Limits.{node_limit}
use Rattle.sheet.specs.declared.form.Form.{Form}
use Rattle.sheet.specs.declared.tr.Trailer.{Trailer}
use Rattle.sheet.specs.Records.{trailer_at, mark_at, final_at}
use Rattle.sheet.specs.Sheet.{link_length, node_length, form_of, parts_of, stated_links, stated_nodes}
use Rattle.sheet.specs.Machine.{Machine, machine}
use Rattle.sheet.proofs.Round.{Below}
use Rattle.sheet.proofs.Sources.{machine-nodes}
use Rattle.machine.specs.Readings.{Reading, IsReading}
use Rattle.machine.specs.Input.{input_number}
use Rattle.machine.specs.Distance.{total, total_at}
use Rattle.machine.specs.Demand.{◌∈◌}
use Rattle.machine.specs.Parents.{attains, parent, best_end, follow, followed, best}
use Rattle.machine.proofs.Lists.{mem-reverse}
use Rattle.machine.proofs.Runs.{run_in}
use Rattle.machine.proofs.Parents.{Lowest, lowest-is, best-is}
use Rattle.machine.proofs.SheetFields.{SheetFields, sheet-fields, fields-own, marked-final, unmarked-final}
use Rattle.search.specs.ListMachine.{Result, empty, best_result, result_by, result_for}
use Rattle.slots.specs.Slots.{slot_length}
use Rattle.shortest_distance.specs.Handed.{handed_over}
use Rattle.shortest_distance.specs.Outcome.{slots_needed}
use Rattle.shortest_distance.specs.ParentWords.{parent_at, parent_from}
use Rattle.shortest_distance.specs.Sound.{Made}
use Rattle.list_answer.specs.declared.Listed.{Listed}
use Rattle.sheet.specs.declared.refusal.Refusal.{Refusal}
use Rattle.list_answer.specs.ListAnswer.{listed_by, listed_in, listed_over}
use Rattle.std.specs.Prelude as Core
use Rattle.std.specs.Prelude.{None, Some}
use Rattle.single_path.specs.SingleWords.{best_below, Traced, way_back, way_words, way_listed}
use Rattle.single_path.proofs.EndLaws.{end_at, end_is}
use Rattle.single_path.proofs.WayLaws.{way-is, traced-from}
use Rattle.single_path.proofs.WayBytes.{length-way_words, links-count, nodes-count, way-bytes, listed-as}

-- the best end by the distances that are made
abbrev pub end_of : List ℕ → List ℕ → ℕ → ℕ → Core.Option ℕ
end_of bytes made links nodes = (best_below bytes links made nodes).end

abbrev pub one_of : List ℕ → Result
one_of bytes = result_for (machine bytes) 1

-- What the code goes by, from distances and parents that are made.
pub record Run (bytes old made : List ℕ) (links nodes : ℕ) (form : Form) : Type 0 where
  pub in-sheet : link_length * links + node_length * nodes ≤ length bytes
  pub few : nodes ≤ node_limit
  pub size : length made ≡ length old
  pub beyond : drop (slot_length * nodes) made ≡ drop (slot_length * nodes) old
  -- no end
  pub none-listed : end_of bytes made links nodes ≡ None → (result : List ℕ)
      → (listed_in (empty form) (length result) ≡ listed_in (one_of bytes) (length result)) × (listed_over (empty form) result ≡ listed_over (one_of bytes) result)
  -- an end
  pub traced : (end : ℕ) → end_of bytes made links nodes ≡ Some end → Traced bytes made end × (end < nodes)
  pub way-listed : (end : ℕ) → end_of bytes made links nodes ≡ Some end → Below 256 bytes → (result : List ℕ)
      → let way = way_back made end end in
      (way_listed form way (length result) ≡ listed_in (one_of bytes) (length result)) × (handed_over (way_words bytes form (final_at bytes links end) way) result ≡ listed_over (one_of bytes) result)

-- ---- the result for n = 1, by the best end
module _ (m : Machine) where
  abbrev ending : ℕ → Reading
  ending v = record { run = follow m v v; end = v }

  result-none : best_end m ≡ none → result_for m 1 ≡ empty m.form
  unfolding result_for best
  result-none e = ap (λ o. result_by m 1 (followed m o)) e

  best-ends : (v : ℕ) → best_end m ≡ some v → best m ≡ some (ending v)
  unfolding best
  best-ends v e = ap (followed m) e

  result-some : (v : ℕ) → best_end m ≡ some v → result_for m 1 ≡ best_result m (ending v)
  unfolding result_for
  result-some v e = ap (λ o. result_by m 1 o) (best-ends v e)

  end_below : (v : ℕ) → best_end m ≡ some v → v < length m.finals
  unfolding best_end
  end_below v e = (subst (Lowest (length m.finals) (λ v. attains (total m) (total_at m v))) e (lowest-is (length m.finals) (λ v. attains (total m) (total_at m v)))).0

module _ (bytes old made : List ℕ) (accepted : input_number bytes ≡ 0) (slots : slot_length * stated_nodes bytes ≤ length old) (both-made : Made bytes old made) where
  abbrev m : Machine
  m = machine bytes

  abbrev links : ℕ
  links = length (machine bytes).links

  abbrev nodes : ℕ
  nodes = length (machine bytes).finals

  f : SheetFields bytes (length (machine bytes).links) (length (machine bytes).finals) (machine bytes)
  f = fields-own bytes accepted

  room : slot_length * nodes ≤ length made
  room = omega (arith, slots, (sheet-fields bytes accepted).nodes-are, both-made.size)

  in-slots : (v : ℕ) → v < nodes → v < slots_needed bytes
  in-slots v h = subst (λ (n : ℕ). v < n) (machine-nodes (parts_of bytes)) h

  parents : (v : ℕ) → v < nodes → parent_at made v ≡ parent_from m (parent m v)
  parents v h = both-made.parents v (in-slots v h)

  end_same : end_of bytes made links nodes ≡ end_at (best_end m)
  end_same = end_is bytes m f made (λ v h. both-made.each v (in-slots v h))

  no_end : end_of bytes made links nodes ≡ None → best_end m ≡ none
  no_end e = go (best_end m) (sym end_same ∙ e)
    where
      go : (o : Option ℕ) → end_at o ≡ None → o ≡ none
      go none q = refl
      go (some v) q = let z : ◌≡◌ {A = ℕ} 0 1 = cc in absurd (omega arith)

  some_end : (end : ℕ) → end_of bytes made links nodes ≡ Some end → best_end m ≡ some end
  some_end end e = go (best_end m) (sym end_same ∙ e)
    where
      go : (o : Option ℕ) → end_at o ≡ Some end → o ≡ some end
      go none q = let z : ◌≡◌ {A = ℕ} 0 1 = cc in absurd (omega arith)
      go (some v) q = let z : v ≡ end = cc in ap some z

  -- ---- an end
  module _ (end : ℕ) (found : end_of bytes made (length (machine bytes).links) (length (machine bytes).finals) ≡ Some end) where
    end-in : end < nodes
    end-in = end_below m end (some_end end found)

    abbrev x : Reading
    x = ending m end

    reading : IsReading m x
    reading = (best-is m f.climbs x (best-ends m end (some_end end found))).0

    abbrev bits : ℕ
    bits = final_at bytes links end

    -- its mark is 1
    marked : mark_at bytes links end ≡ 0 → ⊥
    marked z =
        let q : none ≡ some reading.weight = sym (unmarked-final f end end-in (λ y. omega (arith, z, y))) ∙ reading.marked in
        let z : ◌≡◌ {A = ℕ} 0 1 = cc in
        omega arith

    way_back_lem : way_back made end end ≡ reverse x.run
    way_back_lem = way-is m f.climbs made parents end end end-in

    among : (l : ℕ) → l ∈ reverse x.run → l < length m.links
    among l h = run_in m x.run reading.from end reading.runs l (mem-reverse x.run h)

    answered : Below 256 bytes → (result : List ℕ)
        → (way_listed m.form (way_back made end end) (length result) ≡ listed_in (one_of bytes) (length result)) × (handed_over (way_words bytes m.form bits (way_back made end end)) result ≡ listed_over (one_of bytes) result)
    answered whole result =
        let way = way_back made end end in
        let ends = marked-final f end end-in marked in
        let same = f.final-bits whole end end-in marked in
        let made_of = result-some m end (some_end end found) in
        let listed = listed-as (best_result m x) (way_words bytes m.form bits way) (length way + 1) (length way)
        (way-bytes bytes m f whole x bits way way_back_lem among ends same)
        (nodes-count bytes m f whole x bits way way_back_lem among ends same)
        (links-count bytes m f whole x bits way way_back_lem among ends same)
        refl result in (
          ap (λ (k : ℕ). listed_by (ltb (length result) k) (length way + 1) (length way) 0) (sym (length-way_words bytes m.form bits way)) ∙ listed.0 ∙ ap (λ (y : Result). listed_in y (length result)) (sym made_of),
          listed.1 ∙ ap (λ (y : Result). listed_over y result) (sym made_of),
        )

  run : Run bytes old made (length (machine bytes).links) (length (machine bytes).finals) (machine bytes).form
  run = record {
    in-sheet = f.laid_out;
    few = f.few-nodes;
    size = both-made.size;
    beyond = subst (λ (n : ℕ). drop (slot_length * n) made ≡ drop (slot_length * n) old) (sym (machine-nodes (parts_of bytes))) both-made.beyond;
    none-listed = λ e result.
        let made_of = sym (result-none m (no_end e)) in
        (ap (λ (y : Result). listed_in y (length result)) made_of, ap (λ (y : Result). listed_over y result) made_of);
    traced = λ end e. (traced-from m f.climbs made parents bytes end (end-in end e) room (omega (arith, f.laid_out)), end-in end e);
    way-listed = answered;
  }

-- as the code goes, by the fields of the trailer that reading found
pub run-for : (bytes old made : List ℕ) → input_number bytes ≡ 0 → (t : Trailer) → t ≡ trailer_at bytes → slot_length * t.nodes ≤ length old → Made bytes old made → Run bytes old made t.links t.nodes t.form
run-for bytes old made accepted t same room h =
    let f = sheet-fields bytes accepted in
    subst (λ (t : Trailer). slot_length * t.nodes ≤ length old → Run bytes old made t.links t.nodes t.form) (sym same)
    (λ fits.
    subst (λ (n : ℕ). Run bytes old made (stated_links bytes) n (form_of bytes)) f.nodes-are (
    subst (λ (n : ℕ). Run bytes old made n (length (machine bytes).finals) (form_of bytes)) f.links-are (
    subst (Run bytes old made (length (machine bytes).links) (length (machine bytes).finals)) f.form-is (run bytes old made accepted fits h)
    ))) room

-- ---- by the end that the code finds
module _ (bytes old made : List ℕ) (links nodes : ℕ) (form : Form) (run : Run bytes old made links nodes form) (end : Core.Option ℕ) (found : end ≡ end_of bytes made links nodes) where
  pub none-for : end ≡ None → (result new : List ℕ) (r : Core.Result Listed Refusal) → (r ≡ listed_in (empty form) (length result)) × (new ≡ listed_over (empty form) result) → (r ≡ listed_in (one_of bytes) (length result)) × (new ≡ listed_over (one_of bytes) result)
  none-for n result new r h = let a = run.none-listed (sym found ∙ n) result in (h.0 ∙ a.0, h.1 ∙ a.1)

  module _ (v : ℕ) (at : end ≡ Some v) where
    there : end_of bytes made links nodes ≡ Some v
    there = sym found ∙ at

    pub way-for : Below 256 bytes → (result new : List ℕ) (r : Core.Result Listed Refusal) → (r ≡ way_listed form (way_back made v v) (length result)) × (new ≡ handed_over (way_words bytes form (final_at bytes links v) (way_back made v v)) result)
        → (r ≡ listed_in (one_of bytes) (length result)) × (new ≡ listed_over (one_of bytes) result)
    way-for whole result new r h =
        let a = run.way-listed v there whole result in (h.0 ∙ a.0, h.1 ∙ a.1)
