-- The list that a result area holds, line by line. Assumes nothing.
use mathlib.Core.Path.{◌≡◌, sym, ap, ◌∙◌, subst}
use mathlib.Core.List.{List, [], ◌∷◌, ◌++◌, map, append_assoc, append-nil}
use Prim.Native.Nat.{ℕ, zero, suc, ◌+◌, ◌*◌, ◌≤◌, ◌<◌}
use native.Mathlib.Nat.{add-zero}
use native.Mathlib.Omega.{arith}
use lib.ListN.{length, get_or, take, drop}
use lib.Seq.{sets, take_all}
use Rattle.sheet.specs.Machine.{Machine, machine}
use Rattle.sheet.proofs.Forms.{size-least}
use Rattle.sheet.proofs.Round.{Below}
use Rattle.machine.specs.Readings.{link, reading_of, reading_cost, IsReading}
use Rattle.machine.proofs.Lists.{map_same, get_or-mem}
use Rattle.machine.proofs.Runs.{run_in, run_length}
use Rattle.machine.proofs.Readings.{final-in}
use Rattle.machine.proofs.SheetFields.{sheet-fields, fields-own}
use Rattle.search.specs.ListMachine.{result_for, result_bytes}
use Rattle.search.specs.Listed.{list_of}
use Rattle.search.proofs.Lists.{Accepted, accepted, result-form}
use Rattle.search.proofs.Sizes.{rest-same}
use Rattle.shortest_path.specs.Outcome.{answer_of}
use Rattle.std.specs.Prelude.{Result, Ok, Err}
use Rattle.sheet.specs.declared.refusal.Refusal.{Refusal}
use Rattle.read_back.specs.declared.reading.Told.{Told}
use Rattle.read_back.specs.Answers.{units_in, reading_told}
use Rattle.read_back.specs.Promise.{IsAnswer, CountsList, ReadsList}
use Rattle.read_back.proofs.Ways.{stored-front}
use Rattle.read_back.proofs.Answering.{list_same, answer-few, answer-reading}
use Rattle.listing.specs.Text.{labels_of, line_of}
use Rattle.listing.specs.Printed.{sheet_most, run_most, list_for, reading_line, reading_lines}
use Rattle.sheet.specs.Sheet.{link_length}

-- one line more
lines_more : (m : Machine) (rank : ℕ) (runs : List (List ℕ)) (k : ℕ) → k < length runs
    → reading_lines m rank (take k runs) ++ reading_line m (rank + k) (get_or runs k []) ≡ reading_lines m rank (take (k + 1) runs)
unfolding reading_lines
lines_more m rank [] k h = absurd (omega arith)
lines_more m rank (run ∷ runs) zero h = (λ i. reading_line m (add-zero rank i) run) ∙ sym (append-nil (reading_line m rank run))
lines_more m rank (run ∷ runs) (suc k) h =
    append_assoc (reading_line m rank run) (reading_lines m (suc rank) (take k runs)) (reading_line m (rank + suc k) (get_or runs k []))
    ∙ ap (λ l. reading_line m rank run ++ l) ((λ i. reading_lines m (suc rank) (take k runs) ++ reading_line m (same i) (get_or runs k [])) ∙ lines_more m (suc rank) runs k (omega arith))
    ∙ ap (λ (j : ℕ). reading_lines m rank (take j (run ∷ runs))) next
  where
    next : suc (k + 1) ≡ suc k + 1
    next = omega arith

    same : rank + suc k ≡ suc rank + k
    same = omega arith

module _ (m : Machine) (runs : List (List ℕ)) where
  pub lines_next : (k : ℕ) → k < length runs → reading_lines m 1 (take k runs) ++ reading_line m (k + 1) (get_or runs k []) ≡ reading_lines m 1 (take (k + 1) runs)
  lines_next k h = (λ i. reading_lines m 1 (take k runs) ++ reading_line m (turned i) (get_or runs k [])) ∙ lines_more m 1 runs k h
    where
      turned : k + 1 ≡ 1 + k
      turned = omega arith

  pub lines-all : (k count : ℕ) → count ≡ length runs → k ≤ count → count ≤ k → reading_lines m 1 (take k runs) ≡ reading_lines m 1 runs
  lines-all k count e a b = ap (reading_lines m 1) (take_all k runs (omega (arith, e)))

-- what is told of a reading, by its values
pub told-parts : (m : Machine) (way : List ℕ) (told : Told) → ◌≡◌ {A = Result Told Refusal} (Ok told) (Ok (reading_told m way)) → (told.links ≡ length way) × (told.cost ≡ units_in (reading_cost m (reading_of m way)))
told-parts m way told e = let same : told ≡ reading_told m way = cc in (ap (λ (t : Told). t.links) same, ap (λ (t : Told). t.cost) same)

module _ (sheet : List ℕ) (below : Below 256 sheet) (n : ℕ) (result : List ℕ) (nodes links : ℕ) (h : IsAnswer sheet n result nodes links) where
  abbrev m : Machine
  m = machine sheet

  a : Accepted m
  a = accepted sheet below h.accepted

  -- the list read from the result, whatever follows it
  list-is : list_of (machine sheet).form n nodes links result ≡ list_for m n
  list-is =
      let r = result_for m n in
      list_same sheet below n result nodes links h ∙ rest-same m a n h.few (drop (length (answer_of sheet n)) result) []
      ∙ λ i. list_of (result-form m n i) n (length r.machine.finals) (length r.machine.links) (append-nil (result_bytes r) i)

  pub held-count : (told : Result ℕ Refusal) → CountsList result n nodes links told → told ≡ Ok (length (list_for (machine sheet) n))
  held-count told c = c sheet below h ∙ ap (λ (l : List (List ℕ)). let z : Result ℕ Refusal = Ok (length l) in z) list-is

  -- how many are told, and that they are
  pub told-count : (count : ℕ) → CountsList result n nodes links (Ok count) → count ≡ length (list_for (machine sheet) n)
  told-count count c = let is = held-count (Ok count) c in cc

  pub told-not : (r : Refusal) → CountsList result n nodes links (Err r) → ⊥
  told-not r c = let is = held-count (Err r) c in let z : ◌≡◌ {A = ℕ} 0 1 = cc in omega (arith, z)

  -- at most n readings
  pub held-few : length (list_for (machine sheet) n) ≤ n
  held-few = omega (arith, answer-few sheet below n result nodes links h, ap length list-is)

  -- ---- the line of reading k
  module _ (k : ℕ) (b : k < length (list_for (machine sheet) n)) where
    abbrev way : List ℕ
    way = get_or (list_for m n) k []

    in_list : k < length (list_of (machine sheet).form n nodes links result)
    in_list = omega (arith, b, ap length list-is)

    way-is : get_or (list_of (machine sheet).form n nodes links result) k [] ≡ way
    way-is = ap (λ (l : List (List ℕ)). get_or l k []) list-is

    pub held-reading : IsReading (machine sheet) (reading_of (machine sheet) (get_or (list_for (machine sheet) n) k []))
    held-reading = subst (λ (r : List ℕ). IsReading m (reading_of m r)) way-is (answer-reading sheet below n result nodes links h k in_list)

    -- it has fewer links than there are nodes
    pub held-short : length sheet ≤ sheet_most → length (get_or (list_for (machine sheet) n) k []) ≤ run_most
    held-short s =
        let i = held-reading in
        omega (
          arith,
          s,
          run_length m a.climbs way i.from (reading_of m way).end i.runs,
          final-in m (reading_of m way).end i.weight i.marked,
          (sheet-fields sheet h.accepted).nodes-are,
          (sheet-fields sheet h.accepted).sized,
          size-least (machine sheet).form,
        )

    -- what is told of it, and its numbers at the area's front
    pub held-told : (old : List ℕ) (told : Result Told Refusal) (run : List ℕ) → length sheet ≤ sheet_most → length old ≡ run_most → ReadsList sheet n result nodes links k old told run
        → (told ≡ Ok (reading_told (machine sheet) (get_or (list_for (machine sheet) n) k []))) × (run ≡ sets old 0 (get_or (list_for (machine sheet) n) k []))
    held-told old told run s size c =
        let r = c h in_list (omega (arith, held-short s, size, ap length way-is)) in
        (r.0 ∙ ap (λ (w : List ℕ). let z : Result Told Refusal = Ok (reading_told m w) in z) way-is, r.1 ∙ ap (sets old 0) way-is)

    module _ (old run : List ℕ) (count : ℕ) (counted : count ≡ length (get_or (list_for (machine sheet) n) k [])) (stored : run ≡ sets old 0 (get_or (list_for (machine sheet) n) k [])) (room : count ≤ length old) where
      pub front-is : take count run ≡ get_or (list_for (machine sheet) n) k []
      front-is = (λ i. take (counted i) (stored i)) ∙ stored-front old way (omega (arith, counted, room))

      front-reading : IsReading m (reading_of m (take count run))
      front-reading = subst (λ (l : List ℕ). IsReading m (reading_of m l)) (sym front-is) held-reading

      -- its links are in the sheet
      pub front-in : (i : ℕ) → i < length (take count run) → link_length * get_or (take count run) i 0 + 16 ≤ length sheet
      front-in i c =
          let s = sheet-fields sheet h.accepted in
          omega (arith, run_in m (take count run) front-reading.from (reading_of m (take count run)).end front-reading.runs (get_or (take count run) i 0) (get_or-mem (take count run) i 0 c), s.links-are, s.laid_out)

      labels-are : labels_of sheet (take count run) ≡ map (λ (l : ℕ). (link m l).ilabel) (take count run)
      labels-are = map_same _ _ (take count run) (λ l q. (fields-own sheet h.accepted).ilabel-at l (run_in m (take count run) front-reading.from (reading_of m (take count run)).end front-reading.runs l q))

      pub line-is : (rank : ℕ) → line_of rank (units_in (reading_cost (machine sheet) (reading_of (machine sheet) (get_or (list_for (machine sheet) n) k [])))) (labels_of sheet (take count run)) ≡ reading_line (machine sheet) rank (get_or (list_for (machine sheet) n) k [])
      line-is rank = ap (line_of rank (units_in (reading_cost m (reading_of m way)))) (labels-are ∙ ap (map (λ (l : ℕ). (link m l).ilabel)) front-is)
