-- The outcome of the call for two parts: one function of the sheet's bytes, the node and the area's length gives the refusal or the answer. Definitions only.
use Rattle.std.specs.Prelude.{ℕ, not, cond, List, ◌++◌, ltb, eqb, length, Result}
use Rattle.sheet.specs.declared.refusal.Refusal.{Refusal}
use Rattle.sheet.specs.Refusals.{answer, answer_over}
use Rattle.sheet.specs.Words.{bytes_of_all}
use Rattle.sheet.specs.Sheet.{sheet_of}
use Rattle.sheet.specs.Machine.{Machine, machine, parts_for}
use Rattle.machine.specs.Input.{input_number}
use Rattle.narrowing.specs.Narrows.{narrows, narrow_number}
use Rattle.narrowing.specs.Parts.{is_before, is_after, preheat, bake, numbers}
use Rattle.preheat_bake.specs.declared.counts.Counts.{Counts}

-- a part as a sheet, and then the number that each of its links has in the whole
abbrev pub part_bytes : Machine → List ℕ → List ℕ
part_bytes part own = sheet_of (parts_for part) ++ bytes_of_all own

-- the first part, then the second
unfoldable pub parted : ℕ → Machine → List ℕ
unfolding preheat bake numbers parts_for sheet_of bytes_of_all
parted c m = part_bytes (preheat c m) (numbers (is_before c) m) ++ part_bytes (bake c m) (numbers (is_after c) m)

-- of a sheet
abbrev pub answer_of : List ℕ → ℕ → List ℕ
answer_of bytes c = parted c (machine bytes)

-- the number of the refusal, or 0: 1, 14, 2 to 6, then 13, then 21
unfoldable pub split_number : List ℕ → ℕ → ℕ → ℕ
unfolding input_number narrows parted
split_number bytes c room =
    let k = input_number bytes in
    let j = narrow_number c (machine bytes) in
    cond (not (eqb k 0)) k (cond (not (eqb j 0)) j (cond (ltb room (length (answer_of bytes c))) 21 0))

-- how many links each part has
abbrev pub counts_of : ℕ → Machine → Counts
counts_of c m = record { first = length (preheat c m).links; second = length (bake c m).links }

-- what the call answers: these counts, or the refusal of the number
abbrev pub split_answer : List ℕ → ℕ → ℕ → Result Counts Refusal
split_answer bytes c room = answer (counts_of c (machine bytes)) (split_number bytes c room)

-- the result area afterwards: both parts, and then the bytes that were there; where it is refused, just those
abbrev pub split_over : List ℕ → ℕ → List ℕ → List ℕ
split_over bytes c old = answer_over (answer_of bytes c) (split_number bytes c (length old)) old
