-- The outcome of the open call for distances: one function of the sheet's bytes and the areas' lengths gives the refusal or the answer. Definitions only.
use Rattle.std.specs.Prelude.{ℕ, ◌/◌, not, ◌||◌, cond, ltb, eqb, length, drop, Result}
use mathlib.Core.List.{List, ◌++◌, flat_map}
use Rattle.sheet.specs.Words.{bytes_of_all}
use Rattle.sheet.specs.Sheet.{node_count, parts_of}
use Rattle.sheet.specs.Machine.{unit_in, machine}
use Rattle.machine.specs.Distance.{distances}
use Rattle.machine.specs.Input.{input_number}
use Rattle.distance.specs.Written.{written}
use Rattle.sheet.specs.declared.refusal.Refusal.{Refusal}
use Rattle.sheet.specs.Refusals.{answer}
use Rattle.slots.specs.Slots.{slot_length, cleared}

-- one distance per node up to the highest reached, or led to from a reached one, two words each, in the unit of the sheet
abbrev pub answer_of : List ℕ → List ℕ
answer_of bytes = bytes_of_all (flat_map (written (unit_in (machine bytes))) (distances (machine bytes)))

-- the work slots needed
abbrev pub slots_needed : List ℕ → ℕ
slots_needed bytes = node_count (parts_of bytes)

-- The number of the refusal, or 0: 1, 14 and 2 to 6, then 20 and 21. The work area has so many words, the result area so many bytes.
unfoldable pub distance_number : List ℕ → ℕ → ℕ → ℕ
unfolding input_number distances flat_map
distance_number bytes words room =
    let k = input_number bytes in
    let state : ℕ = cond (ltb (words / slot_length) (slots_needed bytes)) 20 (cond (ltb room (length (answer_of bytes))) 21 0) in
    cond (not (eqb k 0)) k state

-- what the call answers: how many distances it wrote, or the refusal of the number
abbrev pub distance_answer : List ℕ → ℕ → ℕ → Result ℕ Refusal
distance_answer bytes words room = answer (length (distances (machine bytes))) (distance_number bytes words room)

-- the work area afterwards: from 21 on the slots needed are zero, and those beyond keep their value; before, all do
abbrev pub work_after : List ℕ → List ℕ → ℕ → List ℕ
work_after bytes work room =
    let k = distance_number bytes (length work) room in
    let zeroed = cleared (slots_needed bytes) work in
    cond (eqb k 0 || eqb k 21) zeroed work

-- the result area afterwards: the answer, and then the bytes that were there; where it is refused, just those
abbrev pub result_after : List ℕ → ℕ → List ℕ → List ℕ
result_after bytes words result =
    let answer = answer_of bytes ++ drop (length (answer_of bytes)) result in
    cond (eqb (distance_number bytes words (length result)) 0) answer result
