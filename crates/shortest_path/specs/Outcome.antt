-- The outcome of the open call for lists: one function of the sheet's bytes, n and the areas' lengths gives the refusal or the answer. Definitions only.
use Rattle.std.specs.Prelude.{ℕ, ◌/◌, not, ◌||◌, cond, List, ◌++◌, ltb, eqb, length, drop, Result as Answer}
use Rattle.tropical_weight.specs.Limits.{list_limit}
use Rattle.machine.specs.Input.{input_number}
use Rattle.sheet.specs.Machine.{machine}
use Rattle.sheet.specs.declared.refusal.Refusal.{Refusal}
use Rattle.sheet.specs.Refusals.{answer}
use Rattle.slots.specs.Slots.{slot_length, cleared}
use Rattle.search.specs.ListMachine.{Result, result_for, result_bytes}
use Rattle.list_answer.specs.declared.Listed.{Listed}
use Rattle.list_answer.specs.ListAnswer.{slots_for}

-- the result for n of a sheet's machine
abbrev pub result_of : List ℕ → ℕ → Result
result_of bytes n = result_for (machine bytes) n

-- its machine as a sheet, then one word per link of it
abbrev pub answer_of : List ℕ → ℕ → List ℕ
answer_of bytes n = result_bytes (result_of bytes n)

-- the work slots needed
abbrev pub slots_needed : List ℕ → ℕ → ℕ
slots_needed bytes n = slots_for (machine bytes) n

-- the first number of 1, 14 and 2 to 7 whose test fails, or else the last
unfoldable pub tested_number : List ℕ → ℕ → ℕ → ℕ
unfolding input_number
tested_number bytes n last = let k = input_number bytes in cond (not (eqb k 0)) k (cond (ltb list_limit n) 7 last)

-- 20, 21 or 0. The work area has so many words, the result area so many bytes.
abbrev pub areas_number : List ℕ → ℕ → ℕ → ℕ → ℕ
areas_number bytes n words room = cond (ltb (words / slot_length) (slots_needed bytes n)) 20 (cond (ltb room (length (answer_of bytes n))) 21 0)

-- the number of the refusal, or 0: 1, 14 and 2 to 7, then 20 and 21
unfoldable pub list_number : List ℕ → ℕ → ℕ → ℕ → ℕ
unfolding tested_number result_for result_bytes
list_number bytes n words room = tested_number bytes n (areas_number bytes n words room)

-- what the call answers: the counts of the machine's nodes and links and of the entries taken, or the refusal of the number
abbrev pub counts_of : Result → Listed
counts_of r = record { nodes = length r.machine.finals; links = length r.machine.links; taken = r.taken }

abbrev pub list_answer : List ℕ → ℕ → ℕ → ℕ → Answer Listed Refusal
list_answer bytes n words room = answer (counts_of (result_of bytes n)) (list_number bytes n words room)

-- the work area afterwards: from 21 on the slots needed are zero, and those beyond keep their value; before, all do
abbrev pub work_after : List ℕ → ℕ → List ℕ → ℕ → List ℕ
work_after bytes n work room =
    let k = list_number bytes n (length work) room in
    let zeroed = cleared (slots_needed bytes n) work in
    cond (eqb k 0 || eqb k 21) zeroed work

-- the result area afterwards: the answer, and then the bytes that were there; where it is refused, just those
abbrev pub result_after : List ℕ → ℕ → ℕ → List ℕ → List ℕ
result_after bytes n words result =
    let written = answer_of bytes n ++ drop (length (answer_of bytes n)) result in
    cond (eqb (list_number bytes n words (length result)) 0) written result
