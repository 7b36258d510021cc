-- The outcome of the call on two sheets: one function of the bytes of both and the area's length gives the refusal or the answer. Definitions only.
use Rattle.std.specs.Prelude.{ℕ, Bool, not, cond, List, ltb, eqb, length, Result}
use Rattle.sheet.specs.declared.refusal.Refusal.{Refusal}
use Rattle.sheet.specs.Refusals.{answer, answer_over}
use Rattle.sheet.specs.Sheet.{unit_of, form_of, sheet_of}
use Rattle.sheet.specs.Machine.{Machine, machine, parts_for}
use Rattle.machine.specs.Input.{input_number}
use Rattle.product.specs.Product.{product}
use Rattle.product.specs.Refusals.{product_number}

-- the machine of what two sheets both allow
abbrev pub both : List ℕ → List ℕ → Machine
both first second = product (machine first) (machine second)

-- its sheet
abbrev pub answer_of : List ℕ → List ℕ → List ℕ
answer_of first second = sheet_of (parts_for (both first second))

-- whether the weights of two sheets are in one unit
abbrev pub one_unit : List ℕ → List ℕ → Bool
one_unit first second = eqb (unit_of (form_of first)) (unit_of (form_of second))

-- of the second sheet: its 1; then 14 for a unit that is not the first's; then its other numbers, which begin with 14 for a unit that no sheet may have
unfoldable pub second_number : List ℕ → List ℕ → ℕ
unfolding input_number form_of
second_number first second =
    let k = input_number second in
    cond (eqb k 1) 1 (cond (one_unit first second) k 14)

-- the number of the refusal, or 0: 1, 14 and 2 to 6 of the first sheet, 1, 14 and 2 to 6 of the second, then 10, 11 and 12, then 21
unfoldable pub both_number : List ℕ → List ℕ → ℕ → ℕ
unfolding input_number second_number product_number product parts_for sheet_of
both_number first second room =
    let i = input_number first in
    let j = second_number first second in
    let k = product_number (machine first) (machine second) in
    cond (not (eqb i 0)) i (cond (not (eqb j 0)) j (cond (not (eqb k 0)) k (cond (ltb room (length (answer_of first second))) 21 0)))

-- what the call answers: the bytes of the sheet, or the refusal of the number
abbrev pub both_answer : List ℕ → List ℕ → ℕ → Result ℕ Refusal
both_answer first second room = answer (length (answer_of first second)) (both_number first second room)

-- the result area afterwards: the sheet, and then the bytes that were there; where it is refused, just those
abbrev pub both_over : List ℕ → List ℕ → List ℕ → List ℕ
both_over first second old = answer_over (answer_of first second) (both_number first second (length old)) old
