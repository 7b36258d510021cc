-- What the answer means to the user, in the words of requests (f) and (h). Definitions only.
use Rattle.std.specs.Prelude.{◌≡◌, ◌↔◌, ℕ, ◌<◌, List, length, take, Result, IfOk}
use Rattle.sheet.specs.declared.refusal.Refusal.{Refusal}
use Rattle.sheet.specs.Refusals.{number_in}
use Rattle.sheet.specs.Sheet.{form_of}
use Rattle.sheet.specs.Machine.{machine}
use Rattle.machine.specs.Input.{input_number}
use Rattle.product.specs.Halves.{OneToOne}
use Rattle.product.specs.Refused.{Refused, Unrefused}
use Rattle.two_probes.specs.Outcome.{both, answer_of}

-- The first `size` bytes of the area are the sheet of what two sheets both allow.
pub record Allowed (first second : List ℕ) (size : ℕ) (area : List ℕ) : Type 0 where
  -- it passes tests 1, 14 and 2 to 6 itself
  pub accepted : input_number (take size area) ≡ 0
  -- its nodes, links, weights, start and form are those of the product
  pub same : machine (take size area) ≡ both first second
  -- it keeps the first's trailer, of five fields or of six, with its unit
  pub form : form_of (take size area) ≡ form_of first
  -- its readings correspond one to one to pairs of readings with the same labels, and cost their sum
  pub readings : OneToOne (machine first) (machine second) (machine (take size area))

-- Why two sheets that pass tests 1, 14 and 2 to 6, each by itself, are refused, with an area of so many bytes: each number in its condition, and in no other.
pub record Reasons (first second : List ℕ) (room number : ℕ) : Type 0 where
  -- 14 for unequal units, 10, 11 and 12
  pub refused : Refused (machine first) (machine second) number
  -- 21: for none of these, and since the area is shorter than this very answer
  pub short : number ≡ 21 ↔ (Unrefused (machine first) (machine second) × (room < length (answer_of first second)))

-- Of an answer, with an area of so many bytes, and the area afterwards.
pub record Promised (first second : List ℕ) (room : ℕ) (r : Result ℕ Refusal) (area : List ℕ) : Type 0 where
  pub made : IfOk r (λ size. Allowed first second size area)
  pub why : input_number first ≡ 0 → input_number second ≡ 0 → Reasons first second room (number_in r)
