-- What the calls answer, by document 01's numbers and values. Definitions only.
use Rattle.std.specs.Prelude.{◌≡◌, ℕ, cond, List, ◌++◌, eqb, length, take, drop, Result}
use Rattle.sheet.specs.declared.refusal.Refusal.{Refusal}
use Rattle.sheet.specs.declared.tr.Trailer.{Trailer}
use Rattle.sheet.specs.declared.form.Form.{Form}
use Rattle.sheet.specs.Refusals.{answer}
use Rattle.sheet.specs.Sheet.{Parts, read_number, write_number, sheet_of, sheet_length}
use Rattle.sheet.specs.Machine.{machine_of, machine}
use Rattle.sheet.specs.Records.{trailer_at}

-- reading a byte string: the trailer, or the refusal of the number
abbrev pub tested : List ℕ → Result Trailer Refusal
tested bytes = answer (trailer_at bytes) (read_number bytes)

-- the lists, the start and the form that a sheet is written from
abbrev pub parts : List ℕ → List ℕ → ℕ → Form → Parts
parts links nodes start form = record { links = links; nodes = nodes; start = start; form = form }

-- writing them to an area of so many bytes: how many are written, or the refusal of the number
abbrev pub written : Parts → ℕ → Result ℕ Refusal
written p room = answer (sheet_length p) (write_number p room)

-- the area after that: the sheet and then the bytes that were there, or just those where it is refused
abbrev pub written_over : Parts → List ℕ → List ℕ
written_over p old = cond (eqb (write_number p (length old)) 0) (sheet_of p ++ drop (sheet_length p) old) old

-- A sheet written and read back is the same machine: the first `size` bytes of the area are accepted, and their machine is that of the lists, the start and the form.
pub record ReadBack (p : Parts) (size : ℕ) (area : List ℕ) : Type 0 where
  pub accepted : read_number (take size area) ≡ 0
  pub same : machine (take size area) ≡ machine_of p
