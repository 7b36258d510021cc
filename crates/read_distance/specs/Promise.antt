-- Of a result that begins with the distances of an accepted sheet, each node's own distance is told in the unit of the sheet. Definitions only.
use Rattle.std.specs.Prelude.{◌≡◌, Some, None, Ok, List, ℕ, ◌*◌, ◌<◌, length, take}
use Rattle.sheet.specs.Machine.{unit_in, machine}
use Rattle.machine.specs.Distance.{Distance, reached, unreached, distance, distances}
use Rattle.machine.specs.Input.{input_number}
use Rattle.distance.specs.Written.{written_length}
use Rattle.shortest_distance.specs.Outcome.{answer_of}
use Rattle.read_distance.specs.Told.{Told}

-- a distance, as it is told
abbrev pub as_told : Distance → Told
as_told (reached k) = Ok (Some k)
as_told unreached = Ok None

-- The result begins with the distances of a sheet, which are so many. The call for distances leaves such a one, as is proved.
pub record Holds (sheet : List ℕ) (values : ℕ) (result : List ℕ) : Type 0 where
  pub accepted : input_number sheet ≡ 0
  pub count : values ≡ length (distances (machine sheet))
  pub begins : take (written_length * values) result ≡ answer_of sheet

-- of a node below the count nothing is refused where it is told in the unit of the sheet: what is told is its distance
abbrev pub ReadBack : ℕ → List ℕ → ℕ → ℕ → Told → Type 0
ReadBack j result values node r = (sheet : List ℕ) → Holds sheet values result → j ≡ unit_in (machine sheet) → node < values → r ≡ as_told (distance (machine sheet) node)
