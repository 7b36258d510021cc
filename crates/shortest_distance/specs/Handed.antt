-- Mirrors the code: handing words over to a result area, where it has room. A reader need not believe it: laws tie it to Outcome (proofs/Outcomes).
-- Definitions only.
use Rattle.std.specs.Prelude.{ℕ, ◌*◌, Bool, true, false, cond, List, ◌++◌, ltb, length, drop, Result, Ok, Err}
use Rattle.sheet.specs.Words.{bytes_of_all}
use Rattle.distance.specs.Written.{written_length}
use Rattle.sheet.specs.declared.refusal.Refusal.{Refusal}

abbrev pub handed_by : Bool → ℕ → Result ℕ Refusal
handed_by true count = Err Refusal.Room
handed_by false count = Ok count

-- so many distances, of two words each, to an area of so many bytes
abbrev pub handed : ℕ → ℕ → Result ℕ Refusal
handed count room = handed_by (ltb room (written_length * count)) count

-- the area afterwards
abbrev pub handed_over : List ℕ → List ℕ → List ℕ
handed_over ws result = cond (ltb (length result) (length (bytes_of_all ws))) result (bytes_of_all ws ++ drop (length (bytes_of_all ws)) result)
