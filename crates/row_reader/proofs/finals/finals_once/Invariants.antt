use mathlib.Core.Path.{◌≡◌}
use mathlib.Core.Bool.{true}
use Prim.Native.Nat.{◌-◌, ◌^◌, ◌≤◌}
use Rattle.row_reader.specs.Places.{rows_left}
use Rattle.row_reader.specs.FinalRows.{once_in}
use Rattle.row_reader.proofs.FinalRows.{once_from_in}
use Rattle.row_reader.proofs.finals.finals_once.Given as goal

abbrev pub invariant-loop-first : goal.invariant-loop-first
invariant-loop-first l = (once_from_in l.first (rows_left l.text 0) ≡ once_in (rows_left l.text 0)) × (2 ^ 32 ≤ l.first → once_from_in l.first (rows_left l.text 0) ≡ true)

abbrev pub decreases-loop-first : goal.decreases-loop-first
decreases-loop-first l = 2 ^ 32 - l.first
