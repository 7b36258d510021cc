use mathlib.Core.Path.{◌≡◌}
use Prim.Native.Nat.{◌+◌}
use lib.ListN.{drop}
use Rattle.row_reader.specs.Runs.{run_of, in_field}
use Rattle.row_reader.proofs.fields.field_end.Given as goal

-- what is left of the run is that of the whole
abbrev pub invariant-loop-p : goal.invariant-loop-p
invariant-loop-p l = l.p + run_of in_field (drop l.p l.text) ≡ l.at + run_of in_field (drop l.at l.text)
