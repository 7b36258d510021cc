use mathlib.Core.Path.{◌≡◌}
use Prim.Native.Nat.{◌+◌}
use lib.ListN.{drop}
use Rattle.text_rows.specs.Fields.{is_blank}
use Rattle.row_reader.specs.Runs.{run_of}
use Rattle.row_reader.proofs.fields.past_blanks.Given as goal

-- what is left of the run is that of the whole
abbrev pub invariant-loop-p : goal.invariant-loop-p
invariant-loop-p l = l.p + run_of is_blank (drop l.p l.text) ≡ l.at + run_of is_blank (drop l.at l.text)
