use mathlib.Core.Path.{◌≡◌}
use mathlib.Core.List.{[]}
use Prim.Native.Nat.{◌^◌}
use Rattle.row_reader.specs.Places.{rows_left}
use Rattle.row_reader.specs.FinalRows.{falling, pass_from}
use Rattle.row_reader.proofs.finals.pass_from.Given as goal

abbrev pub invariant-loop-row : goal.invariant-loop-row
invariant-loop-row l = record {
  first : l.pass.first ≡ l.first;
  rest : pass_from l.first (falling l.pass.kept l.pass.count) l.pass.limit (rows_left l.row-iterator.text.now l.row-iterator.at) ≡ pass_from l.first [] (2 ^ 32) (rows_left l.fn.text 0);
}
