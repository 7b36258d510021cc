use mathlib.Core.Path.{◌≡◌}
use Rattle.row_reader.specs.FinalRows.{falling, has, put_in}
use Rattle.row_reader.proofs.finals.put.Given as goal

-- with the nodes that are left, as with all
abbrev pub invariant-loop-j : goal.invariant-loop-j
invariant-loop-j l = record {
  told : has l.node (falling l.kept l.j) ≡ has l.node (falling l.initial.kept l.count);
  put : put_in l.node l.kept l.j ≡ put_in l.node l.initial.kept l.count;
}
