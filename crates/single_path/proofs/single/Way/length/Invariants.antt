use mathlib.Core.Path.{◌≡◌}
use Prim.Native.Nat.{◌+◌, ◌≤◌}
use lib.ListN.{length}
use Rattle.single_path.specs.SingleWords.{way_back}
use Rattle.single_path.proofs.single.Way.length.Given as goal

abbrev pub invariant-loop-parent : goal.invariant-loop-parent
invariant-loop-parent l =
    let work = l.self.work.now in
    record {
      fell : l.n + l.v ≤ l.self.end;
      rest : l.n + length (way_back work l.v l.v) ≡ length (way_back work l.self.end l.self.end);
    }

abbrev pub decreases-loop-parent : goal.decreases-loop-parent
decreases-loop-parent l = l.v
