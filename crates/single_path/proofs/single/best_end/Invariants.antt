use mathlib.Core.Path.{◌≡◌}
use Rattle.single_path.specs.SingleWords.{best_below}
use Rattle.single_path.proofs.single.best_end.Given as goal

abbrev pub invariant-loop-v : goal.invariant-loop-v
invariant-loop-v l =
    let sheet = l.machine.sheet in
    let so_far = best_below sheet.bytes.now sheet.links l.work l.v in
    record {
      end : l.best ≡ so_far.end;
      total : l.least ≡ so_far.least;
    }
