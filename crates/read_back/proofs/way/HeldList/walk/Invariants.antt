use mathlib.Core.Path.{◌≡◌}
use Rattle.sheet.specs.Machine.{machine}
use Rattle.read_back.specs.Walks.{outcome, way_in, way_to}
use Rattle.read_back.proofs.way.HeldList.walk.Given as goal

abbrev pub invariant-loop-q : goal.invariant-loop-q
invariant-loop-q l =
    let m = machine l.begun.at.sheet.bytes.now in
    record {
      sheet : l.w.at.sheet.bytes.now ≡ l.begun.at.sheet.bytes.now;
      rest : outcome m l.w.at.node l.w.count (way_in l.self l.q) ≡ outcome m l.begun.at.node l.begun.count (way_to l.self l.k);
    }

abbrev pub decreases-loop-q : goal.decreases-loop-q
decreases-loop-q l = l.q
