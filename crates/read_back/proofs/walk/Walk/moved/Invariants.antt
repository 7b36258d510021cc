use mathlib.Core.Path.{◌≡◌}
use Rattle.sheet.specs.Records.{first_link}
use Rattle.read_back.proofs.walk.Walk.moved.Given as goal

abbrev pub invariant-loop-v : goal.invariant-loop-v
invariant-loop-v l = l.first ≡ first_link l.self.at.sheet.bytes.now l.self.at.sheet.links l.v
