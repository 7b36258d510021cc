use mathlib.Core.Path.{◌≡◌}
use Rattle.sheet.specs.Records.{first_link}
use Rattle.narrowing.proofs.links_before.Given as goal

abbrev pub invariant-loop-v : goal.invariant-loop-v
invariant-loop-v l = l.links ≡ first_link l.machine.sheet.bytes.now l.machine.sheet.links l.v
