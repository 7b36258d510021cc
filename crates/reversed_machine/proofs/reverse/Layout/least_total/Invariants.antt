use mathlib.Core.Path.{◌≡◌}
use Rattle.reversed_machine.specs.ReverseWords.{least_total}
use Rattle.reversed_machine.proofs.reverse.Layout.least_total.Given as goal

abbrev pub invariant-loop-v : goal.invariant-loop-v
invariant-loop-v l = let at = l.self in let s = at.counted.machine.sheet in l.least ≡ least_total s.bytes.now at.heads s.links l.v l.part
