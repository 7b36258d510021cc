use mathlib.Core.Path.{◌≡◌}
use Rattle.reversed_machine.specs.ReverseWords.{heads_cleared}
use Rattle.reversed_machine.proofs.reverse.Layout.clear_heads.Given as goal

abbrev pub invariant-loop-q : goal.invariant-loop-q
invariant-loop-q l = l.part ≡ heads_cleared l.self.heads l.q l.initial.part
