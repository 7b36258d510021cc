use mathlib.Core.Path.{◌≡◌}
use Rattle.list_machine.specs.TrimWords.{mark_listed}
use Rattle.list_machine.proofs.trim.mark_listed.Given as goal

abbrev pub invariant-loop-k : goal.invariant-loop-k
invariant-loop-k l = l.part ≡ mark_listed l.k l.initial.part
