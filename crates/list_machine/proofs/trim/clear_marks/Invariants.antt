use mathlib.Core.Path.{◌≡◌}
use Rattle.list_machine.specs.TrimWords.{unmarked}
use Rattle.list_machine.proofs.trim.clear_marks.Given as goal

abbrev pub invariant-loop-i : goal.invariant-loop-i
invariant-loop-i l = l.part ≡ unmarked l.i l.initial.part
