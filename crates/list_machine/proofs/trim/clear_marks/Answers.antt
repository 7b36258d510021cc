use borrow.Author.Rules.{rules}
use mathlib.Core.Path.{sym, ap, ◌∙◌}
use mathlib.Core.List.{List}
use Prim.Native.Nat.{ℕ, ◌+◌, ◌*◌}
use lib.ListN.{set}
use Rattle.list_machine.specs.TrimWords.{unmarked}
use Rattle.list_machine.proofs.Marks.{unmarked-next}
use Rattle.slots.specs.Slots.{slot_length}
use Rattle.list_machine.proofs.trim.clear_marks.Goals as goal

pub loop-i-init : goal.loop-i-init
unfolding unmarked
loop-i-init c = search rules

pub loop-i-preserved : goal.loop-i-preserved
loop-i-preserved c =
    let turn = c.loop-i in
    ap (λ (l : List ℕ). set l (slot_length * turn.i + 7) 0) turn.invariant ∙ sym (unmarked-next turn.i c.args.part.now)
