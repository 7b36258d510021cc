use borrow.Author.Rules.{rules}
use mathlib.Core.Path.{sym, ap, ◌∙◌}
use mathlib.Core.List.{List}
use Prim.Native.Nat.{ℕ, ◌+◌, ◌*◌}
use native.Mathlib.Omega.{arith}
use lib.ListN.{set}
use Rattle.slots.specs.Slots.{slot_length, nothing}
use Rattle.reversed_machine.specs.ReverseWords.{heads_cleared}
use Rattle.reversed_machine.proofs.Passing.{cleared-next, machine-fields}
use Rattle.reversed_machine.proofs.reverse.Layout.clear_heads.Goals as goal

pub overflow_add-q-end : goal.overflow_add-q-end
overflow_add-q-end c = omega (arith, (machine-fields c.args.self.now.counted.machine).few-nodes)

pub loop-q-init : goal.loop-q-init
unfolding heads_cleared
loop-q-init c = search rules

pub loop-q-preserved : goal.loop-q-preserved
loop-q-preserved c =
    let heads = c.args.self.now.heads in
    let turn = c.loop-q in
    let at = heads + slot_length * turn.q in
    ap (λ (l : List ℕ). set (set l (at + 2) nothing) (at + 3) 0) turn.invariant ∙ sym (cleared-next heads turn.q c.args.part.now)
