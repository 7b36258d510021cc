use borrow.Author.Rules.{rules}
use mathlib.Core.Path.{◌≡◌, sym, ap, ◌∙◌}
use mathlib.Core.List.{List}
use Prim.Native.Nat.{ℕ, ◌+◌, ◌*◌}
use native.Mathlib.Omega.{arith}
use lib.ListN.{length, set}
use Rattle.search_slots.specs.Slots.{listed_word}
use Rattle.list_machine.specs.TrimWords.{mark_listed}
use Rattle.list_machine.proofs.Marks.{listed_next, listed-keeps, listed-other}
use Rattle.slots.specs.Slots.{slot_length}
use Rattle.list_machine.proofs.trim.mark_listed.Goals as goal

pub loop-k-init : goal.loop-k-init
unfolding mark_listed
loop-k-init c = search rules

-- no mark changes which entry is listed next
pub bounds-part-i : goal.bounds-part-i
bounds-part-i c =
    let turn = c.loop-k in
    let old = c.args.part.now in
    let same : listed_word turn.part turn.k ≡ listed_word old turn.k = ap (λ (l : List ℕ). listed_word l turn.k) turn.invariant ∙ listed-keeps (length old) turn.k old (λ j h. omega (arith, c.requires.1 j (omega arith))) (slot_length * turn.k + 6) (listed-other (length old) turn.k) in
    omega (arith, same, c.requires.1 turn.k (omega arith))

pub loop-k-preserved : goal.loop-k-preserved
loop-k-preserved c =
    let turn = c.loop-k in
    ap (λ (l : List ℕ). set l (slot_length * listed_word l turn.k + 7) 1) turn.invariant ∙ sym (listed_next turn.k c.args.part.now)
