use mathlib.Core.Path.{◌≡◌, refl, sym, ap, ◌∙◌}
use mathlib.Core.List.{List}
use Prim.Native.Nat.{ℕ, ◌+◌, ◌-◌, ◌*◌}
use native.Mathlib.Omega.{arith}
use lib.ListN.{length}
use Rattle.search_slots.specs.Slots.{from_word}
use Rattle.list_machine.specs.TrimWords.{mark_back}
use Rattle.list_machine.proofs.Marks.{back_none, back-next, from-keeps, from-other}
use Rattle.slots.specs.Slots.{slot_length}
use Rattle.list_machine.proofs.trim.mark_back.Goals as goal

pub loop-i-init : goal.loop-i-init
loop-i-init c = record { inside = c.requires.2; as_all = refl }

pub loop-i-preserved : goal.loop-i-preserved
loop-i-preserved c =
    let turn = c.loop-i in
    let at = turn.i - 1 in
    let call = c.mark_from in record {
      inside = λ j a b. omega (arith, turn.invariant.inside j a b, turn.invariant.inside at (omega arith) (omega arith), ap (λ (l : List ℕ). from_word l j) call.ensures, from-keeps (length turn.part) at turn.part (omega arith) (slot_length * j + 2) (from-other (length turn.part) j));
      as_all = ap (mark_back (at - 1)) call.ensures ∙ sym (back-next at turn.part (omega arith)) ∙ turn.invariant.as_all;
    }

pub returns : goal.returns
returns c =
    let turn = c.loop-i in
    let none : turn.i - 1 ≡ 0 = omega arith in
    sym (back_none turn.part) ∙ ap (λ (n : ℕ). mark_back n turn.part) (sym none) ∙ turn.invariant.as_all
