use mathlib.Core.Path.{◌≡◌, refl, sym, ◌∙◌}
use mathlib.Core.Bool.{Bool, true, false, cond}
use Prim.Native.Nat.{ℕ, ◌+◌, max}
use native.Mathlib.Omega.{arith}
use lib.Dec.{leb}
use borrow.Author.Tests.{leb-true, leb-false}
use Rattle.shortest_distance.specs.NodeSlots.{led_from}
use Rattle.shortest_distance.proofs.Lengths.{led-from-next}
use Rattle.shortest_distance.proofs.node_slots.led_from.Goals as goal

raised : (top next : ℕ) → max top (next + 1) ≡ cond (leb top next) (next + 1) top
raised top next = go (leb top next) refl
  where
    go : (t : Bool) → leb top next ≡ t → max top (next + 1) ≡ cond t (next + 1) top
    go true e = omega (arith, leb-true top next e)
    go false e = omega (arith, leb-false top next e)

pub loop-i-init : goal.loop-i-init
unfolding led_from
loop-i-init c = refl

pub loop-i-preserved : goal.loop-i-preserved
loop-i-preserved c =
    let source = c.args.source.now in
    let turn = c.loop-i in
    c.max-top.ensures ∙ (λ j. max (turn.invariant j) (c.next.ensures.word j + 1)) ∙ raised _ _ ∙ sym (led-from-next source.sheet.bytes.now source.first turn.i c.args.height)
