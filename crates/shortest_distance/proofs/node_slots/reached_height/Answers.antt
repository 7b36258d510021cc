use mathlib.Core.Path.{◌≡◌, sym, ap, ◌∙◌}
use Prim.Native.Nat.{ℕ, ◌+◌, ◌-◌}
use native.Mathlib.Omega.{arith}
use Rattle.distance.specs.Held.{reached_in}
use Rattle.shortest_distance.specs.NodeSlots.{height_in}
use Rattle.shortest_distance.proofs.Areas.{height-found, height-down}
use Rattle.shortest_distance.proofs.node_slots.reached_height.Goals as goal

pub returns-then-is_some : goal.returns-then-is_some
returns-then-is_some c =
    let turn = c.loop-v in
    let told = c.is_some.ensures ∙ ap reached_in c.distance_at.ensures in
    let top : turn.v - 1 + 1 ≡ turn.v = omega arith in
    top ∙ sym (turn.invariant ∙ height-found c.args.work.now turn.v (omega arith) (sym told ∙ c.if-is_some.true))

pub loop-v-preserved : goal.loop-v-preserved
loop-v-preserved c =
    let turn = c.loop-v in
    let told = c.is_some.ensures ∙ ap reached_in c.distance_at.ensures in
    turn.invariant ∙ height-down c.args.work.now turn.v (omega arith) (sym told ∙ c.if-is_some.false)

pub returns : goal.returns
unfolding height_in
returns c =
    let none : c.loop-v.v ≡ 0 = omega arith in
    sym (c.loop-v.invariant ∙ ap (λ (k : ℕ). height_in c.args.work.now k) none)
