use mathlib.Core.Path.{◌≡◌, refl, sym}
use native.Mathlib.Omega.{arith}
use borrow.Author.Rules.{rules}
use Rattle.tropical_weight.specs.Limits.{node_limit}
use Rattle.state_order_queue.specs.Queues.{flags_inside}
use Rattle.sheet.specs.Below.{all_below}
use Rattle.sheet.proofs.Below.{all_below-fails, all_below-more}
use Rattle.state_order_queue.proofs.Queue.flags_inside.Goals as goal
use Rattle.state_order_queue.proofs.Queue.flags_inside.Goals.{else-self-v-via-then-self-v+else-not-is_inside, else-self-v-via-else-self-v}

pub loop-v-init : goal.loop-v-init
unfolding all_below
loop-v-init c = refl

pub returns-then-not-is_inside : goal.returns-then-not-is_inside
unfolding flags_inside
returns-then-not-is_inside c = sym (all_below-fails node_limit _ c.loop-v.v (search rules) (simp (c.if-self-v.true, sym c.is_inside.ensures, c.if-not-is_inside.true)))

pub loop-v-preserved : goal.loop-v-preserved
loop-v-preserved c =
    all_below-more c.loop-v.v _ c.loop-v.invariant (elim c.else-self-v.branch [
      | else-self-v-via-then-self-v+else-not-is_inside w ↦ simp (sym w.is_inside.ensures, w.if-not-is_inside.false, w.if-self-v.true)
      | else-self-v-via-else-self-v w ↦ simp w.if-self-v.false
    ])

pub returns : goal.returns
unfolding flags_inside
returns c = let all : c.loop-v.v ≡ node_limit = omega arith in sym (rw all at c.loop-v.invariant)
