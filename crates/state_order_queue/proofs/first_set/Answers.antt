use mathlib.Core.Path.{◌≡◌, sym, ◌∙◌}
use native.Mathlib.Omega.{arith}
use borrow.Author.Rules.{rules}
use Rattle.state_order_queue.proofs.Flags.{first-here, first-turn, first-end}
use Rattle.state_order_queue.proofs.first_set.Goals as goal

pub returns-then-flags-v : goal.returns-then-flags-v
returns-then-flags-v c = let turn = c.loop-v in sym (turn.invariant ∙ first-here c.args.flags.now turn.v c.args.end (search rules) c.if-flags-v.true)

pub loop-v-preserved : goal.loop-v-preserved
loop-v-preserved c = let turn = c.loop-v in turn.invariant ∙ first-turn c.args.flags.now turn.v c.args.end (search rules) c.if-flags-v.false

pub returns : goal.returns
returns c =
    let turn = c.loop-v in
    let all : turn.v ≡ c.args.end = omega arith in
    sym (turn.invariant ∙ first-end c.args.flags.now turn.v c.args.end (omega arith) ∙ all)
