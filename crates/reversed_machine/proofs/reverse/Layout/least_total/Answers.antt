use mathlib.Core.Path.{sym, ◌∙◌}
use borrow.Author.Rules.{rules}
use Rattle.reversed_machine.specs.ReverseWords.{least_total}
use Rattle.reversed_machine.proofs.Passing.{total-plain, total-final}
use Rattle.reversed_machine.proofs.reverse.Layout.least_total.Goals as goal
use Rattle.reversed_machine.proofs.reverse.Layout.least_total.Goals.{in-Some, in_default}

pub loop-v-init : goal.loop-v-init
unfolding least_total
loop-v-init c = c.zero-least.ensures 0 (search rules)

pub loop-v-preserved : goal.loop-v-preserved
loop-v-preserved c =
    let turn = c.loop-v in
    let at = c.args.self.now in
    let part = c.args.part.now in
    let sheet = at.counted.machine.sheet in
    let read = sym c.final_bits.ensures.word in
    elim c.match-final_bits.branch [
      | in-Some w ↦ w.least-is ∙ total-final sheet.bytes.now at.heads sheet.links turn.v part turn.least _ _ _ _ turn.invariant (read ∙ w.in-Some.is) w.distance_at-d.ensures w.total.ensures w.plus-least.ensures.same
      | in_default w ↦ w.least-is ∙ total-plain sheet.bytes.now at.heads sheet.links turn.v part turn.least turn.invariant (read ∙ w.in_default.is)
    ]
