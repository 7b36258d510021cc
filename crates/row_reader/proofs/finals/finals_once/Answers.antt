use mathlib.Core.Path.{sym, ◌∙◌}
use native.Mathlib.Omega.{arith}
use borrow.Author.Rules.{rules}
use Rattle.row_reader.specs.Places.{rows_left}
use Rattle.row_reader.proofs.FinalRows.{from-begin, once-twice, once-next}
use Rattle.row_reader.proofs.finals.finals_once.Goals as goal

pub loop-first-init : goal.loop-first-init
loop-first-init c = (from-begin (rows_left c.args.text.now 0), λ h. absurd (omega (arith, h)))

pub returns-in_default : goal.returns-in_default
returns-in_default c =
    let text = c.args.text.now in
    let turn = c.loop-first in
    sym (once-twice turn.first (search rules) (rows_left text 0) (sym c.pass_from.ensures ∙ c.in_default.is)) ∙ turn.invariant.0

pub loop-first-smaller : goal.loop-first-smaller
loop-first-smaller c =
    let text = c.args.text.now in
    let turn = c.loop-first in
    let next = c.in-Some in
    let goes = once-next turn.first (search rules) text next.next (sym c.pass_from.ensures ∙ next.is) in
    omega (arith, goes.later, c.loop-first-test)

pub loop-first-preserved : goal.loop-first-preserved
loop-first-preserved c =
    let text = c.args.text.now in
    let turn = c.loop-first in
    let next = c.in-Some in
    let goes = once-next turn.first (search rules) text next.next (sym c.pass_from.ensures ∙ next.is) in
    (sym goes.same ∙ turn.invariant.0, goes.ends)
