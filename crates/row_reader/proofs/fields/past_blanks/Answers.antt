use mathlib.Core.Path.{sym, ◌∙◌}
use native.Mathlib.Omega.{arith}
use borrow.Author.Rules.{rules}
use Rattle.text_rows.specs.Fields.{is_blank}
use Rattle.row_reader.proofs.Runs.{run_on, run-stops, run_ends}
use Rattle.row_reader.proofs.fields.past_blanks.Goals as goal

pub returns-then-not-is_blank-clause-past : goal.returns-then-not-is_blank-clause-past
returns-then-not-is_blank-clause-past c =
    let turn = c.loop-p in
    let stops = run-stops is_blank c.args.text.now turn.p (search rules) (sym c.is_blank.ensures ∙ c.if-not-is_blank.true) in
    sym stops ∙ turn.invariant

pub loop-p-preserved : goal.loop-p-preserved
loop-p-preserved c =
    let turn = c.loop-p in
    let on = run_on is_blank c.args.text.now turn.p (search rules) (sym c.is_blank.ensures ∙ c.if-not-is_blank.false) in
    sym on ∙ turn.invariant

pub returns-clause-past : goal.returns-clause-past
returns-clause-past c =
    let ends = run_ends is_blank c.args.text.now c.loop-p.p (search rules) in
    omega (arith, ends, c.loop-p.invariant)
