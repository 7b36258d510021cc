use mathlib.Core.Path.{sym, ◌∙◌}
use native.Mathlib.Omega.{arith}
use borrow.Author.Rules.{rules}
use Rattle.row_reader.specs.Runs.{in_field}
use Rattle.row_reader.proofs.Runs.{run_on, run-stops, run_ends}
use Rattle.row_reader.proofs.fields.field_end.Goals as goal

pub returns-then-not-in_field-clause-end : goal.returns-then-not-in_field-clause-end
returns-then-not-in_field-clause-end c =
    let turn = c.loop-p in
    let stops = run-stops in_field c.args.text.now turn.p (search rules) (sym c.in_field.ensures ∙ c.if-not-in_field.true) in
    sym stops ∙ turn.invariant

pub loop-p-preserved : goal.loop-p-preserved
loop-p-preserved c =
    let turn = c.loop-p in
    let on = run_on in_field c.args.text.now turn.p (search rules) (sym c.in_field.ensures ∙ c.if-not-in_field.false) in
    sym on ∙ turn.invariant

pub returns-clause-end : goal.returns-clause-end
returns-clause-end c =
    let ends = run_ends in_field c.args.text.now c.loop-p.p (search rules) in
    omega (arith, ends, c.loop-p.invariant)
