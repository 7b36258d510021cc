use mathlib.Core.Path.{◌≡◌, sym, ap, ◌∙◌}
use mathlib.Core.List.{List}
use Prim.Native.Nat.{ℕ}
use lib.ListN.{length}
use native.Mathlib.Omega.{arith}
use borrow.Author.Rules.{rules}
use Rattle.std.proofs.Common.{Bor, None}
use Rattle.row_reader.specs.Places.{rows_left}
use Rattle.row_reader.specs.Surveying.{survey_from}
use Rattle.row_reader.specs.declared.survey.Survey.{Survey}
use Rattle.row_reader.proofs.Steps.{given-row, given-unread, given-end}
use Rattle.row_reader.proofs.Surveys.{links-most, survey_step, survey-end, surveyed-some}
use Rattle.row_reader.proofs.survey.survey_of.Goals as goal

pub loop-row-preserved : goal.loop-row-preserved
loop-row-preserved c =
    let it = c.loop-row.row-iterator in
    let next = c.next.new.self.at in
    let row = c.in_ok-row.field-0 in
    let step = given-row it.text.now it.at next c.in-Some.row row c.in_ok-row.was c.in-Some.ensures.steps.1 in
    let made = c.with_row-s.ensures in
    let links = ap (λ (s : Survey). s.links) made in record {
      text_is = ap (λ (t : Bor (List ℕ)). t.now) c.in-Some.ensures.steps.0 ∙ c.loop-row.invariant.text_is;
      few = omega (arith, step.later, links, links-most c.loop-row.s row, c.loop-row.invariant.few);
      rest = (λ j. survey_from (made j) (rows_left (c.in-Some.ensures.steps.0 j).now next)) ∙ sym (survey_step it.text.now it.at c.loop-row.s row next step) ∙ c.loop-row.invariant.rest;
    }

pub with_row-s-requires : goal.with_row-s-requires
with_row-s-requires c =
    let it = c.loop-row.row-iterator in
    let step = given-row it.text.now it.at c.next.new.self.at c.in-Some.row c.in_ok-row.field-0 c.in_ok-row.was c.in-Some.ensures.steps.1 in
    omega (arith, step.later, step.within, ap length c.loop-row.invariant.text_is)

pub returns-in_err-row : goal.returns-in_err-row
returns-in_err-row c =
    let it = c.loop-row.row-iterator in
    let made : c.from_residual.result ≡ None = search rules in
    let unread = given-unread it.text.now it.at c.next.new.self.at c.in-Some.row c.in_err-row.was c.in-Some.ensures.steps.1 in
    made ∙ sym (sym c.loop-row.invariant.rest ∙ ap (survey_from c.loop-row.s) unread) ∙ surveyed-some c.args.text.now (search rules)

pub returns : goal.returns
returns c =
    let it = c.loop-row.row-iterator in
    let ended = given-end it.text.now it.at c.next.new.self.at c.in-None.ensures.steps.1 in
    sym (survey-end c.loop-row.s (rows_left it.text.now it.at) ended) ∙ c.loop-row.invariant.rest ∙ surveyed-some c.args.text.now (search rules)
