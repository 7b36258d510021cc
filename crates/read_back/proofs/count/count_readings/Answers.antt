use mathlib.Core.Path.{◌≡◌, sym, ◌∙◌}
use Rattle.std.proofs.Common.{Err, rules}
use Rattle.sheet.specs.declared.form.Form.TheVariants as Form
use Rattle.sheet.proofs.Refusals.{answer-none}
use Rattle.read_back.specs.Way.{count_in}
use Rattle.read_back.specs.Answers.{count_number}
use Rattle.read_back.proofs.Answering.{counts-list, answer-as}
use Rattle.read_back.proofs.count.count_readings.Goals as goal

pub returns-in_err-new : goal.returns-in_err-new
returns-in_err-new c =
    let a = c.args in
    let made : c.from_residual.result ≡ Err c.in_err-new.field-0.0 = search rules in
    let value = made ∙ answer-none (count_in a.res.now a.nodes a.links a.n) (count_number Form.Short a.res.now a.n a.nodes a.links) _ c.in_err-new.ensures.number in
    record { value = value; counts_list = counts-list a.res.now a.n a.nodes a.links _ value }

pub returns : goal.returns
returns c =
    let a = c.args in
    let s = c.in_ok-new.ensures.same in
    let count : c.count.result ≡ count_in a.res.now a.nodes a.links a.n = c.count.ensures ∙ λ i. count_in (s.0 i).now (s.2 i) (s.3 i) (s.1 i) in
    let value = sym (answer-as (count_in a.res.now a.nodes a.links a.n) c.count.result (count_number Form.Short a.res.now a.n a.nodes a.links) (sym c.in_ok-new.ensures.number) (sym count)) in
    record { value = value; counts_list = counts-list a.res.now a.n a.nodes a.links _ value }
