use mathlib.Core.Path.{◌≡◌, sym, ap, ◌∙◌}
use lib.IntN.{pos}
use borrow.Author.Rules.{rules}
use Rattle.std.proofs.Common.{None, Some}
use Rattle.text_rows.specs.Fields as Fields
use Rattle.text_rows.specs.Fields.{number_of, weight_of}
use Rattle.text_rows.specs.Rows.{row_by}
use Rattle.row_reader.proofs.Rowing.{taken_none, taken_more, taken_all, row_for, none_row, three_row, six_row, first_unread, second_unread, third_unread, fourth_unread, node_known, numbers_known}
use Rattle.row_reader.proofs.row.row_of.Goals as goal

pub returns-in_err-first-clause-row : goal.returns-in_err-first-clause-row
returns-in_err-first-clause-row c =
    let made : c.from_residual.result ≡ None = search rules in
    made ∙ sym (ap row_for c.in_err-first.ensures.given.0 ∙ none_row)

pub returns-in_err-node-clause-row : goal.returns-in_err-node-clause-row
returns-in_err-node-clause-row c =
    let one = taken_more (taken_none c.args.fields.now.text c.args.fields.now.at) c.in_ok-first.first.now c.next_field.ensures.kept c.in_ok-first.ensures.given in
    let made : c.from_residual-in_err-node.result ≡ None = search rules in
    made ∙ sym (ap row_for one.are ∙ first_unread c.in_ok-first.first.now _ (sym c.number_in.ensures ∙ c.in_err-node.was))

pub returns-in_default-clause-row : goal.returns-in_default-clause-row
unfolding row_by
returns-in_default-clause-row c =
    let one = taken_more (taken_none c.args.fields.now.text c.args.fields.now.at) c.in_ok-first.first.now c.next_field.ensures.kept c.in_ok-first.ensures.given in
    node_known c.in_ok-first.first.now (Some (Fields.finite (pos 0))) (sym c.number_in.ensures ∙ c.in_ok-node.was)
    ∙ sym (ap row_for (taken_all one c.in_default.ensures.given))

pub returns-in_default-next_field-clause-row : goal.returns-in_default-next_field-clause-row
unfolding row_by
returns-in_default-next_field-clause-row c =
    let one = taken_more (taken_none c.args.fields.now.text c.args.fields.now.at) c.in_ok-first.first.now c.next_field.ensures.kept c.in_ok-first.ensures.given in
    let two = taken_more one c.in-Some.second.now c.next_field-2.ensures.kept c.in-Some.ensures.given in
    c.final_of.ensures
    ∙ node_known c.in_ok-first.first.now _ (sym c.number_in.ensures ∙ c.in_ok-node.was)
    ∙ sym (ap row_for (taken_all two c.in_default-next_field.ensures.given))

pub returns-in_err-next-clause-row : goal.returns-in_err-next-clause-row
returns-in_err-next-clause-row c =
    let one = taken_more (taken_none c.args.fields.now.text c.args.fields.now.at) c.in_ok-first.first.now c.next_field.ensures.kept c.in_ok-first.ensures.given in
    let two = taken_more one c.in-Some.second.now c.next_field-2.ensures.kept c.in-Some.ensures.given in
    let three = taken_more two c.in-Some-next_field.third.now c.next_field-3.ensures.kept c.in-Some-next_field.ensures.given in
    let made : c.from_residual-in_err-next.result ≡ None = search rules in
    made ∙ sym (ap row_for three.are ∙ second_unread c.in_ok-first.first.now c.in-Some.second.now c.in-Some-next_field.third.now _ (sym c.number_in-2.ensures ∙ c.in_err-next.was))

pub returns-in_err-ilabel-clause-row : goal.returns-in_err-ilabel-clause-row
returns-in_err-ilabel-clause-row c =
    let one = taken_more (taken_none c.args.fields.now.text c.args.fields.now.at) c.in_ok-first.first.now c.next_field.ensures.kept c.in_ok-first.ensures.given in
    let two = taken_more one c.in-Some.second.now c.next_field-2.ensures.kept c.in-Some.ensures.given in
    let three = taken_more two c.in-Some-next_field.third.now c.next_field-3.ensures.kept c.in-Some-next_field.ensures.given in
    let made : c.from_residual-in_err-ilabel.result ≡ None = search rules in
    made ∙ sym (ap row_for three.are ∙ third_unread c.in_ok-first.first.now c.in-Some.second.now c.in-Some-next_field.third.now _ (sym c.number_in-3.ensures ∙ c.in_err-ilabel.was))

pub returns-in_err-fourth-clause-row : goal.returns-in_err-fourth-clause-row
returns-in_err-fourth-clause-row c =
    let one = taken_more (taken_none c.args.fields.now.text c.args.fields.now.at) c.in_ok-first.first.now c.next_field.ensures.kept c.in_ok-first.ensures.given in
    let two = taken_more one c.in-Some.second.now c.next_field-2.ensures.kept c.in-Some.ensures.given in
    let three = taken_more two c.in-Some-next_field.third.now c.next_field-3.ensures.kept c.in-Some-next_field.ensures.given in
    let made : c.from_residual-in_err-fourth.result ≡ None = search rules in
    made ∙ sym (ap row_for (taken_all three c.in_err-fourth.ensures.given) ∙ three_row c.in_ok-first.first.now c.in-Some.second.now c.in-Some-next_field.third.now)

pub returns-in_err-olabel-clause-row : goal.returns-in_err-olabel-clause-row
returns-in_err-olabel-clause-row c =
    let one = taken_more (taken_none c.args.fields.now.text c.args.fields.now.at) c.in_ok-first.first.now c.next_field.ensures.kept c.in_ok-first.ensures.given in
    let two = taken_more one c.in-Some.second.now c.next_field-2.ensures.kept c.in-Some.ensures.given in
    let three = taken_more two c.in-Some-next_field.third.now c.next_field-3.ensures.kept c.in-Some-next_field.ensures.given in
    let four = taken_more three c.in_ok-fourth.fourth.now c.next_field-4.ensures.kept c.in_ok-fourth.ensures.given in
    let made : c.from_residual-in_err-olabel.result ≡ None = search rules in
    made ∙ sym (ap row_for four.are ∙ fourth_unread c.in_ok-first.first.now c.in-Some.second.now c.in-Some-next_field.third.now c.in_ok-fourth.fourth.now _ (sym c.number_in-4.ensures ∙ c.in_err-olabel.was))

pub returns-in_default-next_field-2-clause-row : goal.returns-in_default-next_field-2-clause-row
unfolding row_by
returns-in_default-next_field-2-clause-row c =
    let one = taken_more (taken_none c.args.fields.now.text c.args.fields.now.at) c.in_ok-first.first.now c.next_field.ensures.kept c.in_ok-first.ensures.given in
    let two = taken_more one c.in-Some.second.now c.next_field-2.ensures.kept c.in-Some.ensures.given in
    let three = taken_more two c.in-Some-next_field.third.now c.next_field-3.ensures.kept c.in-Some-next_field.ensures.given in
    let four = taken_more three c.in_ok-fourth.fourth.now c.next_field-4.ensures.kept c.in_ok-fourth.ensures.given in
    numbers_known c.in_ok-first.first.now c.in-Some.second.now c.in-Some-next_field.third.now c.in_ok-fourth.fourth.now (Some (Fields.finite (pos 0))) (sym c.number_in.ensures ∙ c.in_ok-node.was) (sym c.number_in-2.ensures ∙ c.in_ok-next.was) (sym c.number_in-3.ensures ∙ c.in_ok-ilabel.was) (sym c.number_in-4.ensures ∙ c.in_ok-olabel.was)
    ∙ sym (ap row_for (taken_all four c.in_default-next_field-2.ensures.given))

pub returns-in-Some-next_field-3-clause-row : goal.returns-in-Some-next_field-3-clause-row
returns-in-Some-next_field-3-clause-row c =
    let one = taken_more (taken_none c.args.fields.now.text c.args.fields.now.at) c.in_ok-first.first.now c.next_field.ensures.kept c.in_ok-first.ensures.given in
    let two = taken_more one c.in-Some.second.now c.next_field-2.ensures.kept c.in-Some.ensures.given in
    let three = taken_more two c.in-Some-next_field.third.now c.next_field-3.ensures.kept c.in-Some-next_field.ensures.given in
    let four = taken_more three c.in_ok-fourth.fourth.now c.next_field-4.ensures.kept c.in_ok-fourth.ensures.given in
    let five = taken_more four c.in-Some-next_field-2.fifth.now c.next_field-5.ensures.kept c.in-Some-next_field-2.ensures.given in
    let six = taken_more five c.in-Some-next_field-3.field-0.now c.next_field-6.ensures.kept c.in-Some-next_field-3.ensures.given in
    sym (ap row_for six.are ∙ six_row c.in_ok-first.first.now c.in-Some.second.now c.in-Some-next_field.third.now c.in_ok-fourth.fourth.now c.in-Some-next_field-2.fifth.now c.in-Some-next_field-3.field-0.now _)

pub returns-in-None-clause-row : goal.returns-in-None-clause-row
unfolding row_by
returns-in-None-clause-row c =
    let one = taken_more (taken_none c.args.fields.now.text c.args.fields.now.at) c.in_ok-first.first.now c.next_field.ensures.kept c.in_ok-first.ensures.given in
    let two = taken_more one c.in-Some.second.now c.next_field-2.ensures.kept c.in-Some.ensures.given in
    let three = taken_more two c.in-Some-next_field.third.now c.next_field-3.ensures.kept c.in-Some-next_field.ensures.given in
    let four = taken_more three c.in_ok-fourth.fourth.now c.next_field-4.ensures.kept c.in_ok-fourth.ensures.given in
    let five = taken_more four c.in-Some-next_field-2.fifth.now c.next_field-5.ensures.kept c.in-Some-next_field-2.ensures.given in
    c.link_of.ensures
    ∙ numbers_known c.in_ok-first.first.now c.in-Some.second.now c.in-Some-next_field.third.now c.in_ok-fourth.fourth.now _ (sym c.number_in.ensures ∙ c.in_ok-node.was) (sym c.number_in-2.ensures ∙ c.in_ok-next.was) (sym c.number_in-3.ensures ∙ c.in_ok-ilabel.was) (sym c.number_in-4.ensures ∙ c.in_ok-olabel.was)
    ∙ sym (ap row_for (taken_all five c.in-None.ensures.given))
