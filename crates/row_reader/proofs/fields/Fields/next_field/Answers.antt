use mathlib.Core.Path.{◌∙◌}
use Rattle.row_reader.proofs.Places.{none_left, one_more}
use Rattle.row_reader.proofs.fields.Fields.next_field.Goals as goal

pub returns-then-from-to-clause-given : goal.returns-then-from-to-clause-given
returns-then-from-to-clause-given c =
    let self = c.args.self.now in
    let left = none_left self.text.now self.at _ _ c.span_at-from.ensures c.if-from-to.true in
    (left.0, left.1 ∙ c.if-from-to.true)

pub returns-clause-given : goal.returns-clause-given
returns-clause-given c =
    let self = c.args.self.now in
    one_more self.text.now self.at _ _ c.span_at-from.ensures c.if-from-to.false
