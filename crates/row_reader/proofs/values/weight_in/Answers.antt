use mathlib.Core.Path.{sym, ◌∙◌}
use Rattle.row_reader.proofs.Weighing.{weight-barred, weight-decimal}
use Rattle.row_reader.proofs.values.weight_in.Goals as goal

pub returns-then-is_infinity : goal.returns-then-is_infinity
returns-then-is_infinity c = sym (weight-barred c.args.field.now (sym c.is_infinity.ensures ∙ c.if-is_infinity.true))

pub returns : goal.returns
returns c = c.decimal_in.ensures ∙ sym (weight-decimal c.args.field.now (sym c.is_infinity.ensures ∙ c.if-is_infinity.false))
