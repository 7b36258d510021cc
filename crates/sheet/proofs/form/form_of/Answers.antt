use mathlib.Core.Path.{sym, ap, ◌∙◌}
use native.Mathlib.Omega.{arith}
use Rattle.sheet.specs.declared.form.Form.TheVariants as Form
use Rattle.sheet.specs.Sheet.{long_trailer}
use Rattle.sheet.proofs.Forms.{laid-out, form-long, form-neither}
use Rattle.sheet.proofs.form.form_of.Goals as goal

pub field_back-requires : goal.field_back-requires
field_back-requires c = (
  (laid-out long_trailer c.args.sheet.now (sym c.laid_out.ensures ∙ c.if-laid_out.true)).long-enough,
  omega arith,
)

pub returns-then-laid_out : goal.returns-then-laid_out
returns-then-laid_out c = ap Form.Long c.field_back.ensures ∙ sym (form-long c.args.sheet.now (sym c.laid_out.ensures ∙ c.if-laid_out.true))

pub returns-else-laid_out : goal.returns-else-laid_out
returns-else-laid_out c = sym (form-neither c.args.sheet.now (sym c.laid_out.ensures ∙ c.if-laid_out.false))
