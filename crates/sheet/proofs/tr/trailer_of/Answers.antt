use mathlib.Core.Path.{ap}
use native.Mathlib.Omega.{arith}
use Rattle.sheet.specs.Sheet.{trailer_length}
use Rattle.sheet.proofs.Forms.{size-within}
use Rattle.sheet.proofs.tr.trailer_of.Goals as goal

pub overflow_sub-at : goal.overflow_sub-at
overflow_sub-at c = omega (arith, c.trailer.ensures, ap trailer_length c.form_of-form.ensures, size-within c.args.sheet.now c.requires)
