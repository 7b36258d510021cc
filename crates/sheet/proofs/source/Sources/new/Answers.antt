use mathlib.Core.Path.{refl}
use native.Mathlib.Omega.{arith}
use Rattle.sheet.specs.Below.{sum_below}
use Rattle.sheet.proofs.source.Sources.new.Goals as goal

pub invariant_of-result : goal.invariant_of-result
unfolding sum_below
invariant_of-result c = record { upto = omega arith; begins = refl }
