use mathlib.Core.Path.{refl}
use native.Mathlib.Omega.{arith}
use Rattle.sheet.specs.Below.{sum_below}
use Rattle.read_back.proofs.walk.Walk.begin.Goals as goal

pub invariant_of-lowest : goal.invariant_of-lowest
unfolding sum_below
invariant_of-lowest c = record { inside = omega arith; begins = refl }
