-- The controllers' units are among those that the laws cover, and the shifts of the finer one stand in the table of the other. Assumes nothing.
use Rattle.std.proofs.Common.{◌≡◌, ℕ, ◌+◌, ◌-◌, ◌≤◌, min, ap, arith, lit≤}
use Rattle.tropical_weight.specs.Limits.{finest}
use Rattle.tropical_weight.specs.Grid.{grid_shift}
use Rattle.tropical_weight.specs.Units.{places}
use Rattle.tropical_weight.specs.declared.unit.Unit.{Unit}

pub covered : (u : Unit) → places u ≤ finest
covered Unit.Of64 = lit≤ tt
covered Unit.Of256 = lit≤ tt

-- with d more places a field's shift is that of the field d further on
pub finer-shift : (j d i e : ℕ) → j + d ≡ i → grid_shift j (e + d) ≡ grid_shift i e
unfolding grid_shift
finer-shift j d i e h = ap (min 24) (let z : 150 - j - (e + d) ≡ 150 - i - e = omega arith in z)
