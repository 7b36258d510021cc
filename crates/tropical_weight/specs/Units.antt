-- The units of the two kinds of controllers: 64ths, and 256ths. Definitions only.
use Rattle.std.specs.Prelude.{ℕ}
use Rattle.tropical_weight.specs.Limits.{unit, finest}
use Rattle.tropical_weight.specs.declared.unit.Unit.{Unit}

-- the unit is 1 / 2 ^ places
abbrev pub places : Unit → ℕ
places Unit.Of64 = unit
places Unit.Of256 = finest
