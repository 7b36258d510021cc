-- A unit as a number, 64 or 256: that of a form is one that test 14 lets through, and tells the same unit again. Assumes nothing.
use mathlib.Core.Path.{◌≡◌, refl}
use mathlib.Core.Bool.{Bool, true, false, cond}
use Prim.Native.Nat.{◌^◌}
use lib.Dec.{eqb}
use Rattle.tropical_weight.specs.Limits.{unit, finest}
use Rattle.sheet.specs.declared.form.Form.{Form}
use Rattle.sheet.specs.Sheet.{unit_of, unit_fits}

-- of a long one by the test of its sixth field
by-test : (b : Bool) → (unit_fits (Form.Long (2 ^ cond b finest unit)) ≡ true) × (unit_of (Form.Long (2 ^ cond b finest unit)) ≡ cond b finest unit)
by-test true = (refl, refl)
by-test false = (refl, refl)

pub unit-again : (f : Form) → (unit_fits (Form.Long (2 ^ unit_of f)) ≡ true) × (unit_of (Form.Long (2 ^ unit_of f)) ≡ unit_of f)
unit-again Form.Short = (refl, refl)
unit-again (Form.Long u) = by-test (eqb u (2 ^ finest))
