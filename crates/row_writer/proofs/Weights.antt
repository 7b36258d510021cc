-- The text of a weight by its sign, and the units of a field on the grid. Assumes nothing.
use mathlib.Core.Path.{◌≡◌, refl, sym, ap, ◌∙◌, subst}
use mathlib.Core.Bool.{Bool, true, ◌||◌}
use mathlib.Core.List.{◌++◌}
use Rattle.decimals.specs.Decimal.{sign_text}
use Prim.Native.Nat.{ℕ, ◌≤◌}
use native.Mathlib.Nat.{le_trans}
use native.Mathlib.Omega.{arith}
use lib.IntN.{ℤ, pos, negsuc, nat_abs}
use lib.Dec.{lit≤}
use lib.Ieee.{Float, binary32, of_bits}
use lib.Ieee.Bits.{of_bits-fits}
use mir.Syntax.{w32}
use mir.Val.{SFits, to_z, of_z}
use mir.ValLaws.{to_z-of_z}
use borrow.Author.Tests.{ne_eqb}
use Rattle.tropical_weight.specs.Limits.{unit, weight_limit}
use Rattle.tropical_weight.specs.Single.{Costs}
use Rattle.tropical_weight.proofs.Grid.{on_grid-whole}
use Rattle.tropical_weight.specs.Grid as Grid
use Rattle.tropical_weight.specs.Grid.{grid_bits}
use Rattle.sheet.specs.Sheet.{barred_bits, on_grid_bits, weight_fits}
use Rattle.text_rows.specs.Written.{magnitude_text, weight_text}

pub weight-signed : (z : ℤ) → sign_text z ++ magnitude_text (nat_abs z) ≡ weight_text z
unfolding weight_text
weight-signed (pos n) = refl
weight-signed (negsuc n) = refl

-- a field that passes and does not bar is on the grid
pub on-grid : (bits : ℕ) → weight_fits unit bits ≡ true → (bits ≡ barred_bits → ⊥) → on_grid_bits unit bits ≡ true
on-grid bits e n = sym (ap (λ (b : Bool). b || on_grid_bits unit bits) (ne_eqb bits barred_bits n)) ∙ e

-- what `cost` answers at the value of a field on the grid, as an i32 has it
fits-units : (z : ℤ) → nat_abs z ≤ weight_limit → SFits w32 z
fits-units (pos n) h = record { sfits = omega arith }
fits-units (negsuc n) h = record { sfits = omega arith }

pub units-held : (bits : ℕ) → on_grid_bits unit bits ≡ true → (weight : Float) (units : ℤ) → weight ≡ of_bits binary32 bits → Costs unit weight units
    → (to_z w32 (of_z w32 units) ≡ Grid.units_of unit (of_bits binary32 bits)) × (nat_abs (to_z w32 (of_z w32 units)) ≤ weight_limit)
unfolding grid_bits
units-held bits e weight units w c =
    let g = on_grid-whole unit (lit≤ tt) weight_limit (lit≤ tt) (of_bits binary32 bits) (of_bits-fits binary32 bits) e in
    let k = Grid.units_of unit (of_bits binary32 bits) in
    let is : units ≡ k = c.exact k (le_trans g.few (lit≤ tt)) (w ∙ g.is) in
    let read : to_z w32 (of_z w32 units) ≡ k = ap (λ (z : ℤ). to_z w32 (of_z w32 z)) is ∙ to_z-of_z w32 k (fits-units k g.few) in
    (read, subst (λ (z : ℤ). nat_abs z ≤ weight_limit) (sym read) g.few)
