-- The weight bits of a reached node: the code's test of them is the definition's, and what is written is read back. In any unit that the laws cover.
-- Assumes nothing.
use mathlib.Core.Path.{◌≡◌, refl, sym, ap, ◌∙◌, subst}
use mathlib.Core.Bool.{Bool, true, false, not, ◌&&◌, cond}
use mathlib.Core.List.{[], ◌∷◌}
use Prim.Native.Nat.{ℕ, ◌≤◌, ◌<◌, ◌^◌}
use native.Mathlib.Nat.{le_refl}
use native.Mathlib.Omega.{arith}
use lib.Dec.{T, eqb}
use lib.IntN.{ℤ, nat_abs}
use lib.ListN.{get_or}
use lib.Ieee.{binary32, is_nan, of_bits, to_bits}
use lib.Ieee.Bits.{of_bits-fits, to_bits-of_bits}
use borrow.Author.Tests.{eqb-true}
use Rattle.tropical_weight.specs.Limits.{finest, sum_limit}
use Rattle.tropical_weight.specs.Tropical.{fin, Within}
use Rattle.tropical_weight.specs.Grid.{of_k, units_of, grid_bits}
use Rattle.tropical_weight.specs.Single.{Costs}
use Rattle.tropical_weight.proofs.Exact.{bits_back, of_t-no-nan}
use Rattle.tropical_weight.proofs.Grid.{Whole, on_grid-whole, grid_bits-means, units_of-of_k}
use Rattle.sheet.specs.Machine.{bits_of}
use Rattle.sheet.proofs.Apart.{both}
use Rattle.sheet.proofs.Encoding.{bits-lt}
use Rattle.machine.specs.Distance.{Distance, reached, unreached, as_weight}
use Rattle.distance.specs.Written.{written}
use Rattle.std.specs.Prelude.{Some, None, Ok, Err}
use Rattle.sheet.specs.declared.refusal.Refusal.TheVariants.{NoAnswer}
use Rattle.read_distance.specs.Told.{pattern_tells, words_tell}
use Rattle.read_distance.specs.Promise.{as_told}

module _ (unit : ℕ) (covered : unit ≤ finest) (bits : ℕ) (fits : bits < 2 ^ 32) where
  abbrev units : ℤ
  units = units_of unit (of_bits binary32 bits)

  by-grid : (b : Bool) → grid_bits unit sum_limit bits ≡ b → cond b (Ok (Some units)) (Err NoAnswer) ≡ pattern_tells unit bits
  by-grid b e = sym (ap (λ (t : Bool). cond t (Ok (Some units)) (Err NoAnswer)) e)

  whole : grid_bits unit sum_limit bits ≡ true → Whole unit sum_limit (of_bits binary32 bits)
  unfolding grid_bits
  whole g = on_grid-whole unit covered sum_limit (le_refl sum_limit) (of_bits binary32 bits) (of_bits-fits binary32 bits) g

  -- on the grid, the pattern of its units
  again : grid_bits unit sum_limit bits ≡ true → to_bits binary32 (of_k unit units) ≡ bits
  again g =
      let w = whole g in
      let number : T (not (is_nan (of_bits binary32 bits))) = subst (λ (t : Bool). T (not t)) (sym (ap is_nan w.is ∙ of_t-no-nan unit covered (fin units) w.few)) tt in
      ap (to_bits binary32) (sym w.is) ∙ to_bits-of_bits binary32 bits fits number

  -- the pattern of so many units tells them
  pub pattern-told : (k : ℤ) → nat_abs k ≤ sum_limit → to_bits binary32 (of_k unit k) ≡ bits → Ok (Some k) ≡ pattern_tells unit bits
  pattern-told k few is =
      let value : of_bits binary32 bits ≡ of_k unit k = ap (of_bits binary32) (sym is) ∙ bits_back unit covered (fin k) in
      ap (λ (z : ℤ). Ok (Some z)) (sym (ap (units_of unit) value ∙ units_of-of_k unit covered k few))
      ∙ by-grid true ((grid_bits-means unit covered sum_limit (le_refl sum_limit) bits fits).1 (k, few, is))

  -- and no other pattern tells of a distance
  pub pattern-only : (d : Distance) → pattern_tells unit bits ≡ as_told d → (1 ∷ bits ∷ [] ≡ written unit d) × Within sum_limit (as_weight d)
  pattern-only d h = go (grid_bits unit sum_limit bits) refl d (by-grid (grid_bits unit sum_limit bits) refl ∙ h)
    where
      go : (b : Bool) → grid_bits unit sum_limit bits ≡ b → (d : Distance) → cond b (Ok (Some units)) (Err NoAnswer) ≡ as_told d → (1 ∷ bits ∷ [] ≡ written unit d) × Within sum_limit (as_weight d)
      go true e (reached k) h =
          let same : units ≡ k = cc in
          (λ i. 1 ∷ (sym (again e) ∙ ap (λ (z : ℤ). to_bits binary32 (of_k unit z)) same) i ∷ [], subst (λ (z : ℤ). nat_abs z ≤ sum_limit) same (whole e).few)
      go true e unreached h = let z : ◌≡◌ {A = ℕ} 0 1 = cc in absurd (omega arith)
      go false e (reached k) h = let z : ◌≡◌ {A = ℕ} 0 1 = cc in absurd (omega arith)
      go false e unreached h = let z : ◌≡◌ {A = ℕ} 0 1 = cc in absurd (omega arith)

  -- nor does one that is off the grid
  refused : (grid_bits unit sum_limit bits ≡ true → ⊥) → Err NoAnswer ≡ pattern_tells unit bits
  refused n = go (grid_bits unit sum_limit bits) refl
    where
      go : (b : Bool) → grid_bits unit sum_limit bits ≡ b → Err NoAnswer ≡ pattern_tells unit bits
      go true e = absurd (n e)
      go false e = by-grid false e

  -- ---- by the cost that the code computes
  module _ (k : ℤ) (c : Costs unit (of_bits binary32 bits) k) where
    cost-is : grid_bits unit sum_limit bits ≡ true → units ≡ k
    cost-is g = sym (c.exact units (whole g).few (whole g).is)

    pub too_many : sum_limit < nat_abs k → Err NoAnswer ≡ pattern_tells unit bits
    too_many h = refused (λ g. let few : nat_abs k ≤ sum_limit = subst (λ (z : ℤ). nat_abs z ≤ sum_limit) (cost-is g) (whole g).few in omega (arith, h))

    pub other-pattern : (to_bits binary32 (of_k unit k) ≡ bits → ⊥) → Err NoAnswer ≡ pattern_tells unit bits
    other-pattern n = refused (λ g. n (ap (λ (z : ℤ). to_bits binary32 (of_k unit z)) (sym (cost-is g)) ∙ again g))

-- ---- what is written is told
pub written-told : (unit : ℕ) → unit ≤ finest → (d : Distance) → Within sum_limit (as_weight d) → words_tell unit (get_or (written unit d) 0 0) (get_or (written unit d) 1 0) ≡ as_told d
written-told unit covered (reached k) h = sym (pattern-told unit covered (bits_of unit (fin k)) (bits-lt unit covered (fin k)) k h refl)
written-told unit covered unreached h = refl

-- and told only where it is written
pub told-written : (unit : ℕ) → unit ≤ finest → (mark bits : ℕ) → bits < 2 ^ 32 → (d : Distance) → words_tell unit mark bits ≡ as_told d → (mark ∷ bits ∷ [] ≡ written unit d) × Within sum_limit (as_weight d)
told-written unit covered mark bits fits d h = by-mark (eqb mark 1) refl h
  where
    zeros : (t : Bool) → eqb mark 0 && eqb bits 0 ≡ t → (d : Distance) → cond t (Ok None) (Err NoAnswer) ≡ as_told d → (mark ∷ bits ∷ [] ≡ written unit d) × Within sum_limit (as_weight d)
    zeros true e unreached h = let z = both (eqb mark 0) (eqb bits 0) e in (λ i. eqb-true mark 0 z.0 i ∷ eqb-true bits 0 z.1 i ∷ [], tt)
    zeros true e (reached k) h = let z : ◌≡◌ {A = ℕ} 0 1 = cc in absurd (omega arith)
    zeros false e (reached k) h = let z : ◌≡◌ {A = ℕ} 0 1 = cc in absurd (omega arith)
    zeros false e unreached h = let z : ◌≡◌ {A = ℕ} 0 1 = cc in absurd (omega arith)

    by-mark : (t : Bool) → eqb mark 1 ≡ t → cond t (pattern_tells unit bits) (cond (eqb mark 0 && eqb bits 0) (Ok None) (Err NoAnswer)) ≡ as_told d → (mark ∷ bits ∷ [] ≡ written unit d) × Within sum_limit (as_weight d)
    by-mark true e h = let only = pattern-only unit covered bits fits d h in (ap (λ (k : ℕ). k ∷ bits ∷ []) (eqb-true mark 1 e) ∙ only.0, only.1)
    by-mark false e h = zeros (eqb mark 0 && eqb bits 0) refl d h
