-- Patterns that are no NaN's. Assumes nothing.
use Rattle.std.proofs.Common.{◌≡◌, ℕ, ◌%◌, ◌≤◌, Bool, true, false, cond, T, ltb, sym, refl, ap, ◌∙◌, subst, arith, ltb-false}
use lib.Ieee.{Float, nan, inf, fin, binary32, is_nan, fits, to_bits}
use lib.Ieee.Bits.{nan_bits_is, nan_bits_above, of_bits-to_bits}
use Rattle.tropical_weight.specs.Limits.{finest, sum_limit}
use Rattle.tropical_weight.specs.Tropical.{Tropical, Within}
use Rattle.tropical_weight.specs.Grid.{of_t}
use Rattle.tropical_weight.specs.Single.{Number, number_bits}
use Rattle.tropical_weight.proofs.Exact.{of_t-fits, of_t-no-nan}

-- ---- a NaN is one value
pub nan-alone : (x : Float) → is_nan x ≡ true → nan ≡ x
unfolding is_nan
nan-alone nan e = refl
nan-alone (inf s) e = absurd (subst T (sym e) tt)
nan-alone (fin s m e) p = absurd (subst T (sym p) tt)

-- ---- patterns
-- past its sign only a NaN's pattern is above infinity's
above-nan : (x : Float) → T (fits binary32 x) → ltb 2139095040 (to_bits binary32 x % 2147483648) ≡ is_nan x
above-nan x f = sym (nan_bits_above binary32 (to_bits binary32 x)) ∙ nan_bits_is binary32 (to_bits binary32 x) ∙ ap is_nan (of_bits-to_bits binary32 x f)

pub number-nan : (x : Float) → T (fits binary32 x) → is_nan x ≡ true → number_bits x ≡ 2139095040
unfolding number_bits
number-nan x f e = ap (λ (b : Bool). cond b 2139095040 (to_bits binary32 x)) (above-nan x f ∙ e)

pub number-bits : (x : Float) → T (fits binary32 x) → is_nan x ≡ false → number_bits x ≡ to_bits binary32 x
unfolding number_bits
number-bits x f e = ap (λ (b : Bool). cond b 2139095040 (to_bits binary32 x)) (above-nan x f ∙ e)

pub number-of_t : (j : ℕ) → j ≤ finest → (v : Tropical) → Within sum_limit v → number_bits (of_t j v) ≡ to_bits binary32 (of_t j v)
number-of_t j h v w = number-bits (of_t j v) (of_t-fits j h v) (of_t-no-nan j h v w)

-- what is written can be read
pub number_is : (x : Float) → Number (number_bits x)
unfolding number_bits
number_is x = go (ltb 2139095040 (to_bits binary32 x % 2147483648)) refl
  where
    go : (b : Bool) → ltb 2139095040 (to_bits binary32 x % 2147483648) ≡ b → Number (cond b 2139095040 (to_bits binary32 x))
    go true e = omega arith
    go false e = ltb-false 2139095040 (to_bits binary32 x % 2147483648) e
