-- Whole numbers of units as values of single precision, the test whether a value is one, and a table of shifts that tells. Definitions only.
-- Everywhere 1 / 2 ^ j is the unit.
use Rattle.std.specs.Prelude.{◌≡◌, ℕ, suc, ◌+◌, ◌-◌, ◌*◌, ◌/◌, ◌%◌, ◌^◌, ◌<◌, min, Bool, true, false, cond, not, ◌&&◌, List, length, ℤ, pos, negsuc, neg_ℤ, ◌==◌, nat_le, slice_index, Float}
use Rattle.std.specs.Float.{binary32}
use Rattle.std.specs.Float.Ieee.{up, down, round, of_bits}
use Rattle.std.specs.Float.Ieee as Ieee
use Rattle.tropical_weight.specs.Tropical.{Tropical, fin, inf}

-- k / 2 ^ j, rounded to single precision; exact up to 2 ^ 24 units
unfoldable pub of_k : ℕ → ℤ → Float
of_k j (pos n) = round binary32 false n (2 ^ j)
of_k j (negsuc n) = round binary32 true (suc n) (2 ^ j)

abbrev pub of_t : ℕ → Tropical → Float
of_t j (fin k) = of_k j k
of_t j inf = Ieee.inf false

-- how many units x has, cut toward zero
unfoldable pub units_of : ℕ → Float → ℤ
units_of j Ieee.nan = pos 0
units_of j (Ieee.inf s) = pos 0
units_of j (Ieee.fin s m e) = cond s (neg_ℤ (pos (m * up e * 2 ^ j / down e))) (pos (m * up e * 2 ^ j / down e))

-- whether x is a whole number of units, of either sign, as negative zero is; NaN and the infinities are none
unfoldable pub is_whole : ℕ → Float → Bool
is_whole j Ieee.nan = false
is_whole j (Ieee.inf s) = false
is_whole j (Ieee.fin s m e) = m * up e * 2 ^ j % down e == 0

-- The grid: x is a whole number of units, at most `most` of them either way. NaN, the infinities and negative zero are off it.
unfoldable pub on_grid : ℕ → ℕ → Float → Bool
on_grid j most Ieee.nan = false
on_grid j most (Ieee.inf s) = false
on_grid j most (Ieee.fin s m e) = m * up e * 2 ^ j % down e == 0 && nat_le (m * up e * 2 ^ j / down e) most && not (s && m == 0)

-- the same of a bit pattern
unfoldable pub grid_bits : ℕ → ℕ → ℕ → Bool
unfolding of_bits on_grid
grid_bits j most bits = on_grid j most (of_bits binary32 bits)

-- ---- the fields of a bit pattern
-- the 24 digits of a finite value with the exponent's field e and the stored digits t: where e is 0 the leading digit is 0
unfoldable pub significand : ℕ → ℕ → ℕ
significand e t = cond (e == 0) t (2 ^ 23 + t)

-- how many low digits of the significand lie below the unit, held between 0 and 24; with j = 6, 144 less the field
unfoldable pub grid_shift : ℕ → ℕ → ℕ
grid_shift j e = min 24 (150 - j - e)

-- the field of the exponent: 255 is that of NaN and the infinities, the others are of finite values
abbrev pub exponent_field : ℕ → ℕ
exponent_field bits = bits / 2 ^ 23 % 2 ^ 8

-- ---- shifts, one for each exponent's field
-- The rule: a finite value is whole exactly where that many low digits of its significand are 0.
abbrev pub Tells : ℕ → (ℕ → ℕ) → Type 0
Tells j shift_of = (bits : ℕ) → bits < 2 ^ 32 → exponent_field bits < 255
    → is_whole j (of_bits binary32 bits) ≡ (significand (exponent_field bits) (bits % 2 ^ 23) % 2 ^ shift_of (exponent_field bits) == 0)

-- the shifts as a table
pub record ShiftTable (j : ℕ) (table : List ℕ) : Type 0 where
  pub size : length table ≡ 256
  pub entries : (e : ℕ) → e < 256 → slice_index table e ≡ grid_shift j e
  pub rule : Tells j (λ e. slice_index table e)
