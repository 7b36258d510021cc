-- Weights and rows read, by computation. Assumes nothing.
use mathlib.Core.Path.{◌≡◌, refl}
use mathlib.Core.List.{List, [], ◌∷◌, map}
use Prim.Native.Nat.{ℕ, ◌-◌}
use lib.IntN.{pos, neg_ℤ}
use lib.ListN.{replicate}
use Rattle.std.proofs.Common.{None, Some}
use Rattle.std.specs.Option.{option_map}
use Rattle.tropical_weight.specs.Limits.{weight_limit}
use Rattle.text_rows.specs.Fields.{weight_of}
use Rattle.row_reader.specs.Reading.{weight_read}
use Rattle.row_reader.specs.declared.values.Weight.{Weight}

abbrev nines : List ℕ
nines = 57 ∷ 57 ∷ 57 ∷ 57 ∷ 57 ∷ 57 ∷ 57 ∷ 57 ∷ 57 ∷ 57 ∷ 57 ∷ 57 ∷ 57 ∷ 57 ∷ 57 ∷ 57 ∷ 57 ∷ 57 ∷ 57 ∷ 57 ∷ 57 ∷ 57 ∷ 57 ∷ 57 ∷ 57 ∷ 57 ∷ 57 ∷ 57 ∷ 57 ∷ 57 ∷ 57 ∷ 57 ∷ 57 ∷ 57 ∷ 57 ∷ 57 ∷ 57 ∷ 57 ∷ 57 ∷ 57 ∷ []

-- forty nines are read, and are past the limit
forty : option_map weight_read (weight_of nines) ≡ Some Weight.Off
unfolding weight_of
forty = refl

-- -0 is 0; -127.984375 is a unit short of the limit; 128.000001 is off the grid; -.5, 1. and seven decimals are not read
minus-zero : option_map weight_read (weight_of (45 ∷ 48 ∷ [])) ≡ Some (Weight.Units (pos 0))
unfolding weight_of
minus-zero = refl

unit-short : option_map weight_read (weight_of (45 ∷ 49 ∷ 50 ∷ 55 ∷ 46 ∷ 57 ∷ 56 ∷ 52 ∷ 51 ∷ 55 ∷ 53 ∷ [])) ≡ Some (Weight.Units (neg_ℤ (pos (weight_limit - 1))))
unfolding weight_of
unit-short = refl

millionth-more : option_map weight_read (weight_of (49 ∷ 50 ∷ 56 ∷ 46 ∷ 48 ∷ 48 ∷ 48 ∷ 48 ∷ 48 ∷ 49 ∷ [])) ≡ Some Weight.Off
unfolding weight_of
millionth-more = refl

bare-point : option_map weight_read (weight_of (45 ∷ 46 ∷ 53 ∷ [])) ≡ None
unfolding weight_of
bare-point = refl

no-decimals : option_map weight_read (weight_of (49 ∷ 46 ∷ [])) ≡ None
unfolding weight_of
no-decimals = refl

seven-decimals : option_map weight_read (weight_of (49 ∷ 46 ∷ 48 ∷ 48 ∷ 48 ∷ 48 ∷ 48 ∷ 48 ∷ 48 ∷ [])) ≡ None
unfolding weight_of
seven-decimals = refl

-- Infinity is infinity; infinity, INFINITY, inf, Infinit, Infinity1, -Infinity and +Infinity are not read
spelled : option_map weight_read (weight_of (73 ∷ 110 ∷ 102 ∷ 105 ∷ 110 ∷ 105 ∷ 116 ∷ 121 ∷ [])) ≡ Some Weight.Barred
unfolding weight_of
spelled = refl

abbrev misspelled : List (List ℕ)
misspelled =
    (105 ∷ 110 ∷ 102 ∷ 105 ∷ 110 ∷ 105 ∷ 116 ∷ 121 ∷ [])
    ∷ (73 ∷ 78 ∷ 70 ∷ 73 ∷ 78 ∷ 73 ∷ 84 ∷ 89 ∷ [])
    ∷ (105 ∷ 110 ∷ 102 ∷ [])
    ∷ (73 ∷ 110 ∷ 102 ∷ 105 ∷ 110 ∷ 105 ∷ 116 ∷ [])
    ∷ (73 ∷ 110 ∷ 102 ∷ 105 ∷ 110 ∷ 105 ∷ 116 ∷ 121 ∷ 49 ∷ [])
    ∷ (45 ∷ 73 ∷ 110 ∷ 102 ∷ 105 ∷ 110 ∷ 105 ∷ 116 ∷ 121 ∷ [])
    ∷ (43 ∷ 73 ∷ 110 ∷ 102 ∷ 105 ∷ 110 ∷ 105 ∷ 116 ∷ 121 ∷ [])
    ∷ []

near-misses : map (λ (f : List ℕ). option_map weight_read (weight_of f)) misspelled ≡ replicate 7 None
unfolding weight_of
near-misses = refl
