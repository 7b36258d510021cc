-- The texts of document 01's example, and of the least and greatest numbers, by the definitions. Assumes nothing.
use mathlib.Core.Path.{◌≡◌, refl}
use mathlib.Core.List.{[], ◌∷◌}
use lib.IntN.{pos, negsuc}
use Rattle.decimals.specs.Decimal.{decimal}
use Rattle.listing.specs.Text.{signed, first_line, refused_line, line_of}

-- 0, 10, 4294967295
numbers : (decimal 0 ≡ 48 ∷ []) × (decimal 10 ≡ 49 ∷ 48 ∷ []) × (decimal 4294967295 ≡ 52 ∷ 50 ∷ 57 ∷ 52 ∷ 57 ∷ 54 ∷ 55 ∷ 50 ∷ 57 ∷ 53 ∷ [])
unfolding decimal
numbers = (refl, refl, refl)

-- 0, -1, -2147483648
costs : (signed (pos 0) ≡ 48 ∷ []) × (signed (negsuc 0) ≡ 45 ∷ 49 ∷ []) × (signed (negsuc 2147483647) ≡ 45 ∷ 50 ∷ 49 ∷ 52 ∷ 55 ∷ 52 ∷ 56 ∷ 51 ∷ 54 ∷ 52 ∷ 56 ∷ [])
unfolding signed
costs = (refl, refl, refl)

-- "readings 2 taken 8\n"
first : first_line 2 8 ≡ 114 ∷ 101 ∷ 97 ∷ 100 ∷ 105 ∷ 110 ∷ 103 ∷ 115 ∷ 32 ∷ 50 ∷ 32 ∷ 116 ∷ 97 ∷ 107 ∷ 101 ∷ 110 ∷ 32 ∷ 56 ∷ 10 ∷ []
unfolding first_line
first = refl

-- "refused 20\n"
refused : refused_line 20 ≡ 114 ∷ 101 ∷ 102 ∷ 117 ∷ 115 ∷ 101 ∷ 100 ∷ 32 ∷ 50 ∷ 48 ∷ 10 ∷ []
unfolding refused_line
refused = refl

-- "1 112 1 3\n", and "1 -64\n" of a reading without links
lines : (line_of 1 (pos 112) (1 ∷ 3 ∷ []) ≡ 49 ∷ 32 ∷ 49 ∷ 49 ∷ 50 ∷ 32 ∷ 49 ∷ 32 ∷ 51 ∷ 10 ∷ []) × (line_of 1 (negsuc 63) [] ≡ 49 ∷ 32 ∷ 45 ∷ 54 ∷ 52 ∷ 10 ∷ [])
unfolding line_of
lines = (refl, refl)
