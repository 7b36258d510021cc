-- Numbers in decimal: the digits that are written, and the value of digits that are read. A text is a list of bytes. Definitions only.
use Rattle.std.specs.Prelude.{ℕ, zero, suc, ◌+◌, ◌-◌, ◌*◌, ◌/◌, Bool, true, false, ◌&&◌, cond, List, [], ◌∷◌, leb, ltb, ℤ, pos, negsuc, Option, None, Some}
use Rattle.io.specs.Digits.{last_digits}

-- ---- written
-- how many digits n has, by at most so many divisions by ten; the test is whether n is below ten
unfoldable pub places_by : ℕ → Bool → ℕ → ℕ
places_by zero small n = 1
places_by (suc most) true n = 1
places_by (suc most) false n = suc (places_by most (ltb (n / 10) 10) (n / 10))

unfoldable pub places : ℕ → ℕ
unfolding places_by
places n = places_by n (ltb n 10) n

-- the decimal digits of a number, the most significant first: the fewest that hold it, and at least one
unfoldable pub decimal : ℕ → List ℕ
unfolding places
decimal n = last_digits 10 (places n) n

-- what stands before the magnitude of a number: a minus sign where it is negative
abbrev pub sign_text : ℤ → List ℕ
sign_text (pos n) = []
sign_text (negsuc n) = 45 ∷ []

-- ---- read
abbrev pub is_digit : ℕ → Bool
is_digit c = leb 48 c && ltb c 58

-- a digit more
abbrev pub with_digit : ℕ → ℕ → ℕ
with_digit n c = 10 * n + (c - 48)

-- the value of digits behind those of n, or none where a byte is no digit
unfoldable pub digits_onto : ℕ → List ℕ → Option ℕ
digits_onto n [] = Some n
digits_onto n (c ∷ cs) = cond (is_digit c) (digits_onto (with_digit n c) cs) None

-- the value of one digit or more, zeros before them or not
abbrev pub digits_of : List ℕ → Option ℕ
digits_of [] = None
digits_of (c ∷ cs) = digits_onto 0 (c ∷ cs)
