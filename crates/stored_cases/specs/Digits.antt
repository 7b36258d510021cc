-- The digits of stored cases: decimal numbers, and bytes by two hexadecimal digits. Definitions only.
use Rattle.std.specs.Prelude.{List, [], ◌∷◌, ℕ, ◌+◌, ◌*◌, Bool, not, Option, None, Some, ◌&&◌, cond, leb}
use Rattle.std.specs.Char.{is_digit, digit_value, is_ascii_uppercase}

-- the decimal number that a text goes on with, behind one that is read: it ends before what is no digit, and where a seventh digit would follow
abbrev pub number_on : ℕ → List ℕ → ℕ
number_on n [] = n
number_on n (c ∷ text) = cond (is_digit c 10 && leb n 99999) (number_on (10 * n + digit_value c) text) n

-- a hexadecimal digit: lower case alone
abbrev pub is_hex : ℕ → Bool
is_hex c = is_digit c 16 && not (is_ascii_uppercase c)

-- the byte that a text begins with, where its first two are digits
abbrev pub byte_at : List ℕ → Option ℕ
byte_at [] = None
byte_at (high ∷ []) = None
byte_at (high ∷ low ∷ text) = cond (is_hex high && is_hex low) (Some (16 * digit_value high + digit_value low)) None
