-- 32-bit fields, little-endian. A string of bytes, and a list of words, is a list of numbers. Definitions only.
use Rattle.std.specs.Prelude.{ℕ, zero, suc, ◌+◌, ◌*◌, ◌/◌, ◌%◌, List, [], ◌∷◌, ◌++◌, get_or}

-- the bytes of a field
abbrev pub word_length : ℕ
word_length = 4

-- the field at an offset
unfoldable pub word : List ℕ → ℕ → ℕ
word bytes at = get_or bytes at 0 + 256 * get_or bytes (at + 1) 0 + 65536 * get_or bytes (at + 2) 0 + 16777216 * get_or bytes (at + 3) 0

-- so many fields, one after the other
unfoldable pub words : List ℕ → ℕ → ℕ → List ℕ
unfolding word
words bytes at zero = []
words bytes at (suc n) = word bytes at ∷ words bytes (at + word_length) n

-- the bytes of a field, and of fields one after the other
unfoldable pub bytes_of : ℕ → List ℕ
bytes_of w = w % 256 ∷ w / 256 % 256 ∷ w / 65536 % 256 ∷ w / 16777216 % 256 ∷ []

unfoldable pub bytes_of_all : List ℕ → List ℕ
unfolding bytes_of
bytes_of_all [] = []
bytes_of_all (w ∷ ws) = bytes_of w ++ bytes_of_all ws
