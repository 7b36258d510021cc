-- Text rows: rows, fields and numbers. A text is a list of bytes. Definitions only.
use Rattle.std.specs.Prelude.{ℕ, ◌+◌, ◌-◌, ◌*◌, ◌^◌, Bool, true, false, not, ◌&&◌, ◌||◌, cond, List, [], ◌∷◌, leb, ltb, eqb, ℤ, pos, neg_ℤ, length, Option, None, Some}
use Rattle.decimals.specs.Decimal.{digits_onto, digits_of}

-- f of what is there, or none
abbrev pub and_then : {A B : Type 0} → Option A → (A → Option B) → Option B
and_then None f = None
and_then (Some x) f = f x

abbrev pub is_newline : ℕ → Bool
is_newline c = eqb c 10

-- a space or a tab
abbrev pub is_blank : ℕ → Bool
is_blank c = eqb c 32 || eqb c 9

-- ---- rows
-- a byte before the first of these
abbrev pub onto_first : ℕ → List (List ℕ) → List (List ℕ)
onto_first c [] = (c ∷ []) ∷ []
onto_first c (x ∷ xs) = (c ∷ x) ∷ xs

-- the rows of a text: what a newline ends, and what is left after the last
unfoldable pub rows_of : List ℕ → List (List ℕ)
rows_of [] = []
rows_of (c ∷ cs) = cond (is_newline c) ([] ∷ rows_of cs) (onto_first c (rows_of cs))

-- a newline ends the last row too; a text without rows is not ended
unfoldable pub ended : List ℕ → Bool
ended [] = false
ended (c ∷ []) = is_newline c
ended (c ∷ d ∷ cs) = ended (d ∷ cs)

-- ---- fields
-- whether a field goes on here
abbrev pub goes_on : List ℕ → Bool
goes_on [] = false
goes_on (c ∷ cs) = not (is_blank c)

-- the fields of a row: runs of bytes that blanks part
unfoldable pub fields_of : List ℕ → List (List ℕ)
fields_of [] = []
fields_of (c ∷ cs) = cond (is_blank c) (fields_of cs) (cond (goes_on cs) (onto_first c (fields_of cs)) ((c ∷ []) ∷ fields_of cs))

-- ---- numbers
-- a node or a label: digits within 32 bits
unfoldable pub number_of : List ℕ → Option ℕ
unfolding digits_onto
number_of f = and_then (digits_of f) (λ n. cond (ltb n (2 ^ 32)) (Some n) None)

-- ---- weights
-- A weight as it is written: a decimal, in millionths, or infinity, which bars.
pub data Weight : Type 0 where
  finite : ℤ → Weight
  barred : Weight

-- the one spelling of infinity: Infinity
unfoldable pub infinity_text : List ℕ
infinity_text = 73 ∷ 110 ∷ 102 ∷ 105 ∷ 110 ∷ 105 ∷ 116 ∷ 121 ∷ []

-- whether two texts are the same
unfoldable pub same_text : List ℕ → List ℕ → Bool
same_text [] [] = true
same_text [] (d ∷ ds) = false
same_text (c ∷ cs) [] = false
same_text (c ∷ cs) (d ∷ ds) = eqb c d && same_text cs ds

-- ---- decimals, in millionths
abbrev pub million : ℕ
million = 1000000

-- what stands before the first point
unfoldable pub before_point : List ℕ → List ℕ
before_point [] = []
before_point (c ∷ cs) = cond (eqb c 46) [] (c ∷ before_point cs)

-- from the first point on
unfoldable pub from_point : List ℕ → List ℕ
from_point [] = []
from_point (c ∷ cs) = cond (eqb c 46) (c ∷ cs) (from_point cs)

-- nothing, or a point and one to six digits
unfoldable pub part_of : List ℕ → Option ℕ
unfolding digits_onto
part_of [] = Some 0
part_of (point ∷ digits) = and_then (digits_of digits) (λ n. cond (leb (length digits) 6) (Some (n * 10 ^ (6 - length digits))) None)

abbrev pub both_parts : Option ℕ → Option ℕ → Option ℕ
both_parts whole part = and_then whole (λ w. and_then part (λ m. Some (w * million + m)))

unfoldable pub magnitude_of : List ℕ → Option ℕ
unfolding before_point from_point part_of digits_onto
magnitude_of f = both_parts (digits_of (before_point f)) (part_of (from_point f))

-- an optional minus sign before; -0 is 0
unfoldable pub decimal_of : List ℕ → Option ℤ
unfolding magnitude_of
decimal_of [] = None
decimal_of (c ∷ cs) = cond (eqb c 45) (and_then (magnitude_of cs) (λ n. Some (neg_ℤ (pos n)))) (and_then (magnitude_of (c ∷ cs)) (λ n. Some (pos n)))

-- a weight
unfoldable pub weight_of : List ℕ → Option Weight
unfolding infinity_text same_text decimal_of
weight_of f = cond (same_text f infinity_text) (Some barred) (and_then (decimal_of f) (λ w. Some (finite w)))
