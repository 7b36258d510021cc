-- The tropical semiring, min and +, over whole numbers of units. Definitions only.
use Rattle.std.specs.Prelude.{ℕ, ◌≤◌, Bool, true, false, cond, ◌&&◌, T, List, [], ◌∷◌, ℤ, pos, ◌+ℤ◌, int_le, int_lt, unsigned_abs}

-- A weight, a cost, a sum over runs or a rank: a whole number of units, or infinity.
pub data Tropical : Type 0 where
  fin : ℤ → Tropical
  inf : Tropical

-- ---- the order: by the whole numbers, with infinity above them all
abbrev pub le_t : Tropical → Tropical → Bool
le_t (fin a) (fin b) = int_le a b
le_t a inf = true
le_t inf (fin b) = false

abbrev pub lt_t : Tropical → Tropical → Bool
lt_t (fin a) (fin b) = int_lt a b
lt_t (fin a) inf = true
lt_t inf b = false

abbrev pub eq_t : Tropical → Tropical → Bool
eq_t a b = le_t a b && le_t b a

infix 50 ◌≼◌
pub record ◌≼◌ (a b : Tropical) : Type 0 where
  pub le : T (le_t a b)

-- ---- the semiring: ⊕ is the lesser, ⊗ the sum
infixl 60 ◌⊕◌
abbrev pub ◌⊕◌ : Tropical → Tropical → Tropical
a ⊕ b = cond (lt_t b a) b a

infixl 65 ◌⊗◌
abbrev pub ◌⊗◌ : Tropical → Tropical → Tropical
fin a ⊗ fin b = fin (a +ℤ b)
fin a ⊗ inf = inf
inf ⊗ b = inf

-- the neutral elements of ⊕ and of ⊗
abbrev pub zero : Tropical
zero = inf

abbrev pub one : Tropical
one = fin (pos 0)

-- ⊗ along a list, from its front, onto a
unfoldable pub times_all : Tropical → List Tropical → Tropical
times_all a [] = a
times_all a (w ∷ ws) = times_all (a ⊗ w) ws

-- at most `most` units either way, or infinite
abbrev pub Within : ℕ → Tropical → Type 0
Within most (fin k) = unsigned_abs k ≤ most
Within most inf = Unit {0}
