-- What the functions of this crate answer, at any values of single precision, and what that is on the grid. Definitions only.
use Rattle.std.specs.Prelude.{◌≡◌, ℕ, ◌*◌, ◌%◌, ◌^◌, ◌≤◌, Bool, true, false, cond, ◌&&◌, T, List, [], ◌∷◌, ℤ, pos, nat_le, nat_lt, to_bits, unsigned_abs, Float}
use Rattle.std.specs.Float.Ieee as Ieee
use Rattle.std.specs.Float.{binary32}
use Rattle.std.specs.Float.Ieee.{up, down, add, mul, lt, le, of_int, to_signed}
use Rattle.tropical_weight.specs.Limits.{finest, sum_limit}
use Rattle.tropical_weight.specs.Tropical.{Tropical, eq_t, Within}
use Rattle.tropical_weight.specs.Grid.{of_k, of_t}

-- ---- by the operations of single precision
-- the lesser, and the first where neither is less
unfoldable pub lesser : Float → Float → Float
lesser a b = cond (lt b a) b a

-- each is at most the other and delta
unfoldable pub approx_equal : Float → Float → Float → Bool
approx_equal a b delta = le a (add binary32 b delta) && le b (add binary32 a delta)

-- delta is above 0, and at most a quarter of the unit 1 / 2 ^ j
unfoldable pub small : ℕ → Float → Bool
small j Ieee.nan = false
small j (Ieee.inf s) = false
small j (Ieee.fin true m e) = false
small j (Ieee.fin false m e) = nat_lt 0 m && nat_le (m * up e * 4 * 2 ^ j) (down e)

-- x in units of 1 / 2 ^ j as an i32: cut toward zero, held to the range, and 0 for a NaN, as the Rust's `as` does
unfoldable pub cost_of : ℕ → Float → ℤ
cost_of j x = to_signed 31 (mul binary32 x (of_int binary32 (pos (2 ^ j))))

-- a pattern that is no NaN's: past its sign it is at most infinity's
abbrev pub Number : ℕ → Type 0
Number bits = bits % 2147483648 ≤ 2139095040

-- the pattern of a value; of a NaN it is infinity's, so that it is always a number's
unfoldable pub number_bits : Float → ℕ
number_bits x = let bits = to_bits binary32 x in cond (nat_lt 2139095040 (bits % 2147483648)) 2139095040 bits

-- the sum along a list, from its front, onto a
unfoldable pub add_all : Float → List Float → Float
add_all a [] = a
add_all a (x ∷ xs) = add_all (add binary32 a x) xs

-- ---- on the grid: for values v and w of the semiring, in any unit that the laws cover
abbrev pub OnValues : {A : Type 0} → Float → Float → (ℕ → Tropical → Tropical → A) → A → Type 0
OnValues a b answer r = (j : ℕ) → j ≤ finest → (v w : Tropical) → Within sum_limit v → Within sum_limit w → a ≡ of_t j v → b ≡ of_t j w → r ≡ answer j v w

-- r is what `single` answers at a and b, and on the grid the value of v `op` w
pub record Computes (single : Float → Float → Float) (op : Tropical → Tropical → Tropical) (a b r : Float) : Type 0 where
  pub same : r ≡ single a b
  pub exact : OnValues a b (λ j v w. of_t j (op v w)) r

-- r is what `single` answers at a and b, and on the grid what `test` answers at v and w
pub record Decides (single : Float → Float → Bool) (test : Tropical → Tropical → Bool) (a b : Float) (r : Bool) : Type 0 where
  pub same : r ≡ single a b
  pub exact : OnValues a b (λ j v w. test v w) r

-- r is what single precision answers at a, b and delta, and on the grid, where delta is small, whether v and w are equal
pub record Approx (a b delta : Float) (r : Bool) : Type 0 where
  pub same : r ≡ approx_equal a b delta
  pub exact : (j : ℕ) → j ≤ finest → T (small j delta) → (v w : Tropical) → Within sum_limit v → Within sum_limit w → a ≡ of_t j v → b ≡ of_t j w → r ≡ eq_t v w

-- r is the cost of x in units of 1 / 2 ^ j, and k where x is k units within the limit of sums
pub record Costs (j : ℕ) (x : Float) (r : ℤ) : Type 0 where
  pub same : r ≡ cost_of j x
  pub exact : (k : ℤ) → unsigned_abs k ≤ sum_limit → x ≡ of_k j k → r ≡ k
