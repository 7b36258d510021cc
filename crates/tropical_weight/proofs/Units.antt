-- The cost of a weight in units: a whole number of units within the limit of sums has itself for its cost, in any unit. Assumes nothing.
use Rattle.std.proofs.Common.{◌≡◌, ℕ, suc, ◌*◌, ◌^◌, ◌<◌, ◌≤◌, Bool, true, false, ℤ, pos, negsuc, nat_abs, refl, ap, ◌∙◌, le_trans, lt_of_le_of_lt, zero-lt-suc, mul_assoc, mul-pos, one-mul, mul-one, arith, lit<, lit≤, le→leb, lt→ltb, pow_pos, pow_mono}
use native.Mathlib.Nat.{mul-mul-mul_comm}
use lib.Ieee.{Float, nan, inf, fin, binary32, up, down, unlike, round, mul, of_int, to_signed, in_float}
use lib.Ieee.Back.{round_whole, positive_back, negative_back}
use lib.Ieee.Exact.{HasValue}
use lib.Ieee.Fits.{down_pos}
use lib.Ieee.Scale.{round_same}
use Rattle.tropical_weight.specs.Limits.{finest, sum_limit}
use Rattle.tropical_weight.specs.Grid.{of_k}
use Rattle.tropical_weight.specs.Single.{cost_of, Costs}
use Rattle.tropical_weight.proofs.Exact.{negative, of_k-value}

-- ---- the product of two finite values, by the fractions that they equal
mul-values : (s t : Bool) (a c b d : ℕ) → 0 < c → 0 < d → (x y : Float) → HasValue x s a c → HasValue y t b d
    → mul binary32 x y ≡ round binary32 (unlike s t) (a * b) (c * d)
unfolding mul
mul-values s t a c b d c_pos d-pos nan y p q = absurd p
mul-values s t a c b d c_pos d-pos (inf u) y p q = absurd p
mul-values s t a c b d c_pos d-pos (fin u m e) nan p q = absurd q
mul-values s t a c b d c_pos d-pos (fin u m e) (inf v) p q = absurd q
mul-values s t a c b d c_pos d-pos (fin u m e) (fin v n g) p q =
    (λ i. round binary32 (unlike (p.0 i) (q.0 i)) (m * up e * (n * up g)) (down e * down g))
    ∙ round_same binary32 (unlike s t) (m * up e * (n * up g)) (down e * down g) (a * b) (c * d) (mul-pos (down_pos e) (down_pos g)) (mul-pos c_pos d-pos)
    (mul-mul-mul_comm (m * up e) (n * up g) c d ∙ (λ i. p.1 i * q.1 i) ∙ mul-mul-mul_comm a (down e) b (down g))

-- ---- a whole number of units has itself for its cost
within-digits : (j : ℕ) → j ≤ finest → j ≤ 24
within-digits j h = omega arith

signed : (k : ℤ) → round binary32 (unlike (negative k) false) (nat_abs k) 1 ≡ of_int binary32 k
unfolding of_int
signed (pos n) = refl
signed (negsuc n) = refl

-- k units, times the units of 1, are the float of k
times-units : (j : ℕ) → j ≤ finest → (k : ℤ) → nat_abs k ≤ sum_limit → mul binary32 (of_k j k) (of_int binary32 (pos (2 ^ j))) ≡ of_int binary32 k
unfolding of_int
times-units j h k l =
    mul-values (negative k) false (nat_abs k) (2 ^ j) (2 ^ j) 1 (pow_pos j) (zero-lt-suc 0) (of_k j k) (round binary32 false (2 ^ j) 1)
    (of_k-value j h k l) (round_whole binary32 false (2 ^ j) (pow_mono (within-digits j h)))
    ∙ round_same binary32 (unlike (negative k) false) (nat_abs k * 2 ^ j) (2 ^ j * 1) (nat_abs k) 1 (mul-pos (pow_pos j) (zero-lt-suc 0)) (zero-lt-suc 0)
    (mul_assoc (nat_abs k) (2 ^ j) 1)
    ∙ signed k

-- and the float of k, times one unit, is k units
pub of-units : (j : ℕ) → j ≤ finest → (k : ℤ) → nat_abs k ≤ sum_limit → mul binary32 (of_int binary32 k) (of_k j (pos 1)) ≡ of_k j k
unfolding of_int of_k
of-units j h k l =
    mul-values (negative k) false (nat_abs k) 1 1 (2 ^ j) (zero-lt-suc 0) (pow_pos j) (of_int binary32 k) (of_k j (pos 1)) (whole k l) (of_k-value j h (pos 1) (lit≤ tt))
    ∙ round_same binary32 (unlike (negative k) false) (nat_abs k * 1) (1 * 2 ^ j) (nat_abs k) (2 ^ j) (mul-pos (zero-lt-suc 0) (pow_pos j)) (pow_pos j) (simp (mul-one, one-mul))
    ∙ rounded k
  where
    whole : (k : ℤ) → nat_abs k ≤ sum_limit → HasValue (of_int binary32 k) (negative k) (nat_abs k) 1
    whole (pos n) l = round_whole binary32 false n l
    whole (negsuc n) l = round_whole binary32 true (suc n) l

    rounded : (k : ℤ) → round binary32 (unlike (negative k) false) (nat_abs k) (2 ^ j) ≡ of_k j k
    rounded (pos n) = refl
    rounded (negsuc n) = refl

-- which an i32 holds
back : (k : ℤ) → nat_abs k ≤ sum_limit → to_signed 31 (of_int binary32 k) ≡ k
unfolding in_float
back (pos n) l = (positive_back binary32 31 n (le→leb n sum_limit l) (lt_of_le_of_lt l (lit< tt))).1
back (negsuc n) l = (negative_back binary32 31 n (lt→ltb n sum_limit l) (le_trans l (lit≤ tt))).1

pub cost_of-of_k : (j : ℕ) → j ≤ finest → (k : ℤ) → nat_abs k ≤ sum_limit → cost_of j (of_k j k) ≡ k
unfolding cost_of
cost_of-of_k j h k l = ap (λ (x : Float). to_signed 31 x) (times-units j h k l) ∙ back k l

-- what the contract says of a result, from its equation
pub costs : (j : ℕ) → j ≤ finest → (x : Float) (r : ℤ) → r ≡ cost_of j x → Costs j x r
costs j h x r e = record { same = e; exact = λ k l p. e ∙ ap (λ (y : Float). cost_of j y) p ∙ cost_of-of_k j h k l }
