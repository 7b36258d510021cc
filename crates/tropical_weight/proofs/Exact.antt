-- Whole numbers of units, up to 2 ^ 24 either way, as values of single precision: sums, tests and bits are exact, in any unit. Assumes nothing.
use Rattle.std.proofs.Common.{◌≡◌, ℕ, suc, ◌+◌, ◌-◌, ◌*◌, ◌^◌, ◌<◌, ◌≤◌, Bool, true, false, cond, not, ◌&&◌, T, eqb, ltb, leb, ◌⊎◌, ℤ, pos, negsuc, ◌+ℤ◌, nat_abs, sym, refl, ap, ◌∙◌, subst, inl, inr, lt_of_lt_of_le, mul_assoc, le_antisymm, eq-or-lt_of_le, one-mul, zero-mul, arith, lit<, lit≤, le→leb, eqb→eq, ltb→lt, lt→ltb, leb→le, nltb→le, pow_pos, pow_mono, pow-add, shl_lt}
use lib.Dec.{not_T, leb-suc-suc}
use lib.Pow.{pow-lt}
use lib.IntN.{sub_ℕ}
use lib.Signed.{le_z, lt_z}
use lib.Ieee.{Float, nan, binary32, round, sum, add, below, level, lt, eq, fits, is_nan, of_bits, to_bits}
use lib.Ieee as Ieee
use lib.Ieee.Bits.{is_true, is_false, of_bits-to_bits}
use lib.Ieee.Exact.{HasValue, round_exact}
use lib.Ieee.Fits.{round-fits, inf-fits, and_i, and_l, and_r, eq→eqb}
use Rattle.tropical_weight.specs.Limits.{finest, sum_limit}
use Rattle.tropical_weight.specs.Tropical.{Tropical, fin, inf, lt_t, eq_t, one, ◌⊕◌, ◌⊗◌, Within}
use Rattle.tropical_weight.specs.Grid.{of_k, of_t}
use Rattle.tropical_weight.specs.Single.{lesser, Computes, Decides}
use Rattle.tropical_weight.proofs.Semiring.{eq_t-eq, eq-eq_t}
use Rattle.tropical_weight.proofs.Values.{value-unique, add-values, lt-values, eq-values, same_test}

-- ---- the value
-- 2 ^ 149 of single precision's smallest values are 1
units-split : (j : ℕ) → j ≤ finest → 149 ≡ 149 - j + j
units-split j h = omega arith

in-smallest : (j n : ℕ) → j ≤ finest → n * 2 ^ 149 ≡ n * 2 ^ (149 - j) * 2 ^ j
in-smallest j n h = ap (λ (x : ℕ). n * 2 ^ x) (units-split j h) ∙ ap (λ (x : ℕ). n * x) (pow-add 2 (149 - j) j) ∙ sym (mul_assoc n (2 ^ (149 - j)) (2 ^ j))

below_top : (j : ℕ) → 24 + (149 - j) < 277
below_top j = omega arith

pub round-value : (j : ℕ) → j ≤ finest → (s : Bool) (n : ℕ) → n ≤ sum_limit → HasValue (round binary32 s n (2 ^ j)) s n (2 ^ j)
round-value j h s n l = go (eq-or-lt_of_le l)
  where
    go : (n ≡ 2 ^ 24) ⊎ (n < 2 ^ 24) → HasValue (round binary32 s n (2 ^ j)) s n (2 ^ j)
    go (inl e) =
        let x = 24 + (149 - j) in
        subst (λ (n : ℕ). HasValue (round binary32 s n (2 ^ j)) s n (2 ^ j)) (sym e)
        (round_exact binary32 s (2 ^ 24) (2 ^ j) 1 x (pow_pos j) (lit< tt)
        (subst (λ (y : ℕ). y < 2 ^ 277) (sym (one-mul (2 ^ x))) (pow-lt (below_top j)))
        (in-smallest j (2 ^ 24) h ∙ ap (λ (y : ℕ). y * 2 ^ j) (sym (pow-add 2 24 (149 - j)) ∙ sym (one-mul (2 ^ x)))))
    go (inr m) = round_exact binary32 s n (2 ^ j) n (149 - j) (pow_pos j) m (lt_of_lt_of_le (shl_lt 24 (149 - j) m) (pow_mono (le-of-lt' (below_top j)))) (in-smallest j n h)
      where
        le-of-lt' : {x y : ℕ} → x < y → x ≤ y
        le-of-lt' h = omega arith

abbrev pub negative : ℤ → Bool
negative (pos n) = false
negative (negsuc n) = true

pub of_k-value : (j : ℕ) → j ≤ finest → (k : ℤ) → nat_abs k ≤ sum_limit → HasValue (of_k j k) (negative k) (nat_abs k) (2 ^ j)
unfolding of_k
of_k-value j h (pos n) l = round-value j h false n l
of_k-value j h (negsuc n) l = round-value j h true (suc n) l

pub of_k-fits : (j : ℕ) (k : ℤ) → T (fits binary32 (of_k j k))
unfolding of_k
of_k-fits j (pos n) = round-fits binary32 false n (2 ^ j)
of_k-fits j (negsuc n) = round-fits binary32 true (suc n) (2 ^ j)

-- ---- sums
sum-apart : (j a b : ℕ) → sum binary32 false a true (suc b) (2 ^ j) ≡ of_k j (sub_ℕ a (suc b))
unfolding sum of_k
sum-apart j a b = go (ltb a (suc b)) (ltb→lt a (suc b))
  where
    up_one : (a b : ℕ) → a < suc b → suc b - a ≡ suc (suc b - suc a)
    up_one a b h = omega arith

    go : (t : Bool) → (T t → a < suc b)
        → cond t (round binary32 true (suc b - a) (2 ^ j)) (round binary32 false (a - suc b) (2 ^ j)) ≡ of_k j (cond t (negsuc (suc b - suc a)) (pos (a - suc b)))
    go true h = ap (λ (n : ℕ). round binary32 true n (2 ^ j)) (up_one a b (h tt))
    go false h = refl

-- a sum of 0 has no sign, in whichever order its terms stand
sum-turned : (j a b : ℕ) → sum binary32 true (suc a) false b (2 ^ j) ≡ sum binary32 false b true (suc a) (2 ^ j)
unfolding sum
sum-turned j a b = go (ltb (suc a) b) (ltb b (suc a)) (ltb→lt (suc a) b) (ltb→lt b (suc a)) (nltb→le (suc a) b) (nltb→le b (suc a))
  where
    level' : (a b : ℕ) → b ≤ suc a → suc a ≤ b → suc a - b ≡ b - suc a
    level' a b h k = omega arith

    go : (t u : Bool) → (T t → suc a < b) → (T u → b < suc a) → (T (not t) → b ≤ suc a) → (T (not u) → suc a ≤ b)
        → cond t (round binary32 false (b - suc a) (2 ^ j)) (round binary32 u (suc a - b) (2 ^ j)) ≡ cond u (round binary32 true (suc a - b) (2 ^ j)) (round binary32 false (b - suc a) (2 ^ j))
    go true true h k h' k' = absurd (omega (arith, h tt, k tt))
    go true false h k h' k' = refl
    go false true h k h' k' = refl
    go false false h k h' k' = ap (λ (n : ℕ). round binary32 false n (2 ^ j)) (level' a b (h' tt) (k' tt))

sum-of_k : (j : ℕ) (i k : ℤ) → sum binary32 (negative i) (nat_abs i) (negative k) (nat_abs k) (2 ^ j) ≡ of_k j (i +ℤ k)
unfolding sum of_k
sum-of_k j (pos a) (pos b) = refl
sum-of_k j (pos a) (negsuc b) = sum-apart j a b
sum-of_k j (negsuc a) (pos b) = sum-turned j a b ∙ sum-apart j b a
sum-of_k j (negsuc a) (negsuc b) = ap (λ (n : ℕ). round binary32 true n (2 ^ j)) (both a b)
  where
    both : (a b : ℕ) → suc a + suc b ≡ suc (suc (a + b))
    both a b = omega arith

both_ways : (a b : ℕ) → eqb a b && true ≡ leb a b && leb b a
both_ways a b =
    same_test (eqb a b && true) (leb a b && leb b a)
    (λ t. let e : a ≡ b = eqb→eq a b (and_l (eqb a b) true t) in and_i (leb a b) (leb b a) (le→leb a b (omega arith)) (le→leb b a (omega arith)))
    (λ t. and_i (eqb a b) true (eq→eqb (le_antisymm (leb→le a b (and_l (leb a b) (leb b a) t)) (leb→le b a (and_r (leb a b) (leb b a) t)))) tt)

below-int_lt : (i k : ℤ) → below (negative i) (nat_abs i) (negative k) (nat_abs k) ≡ lt_z i k
below-int_lt (pos a) (pos b) = refl
below-int_lt (pos a) (negsuc b) = refl
below-int_lt (negsuc a) (pos b) = is_true (ltb 0 (suc a + b)) (lt→ltb 0 (suc a + b) (some a b))
  where
    some : (a b : ℕ) → 0 < suc a + b
    some a b = omega arith
below-int_lt (negsuc a) (negsuc b) = leb-suc-suc (suc b) a

level-int_le : (i k : ℤ) → level (negative i) (nat_abs i) (negative k) (nat_abs k) ≡ le_z i k && le_z k i
level-int_le (pos a) (pos b) = both_ways a b
level-int_le (pos a) (negsuc b) = is_false (eqb a (suc b) && eqb a 0) (not_T (eqb a (suc b) && eqb a 0) (λ t. omega (arith, eqb→eq a (suc b) (and_l (eqb a (suc b)) (eqb a 0) t), eqb→eq a 0 (and_r (eqb a (suc b)) (eqb a 0) t))))
level-int_le (negsuc a) (pos b) = is_false (eqb (suc a) b && eqb (suc a) 0) (not_T (eqb (suc a) b && eqb (suc a) 0) (λ t. omega (arith, eqb→eq (suc a) 0 (and_r (eqb (suc a) b) (eqb (suc a) 0) t))))
level-int_le (negsuc a) (negsuc b) = both_ways (suc a) (suc b) ∙ (λ i. leb-suc-suc a b i && leb-suc-suc b a i) ∙ turned (leb a b) (leb b a)
  where
    turned : (x y : Bool) → x && y ≡ y && x
    turned true true = refl
    turned true false = refl
    turned false true = refl
    turned false false = refl

-- The laws for two numbers of units within the limit of sums.
module _ (j : ℕ) (h : j ≤ finest) (i k : ℤ) (p : nat_abs i ≤ sum_limit) (q : nat_abs k ≤ sum_limit) where
  pub add-of_k : add binary32 (of_k j i) (of_k j k) ≡ of_k j (i +ℤ k)
  add-of_k = add-values (2 ^ j) (pow_pos j) (negative i) (negative k) (nat_abs i) (nat_abs k) (of_k j i) (of_k j k) (of_k-value j h i p) (of_k-value j h k q) ∙ sum-of_k j i k

  pub lt-of_k : lt (of_k j i) (of_k j k) ≡ lt_z i k
  lt-of_k = lt-values (2 ^ j) (pow_pos j) (negative i) (negative k) (nat_abs i) (nat_abs k) (of_k j i) (of_k j k) (of_k-value j h i p) (of_k-value j h k q) ∙ below-int_lt i k

  pub eq-of_k : eq (of_k j i) (of_k j k) ≡ le_z i k && le_z k i
  eq-of_k = eq-values (2 ^ j) (pow_pos j) (negative i) (negative k) (nat_abs i) (nat_abs k) (of_k j i) (of_k j k) (of_k-value j h i p) (of_k-value j h k q) ∙ level-int_le i k

-- ---- infinity beside what is finite
record Finite (x : Float) : Type 0 where
  add-inf : add binary32 x (Ieee.inf false) ≡ Ieee.inf false
  inf-add : add binary32 (Ieee.inf false) x ≡ Ieee.inf false
  lt-inf : lt x (Ieee.inf false) ≡ true
  inf-lt : lt (Ieee.inf false) x ≡ false
  eq-inf : eq x (Ieee.inf false) ≡ false
  inf-eq : eq (Ieee.inf false) x ≡ false
  no_nan : is_nan x ≡ false

finite : (x : Float) (s : Bool) (n c : ℕ) → HasValue x s n c → Finite x
unfolding add lt eq is_nan
finite nan s n c v = absurd v
finite (Ieee.inf t) s n c v = absurd v
finite (Ieee.fin t m e) s n c v = record { add-inf = refl; inf-add = refl; lt-inf = refl; inf-lt = refl; eq-inf = refl; inf-eq = refl; no_nan = refl }

-- ---- the laws for two values of the semiring within the limit of sums
module _ (j : ℕ) (h : j ≤ finest) where
  of_k-finite : (k : ℤ) → nat_abs k ≤ sum_limit → Finite (of_k j k)
  of_k-finite k p = finite (of_k j k) (negative k) (nat_abs k) (2 ^ j) (of_k-value j h k p)

  pub times-of_t : (v w : Tropical) → Within sum_limit v → Within sum_limit w → add binary32 (of_t j v) (of_t j w) ≡ of_t j (v ⊗ w)
  unfolding add
  times-of_t (fin i) (fin k) p q = add-of_k j h i k p q
  times-of_t (fin i) inf p q = (of_k-finite i p).add-inf
  times-of_t inf (fin k) p q = (of_k-finite k q).inf-add
  times-of_t inf inf p q = refl

  pub lt-of_t : (v w : Tropical) → Within sum_limit v → Within sum_limit w → lt (of_t j v) (of_t j w) ≡ lt_t v w
  unfolding lt
  lt-of_t (fin i) (fin k) p q = lt-of_k j h i k p q
  lt-of_t (fin i) inf p q = (of_k-finite i p).lt-inf
  lt-of_t inf (fin k) p q = (of_k-finite k q).inf-lt
  lt-of_t inf inf p q = refl

  pub eq-of_t : (v w : Tropical) → Within sum_limit v → Within sum_limit w → eq (of_t j v) (of_t j w) ≡ eq_t v w
  unfolding eq
  eq-of_t (fin i) (fin k) p q = eq-of_k j h i k p q
  eq-of_t (fin i) inf p q = (of_k-finite i p).eq-inf
  eq-of_t inf (fin k) p q = (of_k-finite k q).inf-eq
  eq-of_t inf inf p q = refl

  pub lesser-of_t : (v w : Tropical) → Within sum_limit v → Within sum_limit w → lesser (of_t j v) (of_t j w) ≡ of_t j (v ⊕ w)
  unfolding lesser
  lesser-of_t v w p q = ap (λ (t : Bool). cond t (of_t j w) (of_t j v)) (lt-of_t w v q p) ∙ pushed (lt_t w v)
    where
      pushed : (t : Bool) → cond t (of_t j w) (of_t j v) ≡ of_t j (cond t w v)
      pushed true = refl
      pushed false = refl

  -- one value of the semiring for each float
  pub of_t-injective : (v w : Tropical) → Within sum_limit v → Within sum_limit w → of_t j v ≡ of_t j w → v ≡ w
  of_t-injective v w p q e = eq_t-eq v w (sym (eq-of_t v w p q) ∙ ap (λ x. eq x (of_t j w)) e ∙ eq-of_t w w q q ∙ eq-eq_t w w refl)

  -- ---- bits written and read back are the value
  pub of_t-no-nan : (v : Tropical) → Within sum_limit v → is_nan (of_t j v) ≡ false
  unfolding is_nan
  of_t-no-nan (fin k) p = (of_k-finite k p).no_nan
  of_t-no-nan inf p = refl

  pub of_t-fits : (v : Tropical) → T (fits binary32 (of_t j v))
  of_t-fits (fin k) = of_k-fits j k
  of_t-fits inf = inf-fits binary32 false

  pub bits_back : (v : Tropical) → of_bits binary32 (to_bits binary32 (of_t j v)) ≡ of_t j v
  bits_back v = of_bits-to_bits binary32 (of_t j v) (of_t-fits v)

  -- ---- zero and one, and what the contracts say of an operation and of a test
  pub one-of_t : Ieee.fin false 0 (pos 0) ≡ of_t j one
  unfolding fits
  one-of_t = value-unique (Ieee.fin false 0 (pos 0)) (of_k j (pos 0)) false 0 (2 ^ j) (pow_pos j) tt (of_k-fits j (pos 0)) (refl, zero-mul (2 ^ j)) (of_k-value j h (pos 0) (lit≤ tt))

pub computes : (single : Float → Float → Float) (op : Tropical → Tropical → Tropical)
    → ((j : ℕ) → j ≤ finest → (v w : Tropical) → Within sum_limit v → Within sum_limit w → single (of_t j v) (of_t j w) ≡ of_t j (op v w))
    → (a b : Float) → Computes single op a b (single a b)
computes single op law a b = record { same = refl; exact = λ j h v w p q e f. (λ i. single (e i) (f i)) ∙ law j h v w p q }

pub decides : (single : Float → Float → Bool) (test : Tropical → Tropical → Bool)
    → ((j : ℕ) → j ≤ finest → (v w : Tropical) → Within sum_limit v → Within sum_limit w → single (of_t j v) (of_t j w) ≡ test v w)
    → (a b : Float) → Decides single test a b (single a b)
decides single test law a b = record { same = refl; exact = λ j h v w p q e f. (λ i. single (e i) (f i)) ∙ law j h v w p q }
