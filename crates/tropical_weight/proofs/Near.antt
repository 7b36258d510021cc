-- A whole number of units and a delta above 0 and at most a quarter of the unit: their sum, though rounded to single precision, is at least that number
-- and less than the next. So `≤` with delta added is `≤` of the whole numbers, in any unit. Assumes nothing.
use Rattle.std.proofs.Common.{◌≡◌, ℕ, zero, suc, ◌+◌, ◌-◌, ◌*◌, ◌/◌, ◌%◌, ◌^◌, ◌<◌, ◌≤◌, Bool, true, false, cond, not, ◌&&◌, ◌||◌, T, eqb, ltb, leb, ◌⊎◌, ℤ, pos, negsuc, nat_abs, sym, refl, ap, ◌∙◌, subst, inl, inr, le_trans, le_of_eq, lt_of_lt_of_le, lt_of_le_of_lt, le_of_lt, mul-le-mul_right, zero-lt-suc, mul_assoc, mul_comm, div-lt_iff_lt-mul, lt_of_mul-lt-mul_right, eq-or-lt_of_le, mul-le-mul_left, mul-lt-mul_of_pos_right, mul-pos, pow-suc, mul-one, mul_right_comm, div-one, arith, le→leb, eqb→eq, ltb→lt, lt→ltb, leb→le, pow_pos, pow_mono, pow-add}
use Prim.Native.Nat.{compare}
use native.Mathlib.Nat.{mod-one}
use lib.Dec.{not_T}
use lib.Pow.{pow-lt}
use lib.Signed.{le_z}
use lib.Ieee.{Float, nan, binary32, up, down, size, nearest, round, sum, add, lt, le, of_bits}
use lib.Ieee as Ieee
use lib.Ieee.Bits.{is_true, is_false}
use lib.Ieee.Digits.{size-le, back}
use lib.Ieee.Exact.{HasValue, units_val}
use lib.Ieee.Fits.{round_is, up_pos, down_pos, and_i, and_l, and_r, eq→eqb}
use lib.Ieee.Nearest.{closest, closest_mono}
use lib.Ieee.Order.{drop, kept}
use lib.Ieee.Scale.{grid, overflow}
use Rattle.tropical_weight.specs.Limits.{finest, sum_limit}
use Rattle.tropical_weight.specs.Tropical.{Tropical, fin, inf, le_t, eq_t, ◌⊕◌, Within}
use Rattle.tropical_weight.specs.Grid.{of_k, of_t}
use Rattle.tropical_weight.specs.Single.{lesser, approx_equal, small, Approx}
use Rattle.tropical_weight.proofs.Values.{same_test, add-values, le-values, rescale}
use Rattle.tropical_weight.proofs.Exact.{negative, of_k-value, lt-of_t, lesser-of_t}
use Rattle.tropical_weight.proofs.Semiring.{natural-lt_t, improve-lt_t}
use Rattle.tropical_weight.proofs.Sums.{within-⊕}

-- ---- to the nearest whole number
closest-whole : (q : ℕ) → closest q 1 ≡ q
closest-whole q = ap (λ (x : ℕ). nearest x (compare (q % 1 * 2) 1)) (div-one q) ∙ ap (λ (x : ℕ). nearest q (compare (x * 2) 1)) (mod-one q)

-- n and a quarter goes down, n and three quarters up
closest-quarter : (n : ℕ) → closest (4 * n + 1) 4 ≡ n
closest-quarter n =
    ap (λ (x : ℕ). nearest x (compare ((4 * n + 1) % 4 * 2) 4)) (let e : (4 * n + 1) / 4 ≡ n = omega arith in e)
    ∙ ap (λ (x : ℕ). nearest n (compare (x * 2) 4)) (let e : (4 * n + 1) % 4 ≡ 1 = omega arith in e)

closest-quarters : (n : ℕ) → closest (4 * n + 3) 4 ≡ suc n
closest-quarters n =
    ap (λ (x : ℕ). nearest x (compare ((4 * n + 3) % 4 * 2) 4)) (let e : (4 * n + 3) / 4 ≡ n = omega arith in e)
    ∙ ap (λ (x : ℕ). nearest n (compare (x * 2) 4)) (let e : (4 * n + 3) % 4 ≡ 3 = omega arith in e)

-- ---- for d up to l, n / c to the nearest multiple of 2 ^ d passes no multiple of 2 ^ l: that is one of 2 ^ d too
module _ (n c d l a : ℕ) (C : 0 < c) (h : d ≤ l) where
  steps : a * 2 ^ (l - d) * 2 ^ d ≡ a * 2 ^ l
  steps = mul_assoc a (2 ^ (l - d)) (2 ^ d) ∙ ap (λ (x : ℕ). a * x) (sym (pow-add 2 (l - d) d) ∙ ap (λ (x : ℕ). 2 ^ x) (back l d h))

  steps-over : a * 2 ^ (l - d) * (c * 2 ^ d) ≡ a * 2 ^ l * c
  steps-over = ap (λ (x : ℕ). a * 2 ^ (l - d) * x) (mul_comm c (2 ^ d)) ∙ sym (mul_assoc (a * 2 ^ (l - d)) (2 ^ d) c) ∙ ap (λ (x : ℕ). x * c) steps

  at_least : a * 2 ^ l * c ≤ n → a * 2 ^ l ≤ closest n (c * 2 ^ d) * 2 ^ d
  at_least g =
      let w = a * 2 ^ (l - d) in
      let m : closest w 1 ≤ closest n (c * 2 ^ d) =
      closest_mono w 1 n (c * 2 ^ d) (zero-lt-suc 0) (mul-pos C (pow_pos d)) (le_trans (le_of_eq steps-over) (le_trans g (le_of_eq (sym (mul-one n))))) in
      le_trans (le_of_eq (sym steps)) (mul-le-mul_right (2 ^ d) (le_trans (le_of_eq (sym (closest-whole w))) m))

  at_most : n ≤ a * 2 ^ l * c → closest n (c * 2 ^ d) * 2 ^ d ≤ a * 2 ^ l
  at_most g =
      let w = a * 2 ^ (l - d) in
      let m : closest n (c * 2 ^ d) ≤ closest w 1 =
      closest_mono n (c * 2 ^ d) w 1 (mul-pos C (pow_pos d)) (zero-lt-suc 0) (le_trans (le_of_eq (mul-one n)) (le_trans g (le_of_eq (sym steps-over)))) in
      le_trans (mul-le-mul_right (2 ^ d) (le_trans m (le_of_eq (closest-whole w)))) (le_of_eq steps)

-- With a quarter of 2 ^ l added or taken off, a multiple of it does not reach the next: where d is l the quarter goes, and otherwise half of 2 ^ l is a
-- multiple of 2 ^ d, which is not passed.
halved : (n c a x : ℕ) → n * 4 ≤ (4 * a + 1) * (c * (x * 2)) → n ≤ (2 * a + 1) * x * c
halved n c a x h = omega arith

halved' : (n c a x : ℕ) → (4 * a + 3) * (c * (x * 2)) ≤ n * 4 → (2 * a + 1) * x * c ≤ n
halved' n c a x h = omega arith

half-way : (a x g : ℕ) → 0 < x → g ≤ (2 * a + 1) * x → g < suc a * (x * 2)
half-way a x g p h = omega arith

half-way' : (a x g : ℕ) → 0 < x → (2 * a + 1) * x ≤ g → a * (x * 2) < g
half-way' a x g p h = omega arith

less : (d l : ℕ) → d < suc l → d ≤ l
less d l h = omega arith

module _ (n c d a : ℕ) (C : 0 < c) where
  under_next : (l : ℕ) → d ≤ l → n * 4 ≤ (4 * a + 1) * (c * 2 ^ l) → closest n (c * 2 ^ d) * 2 ^ d < suc a * 2 ^ l
  under_next l h g = elim (eq-or-lt_of_le h) [ inl e ↦ same e | inr m ↦ finer l m g ]
    where
      same : d ≡ l → closest n (c * 2 ^ d) * 2 ^ d < suc a * 2 ^ l
      same e =
          subst (λ (d : ℕ). closest n (c * 2 ^ d) * 2 ^ d < suc a * 2 ^ l) (sym e)
          (mul-lt-mul_of_pos_right
          (lt_of_le_of_lt (closest_mono n (c * 2 ^ l) (4 * a + 1) 4 (mul-pos C (pow_pos l)) (zero-lt-suc 3) g) (subst (λ (x : ℕ). x < suc a) (sym (closest-quarter a)) (let s : a < suc a = omega arith in s)))
          (pow_pos l))

      finer : (l : ℕ) → d < l → n * 4 ≤ (4 * a + 1) * (c * 2 ^ l) → closest n (c * 2 ^ d) * 2 ^ d < suc a * 2 ^ l
      finer zero m g = absurd (omega arith)
      finer (suc l) m g =
          subst (λ (x : ℕ). closest n (c * 2 ^ d) * 2 ^ d < suc a * x) (sym (pow-suc 2 l))
          (half-way a (2 ^ l) (closest n (c * 2 ^ d) * 2 ^ d) (pow_pos l)
          (at_most n c d l (2 * a + 1) C (less d l m) (halved n c a (2 ^ l) (subst (λ (x : ℕ). n * 4 ≤ (4 * a + 1) * (c * x)) (pow-suc 2 l) g))))

  over_last : (l : ℕ) → d ≤ l → (4 * a + 3) * (c * 2 ^ l) ≤ n * 4 → a * 2 ^ l < closest n (c * 2 ^ d) * 2 ^ d
  over_last l h g = elim (eq-or-lt_of_le h) [ inl e ↦ same e | inr m ↦ finer l m g ]
    where
      same : d ≡ l → a * 2 ^ l < closest n (c * 2 ^ d) * 2 ^ d
      same e =
          subst (λ (d : ℕ). a * 2 ^ l < closest n (c * 2 ^ d) * 2 ^ d) (sym e)
          (mul-lt-mul_of_pos_right (le_trans (le_of_eq (sym (closest-quarters a))) (closest_mono (4 * a + 3) 4 n (c * 2 ^ l) (zero-lt-suc 3) (mul-pos C (pow_pos l)) g)) (pow_pos l))

      finer : (l : ℕ) → d < l → (4 * a + 3) * (c * 2 ^ l) ≤ n * 4 → a * 2 ^ l < closest n (c * 2 ^ d) * 2 ^ d
      finer zero m g = absurd (omega arith)
      finer (suc l) m g =
          subst (λ (x : ℕ). a * x < closest n (c * 2 ^ d) * 2 ^ d) (sym (pow-suc 2 l))
          (half-way' a (2 ^ l) (closest n (c * 2 ^ d) * 2 ^ d) (pow_pos l)
          (at_least n c d l (2 * a + 1) C (less d l m) (halved' n c a (2 ^ l) (subst (λ (x : ℕ). (4 * a + 3) * (c * x) ≤ n * 4) (pow-suc 2 l) g))))

-- ---- n units and a delta, in single precision's smallest values: 2 ^ 149 of them are 1, and 2 ^ (149 - j) a unit
smallest : (j n : ℕ) → j ≤ finest → n * 2 ^ 149 ≡ n * (2 ^ (149 - j) * 2 ^ j)
smallest j n h = ap (λ (x : ℕ). n * 2 ^ x) (let e : 149 ≡ 149 - j + j = omega arith in e) ∙ ap (λ (x : ℕ). n * x) (pow-add 2 (149 - j) j)

-- what is below 2 ^ (24 + l) of them has at most l digits dropped
dropped : (n c l : ℕ) → 0 < c → n < 2 ^ 24 * 2 ^ l * c → drop 24 n c ≤ l
dropped n c l C h = spare (size (n / c)) l (size-le (n / c) (24 + l) ((div-lt_iff_lt-mul C).1 (subst (λ (x : ℕ). n < x * c) (sym (pow-add 2 24 l)) h)))
  where
    spare : (z l : ℕ) → z ≤ 24 + l → z - 24 ≤ l
    spare z l h = omega arith

-- and no overflow, whatever the unit
finite : (g l : ℕ) → l ≤ 150 → g ≤ 2 ^ 24 * 2 ^ l → g < overflow binary32
finite g l h b = lt_of_le_of_lt b (subst (λ (x : ℕ). x < 2 ^ 277) (pow-add 2 24 l) (pow-lt (let k : 24 + l < 277 = omega arith in k)))

-- `lib.Ieee.Scale.round_val`, with either sign
round-value : (s : Bool) (a c : ℕ) → grid binary32 a c < overflow binary32 → HasValue (round binary32 s a c) s (grid binary32 a c) (2 ^ 149)
round-value s a c h =
    subst (λ (x : Float). HasValue x s (grid binary32 a c) (2 ^ 149)) (sym (round_is binary32 s a c)) (units_val binary32 s (kept 24 (a * 2 ^ 149) c) (drop 24 (a * 2 ^ 149) c) h)

-- x is at least n units, u of the smallest values each, and less than one more; at the limit of sums the latter is not asked
record Above (u n : ℕ) (x : Float) : Type 0 where
  amount : ℕ
  value : HasValue x false amount (2 ^ 149)
  reached : n * u ≤ amount
  no_more : (a : ℕ) → a ≤ sum_limit → a * u ≤ amount → a ≤ n

-- x is negative, of more than n units and at most one more
record Beneath (u n : ℕ) (x : Float) : Type 0 where
  amount : ℕ
  value : HasValue x true amount (2 ^ 149)
  passed : n * u < amount
  within : amount ≤ suc n * u

-- the fraction m / (b * y), in the smallest values m * (u * b) / (b * y), where u * b of them are 1
module _ (u b y m : ℕ) where
  from-below : (a : ℕ) → a * y ≤ m → a * u * (b * y) ≤ m * (u * b)
  from-below a h = let p : a * y * (u * b) ≤ m * (u * b) = mul-le-mul_right (u * b) h in omega arith

  from-above : (a : ℕ) → m ≤ a * y → m * (u * b) ≤ a * u * (b * y)
  from-above a h = let p : m * (u * b) ≤ a * y * (u * b) = mul-le-mul_right (u * b) h in omega arith

  strictly : (a : ℕ) → 0 < u * b → m < a * y → m * (u * b) < a * u * (b * y)
  strictly a k h = let p : m * (u * b) < a * y * (u * b) = mul-lt-mul_of_pos_right h k in omega arith

  quarter : (a : ℕ) → m * 4 ≤ (4 * a + 1) * y → m * (u * b) * 4 ≤ (4 * a + 1) * (b * y * u)
  quarter a h = let p : m * 4 * (u * b) ≤ (4 * a + 1) * y * (u * b) = mul-le-mul_right (u * b) h in omega arith

  quarters : (a : ℕ) → (4 * a + 3) * y ≤ m * 4 → (4 * a + 3) * (b * y * u) ≤ m * (u * b) * 4
  quarters a h = let p : (4 * a + 3) * y * (u * b) ≤ m * 4 * (u * b) = mul-le-mul_right (u * b) h in omega arith

-- less than 2 ^ 24 units, and at the limit less than twice that
few : (n y m : ℕ) → 0 < y → n < 2 ^ 24 → m * 4 ≤ (4 * n + 1) * y → m < 2 ^ 24 * y
few n y m Y p h = let k : suc n * y ≤ 2 ^ 24 * y = mul-le-mul_right y p in omega arith

few' : (y m : ℕ) → 0 < y → m * 4 ≤ (4 * 2 ^ 24 + 1) * y → m < 2 ^ 25 * y
few' y m Y h = omega arith

twice : (l a b : ℕ) → b ≡ a * 2 → a * 2 ^ suc l ≡ b * 2 ^ l
twice l a b e = ap (λ (x : ℕ). a * x) (pow-suc 2 l) ∙ go (2 ^ l)
  where
    go : (x : ℕ) → a * (x * 2) ≡ b * x
    go x = mul_comm a (x * 2) ∙ mul_assoc x 2 a ∙ ap (λ (z : ℕ). x * z) (mul_comm 2 a ∙ sym e) ∙ mul_comm x b

-- the fraction m / (2 ^ j * y) rounded
module _ (j : ℕ) (h : j ≤ finest) (y m : ℕ) (Y : 0 < y) where
  c_pos : 0 < 2 ^ j * y
  c_pos = mul-pos (pow_pos j) Y

  one-pos : 0 < 2 ^ (149 - j) * 2 ^ j
  one-pos = mul-pos (pow_pos (149 - j)) (pow_pos j)

  above : (n : ℕ) → n < sum_limit → n * y ≤ m → m * 4 ≤ (4 * n + 1) * y → Above (2 ^ (149 - j)) n (round binary32 false m (2 ^ j * y))
  above n p lo hi =
      let l = 149 - j in
      let u = 2 ^ l in
      let c = 2 ^ j * y in
      let N = m * 2 ^ 149 in
      let e = sym (smallest j m h) in
      let g = grid binary32 m c in
      let d : drop 24 N c ≤ l = dropped N c l c_pos (subst (λ (x : ℕ). x < 2 ^ 24 * u * c) e (strictly u (2 ^ j) y m (2 ^ 24) one-pos (few n y m Y p hi))) in
      let a : n * u ≤ g = at_least N c (drop 24 N c) l n c_pos d (subst (λ (x : ℕ). n * u * c ≤ x) e (from-below u (2 ^ j) y m n lo)) in
      let z : g < suc n * u = under_next N c (drop 24 N c) n c_pos l d (subst (λ (x : ℕ). x * 4 ≤ (4 * n + 1) * (c * u)) e (quarter u (2 ^ j) y m n hi)) in
      let k : l ≤ 150 = omega arith in
      record {
        amount = g;
        value = round-value false m c (finite g l k (le_trans (le_of_lt z) (mul-le-mul_right u p)));
        reached = a;
        no_more = λ i q t. less i n (lt_of_mul-lt-mul_right u (lt_of_le_of_lt t z));
      }

  -- at the limit one digit more is dropped
  above-limit : 2 ^ 24 * y ≤ m → m * 4 ≤ (4 * 2 ^ 24 + 1) * y → Above (2 ^ (149 - j)) sum_limit (round binary32 false m (2 ^ j * y))
  above-limit lo hi =
      let l = 149 - j in
      let u = 2 ^ l in
      let c = 2 ^ j * y in
      let N = m * 2 ^ 149 in
      let e = sym (smallest j m h) in
      let g = grid binary32 m c in
      let f : N < 2 ^ 24 * 2 ^ suc l * c =
      subst (λ (x : ℕ). N < x * c) (sym (twice l (2 ^ 24) (2 ^ 25) refl)) (subst (λ (x : ℕ). x < 2 ^ 25 * u * c) e (strictly u (2 ^ j) y m (2 ^ 25) one-pos (few' y m Y hi))) in
      let d : drop 24 N c ≤ suc l = dropped N c (suc l) c_pos f in
      let a : 2 ^ 23 * 2 ^ suc l ≤ g =
      at_least N c (drop 24 N c) (suc l) (2 ^ 23) c_pos d
      (subst (λ (x : ℕ). x * c ≤ N) (sym (twice l (2 ^ 23) (2 ^ 24) refl)) (subst (λ (x : ℕ). 2 ^ 24 * u * c ≤ x) e (from-below u (2 ^ j) y m (2 ^ 24) lo))) in
      let k : suc l ≤ 150 = omega arith in
      record {
        amount = g;
        value = round-value false m c (finite g (suc l) k (at_most N c (drop 24 N c) (suc l) (2 ^ 24) c_pos d (le_of_lt f)));
        reached = subst (λ (x : ℕ). x ≤ g) (twice l (2 ^ 23) (2 ^ 24) refl) a;
        no_more = λ i q t. q;
      }

  beneath : (n : ℕ) → n < sum_limit → (4 * n + 3) * y ≤ m * 4 → m < suc n * y → Beneath (2 ^ (149 - j)) n (round binary32 true m (2 ^ j * y))
  beneath n p lo hi =
      let l = 149 - j in
      let u = 2 ^ l in
      let c = 2 ^ j * y in
      let N = m * 2 ^ 149 in
      let e = sym (smallest j m h) in
      let g = grid binary32 m c in
      let d : drop 24 N c ≤ l = dropped N c l c_pos (subst (λ (x : ℕ). x < 2 ^ 24 * u * c) e (strictly u (2 ^ j) y m (2 ^ 24) one-pos (lt_of_lt_of_le hi (mul-le-mul_right y p)))) in
      let a : n * u < g = over_last N c (drop 24 N c) n c_pos l d (subst (λ (x : ℕ). (4 * n + 3) * (c * u) ≤ x * 4) e (quarters u (2 ^ j) y m n lo)) in
      let z : g ≤ suc n * u = at_most N c (drop 24 N c) l (suc n) c_pos d (subst (λ (x : ℕ). x ≤ suc n * u * c) e (from-above u (2 ^ j) y m (suc n) (le_of_lt hi))) in
      let k : l ≤ 150 = omega arith in
      record { amount = g; value = round-value true m c (finite g l k (le_trans z (mul-le-mul_right u p))); passed = a; within = z }

-- ---- the test, by what is known of the sum
or-i : (x y : Bool) → T x ⊎ T y → T (x || y)
or-i true y t = tt
or-i false y (inl t) = absurd t
or-i false y (inr t) = t

or-e : (x y : Bool) → T (x || y) → T x ⊎ T y
or-e true y t = inl tt
or-e false y t = inr t

at-or-under : (p q : ℕ) (e r : Bool) → (T e → p ≡ q) → (p ≡ q → T e) → (T r → p ≤ q) → (p ≤ q → T r) → ltb p q || (e && true) ≡ r
at-or-under p q e r f g a b =
    same_test (ltb p q || (e && true)) r
    (λ t. b (elim (or-e (ltb p q) (e && true) t) [ inl t ↦ le_of_lt (ltb→lt p q t) | inr t ↦ le_of_eq (f (and_l e true t)) ]))
    (λ t. or-i (ltb p q) (e && true) (elim (eq-or-lt_of_le (a t)) [ inl m ↦ inr (and_i e true (g m) tt) | inr m ↦ inl (lt→ltb p q m) ]))

-- infinity beside what is finite
inf-over : (x : Float) (s : Bool) (n c : ℕ) → HasValue x s n c → le (Ieee.inf false) x ≡ false
unfolding le
inf-over nan s n c v = absurd v
inf-over (Ieee.inf u) s n c v = absurd v
inf-over (Ieee.fin u m e) s n c v = refl

under-inf : (x : Float) (s : Bool) (n c : ℕ) → HasValue x s n c → le x (Ieee.inf false) ≡ true
unfolding le
under-inf nan s n c v = absurd v
under-inf (Ieee.inf u) s n c v = absurd v
under-inf (Ieee.fin u m e) s n c v = refl

-- x is finite, and tests as k units do
record Tests (j : ℕ) (k : ℤ) (x : Float) : Type 0 where
  at : (i : ℤ) → nat_abs i ≤ sum_limit → le (of_k j i) x ≡ le_z i k
  over : le (Ieee.inf false) x ≡ false

module _ (j : ℕ) (h : j ≤ finest) where
  -- i units in the smallest values
  of_k-small : (i : ℤ) → nat_abs i ≤ sum_limit → HasValue (of_k j i) (negative i) (nat_abs i * 2 ^ (149 - j)) (2 ^ 149)
  of_k-small i p =
      rescale (of_k j i) (negative i) (nat_abs i) (2 ^ j) (nat_abs i * 2 ^ (149 - j)) (2 ^ 149) (pow_pos j) (mul_assoc (nat_abs i) (2 ^ (149 - j)) (2 ^ j) ∙ sym (smallest j (nat_abs i) h)) (of_k-value j h i p)

  above_at : (i : ℤ) (n : ℕ) (x : Float) → nat_abs i ≤ sum_limit → Above (2 ^ (149 - j)) n x → le (of_k j i) x ≡ le_z i (pos n)
  above_at (pos a) n x p v =
      let u = 2 ^ (149 - j) in
      le-values (2 ^ 149) (pow_pos 149) false false (a * u) v.amount (of_k j (pos a)) x (of_k-small (pos a) p) v.value
      ∙ at-or-under (a * u) v.amount (eqb (a * u) v.amount) (leb a n) (eqb→eq (a * u) v.amount) eq→eqb
      (λ t. le_trans (mul-le-mul_right u (leb→le a n t)) v.reached) (λ t. le→leb a n (v.no_more a p t))
  above_at (negsuc a) n x p v =
      let u = 2 ^ (149 - j) in
      le-values (2 ^ 149) (pow_pos 149) true false (suc a * u) v.amount (of_k j (negsuc a)) x (of_k-small (negsuc a) p) v.value
      ∙ is_true (ltb 0 (suc a * u + v.amount) || (eqb (suc a * u) v.amount && eqb (suc a * u) 0))
      (or-i (ltb 0 (suc a * u + v.amount)) (eqb (suc a * u) v.amount && eqb (suc a * u) 0) (inl (lt→ltb 0 (suc a * u + v.amount) (some (suc a * u) v.amount (mul-pos (zero-lt-suc a) (pow_pos (149 - j)))))))
    where
      some : (x y : ℕ) → 0 < x → 0 < x + y
      some x y h = omega arith

  beneath-at : (i : ℤ) (n : ℕ) (x : Float) → nat_abs i ≤ sum_limit → Beneath (2 ^ (149 - j)) n x → le (of_k j i) x ≡ le_z i (negsuc n)
  beneath-at (pos a) n x p v =
      let u = 2 ^ (149 - j) in
      le-values (2 ^ 149) (pow_pos 149) false true (a * u) v.amount (of_k j (pos a)) x (of_k-small (pos a) p) v.value
      ∙ is_false (eqb (a * u) v.amount && eqb (a * u) 0) (not_T (eqb (a * u) v.amount && eqb (a * u) 0)
      (λ t. nowhere (a * u) v.amount (n * u) v.passed (eqb→eq (a * u) v.amount (and_l (eqb (a * u) v.amount) (eqb (a * u) 0) t)) (eqb→eq (a * u) 0 (and_r (eqb (a * u) v.amount) (eqb (a * u) 0) t))))
    where
      nowhere : (x g k : ℕ) → k < g → x ≡ g → x ≡ 0 → ⊥
      nowhere x g k h e f = omega arith
  beneath-at (negsuc a) n x p v =
      let u = 2 ^ (149 - j) in
      le-values (2 ^ 149) (pow_pos 149) true true (suc a * u) v.amount (of_k j (negsuc a)) x (of_k-small (negsuc a) p) v.value
      ∙ at-or-under v.amount (suc a * u) (eqb (suc a * u) v.amount) (leb n a) (λ t. sym (eqb→eq (suc a * u) v.amount t)) (λ e. eq→eqb (sym e))
      (λ t. le_trans v.within (mul-le-mul_right u (let k : suc n ≤ suc a = omega (arith, leb→le n a t) in k)))
      (λ t. le→leb n a (less n a (lt_of_mul-lt-mul_right u (lt_of_lt_of_le v.passed t))))

  le-above : (n : ℕ) (x : Float) → Above (2 ^ (149 - j)) n x → Tests j (pos n) x
  le-above n x v = record { at = λ i p. above_at i n x p v; over = inf-over x false v.amount (2 ^ 149) v.value }

  le-beneath : (n : ℕ) (x : Float) → Beneath (2 ^ (149 - j)) n x → Tests j (negsuc n) x
  le-beneath n x v = record { at = λ i p. beneath-at i n x p v; over = inf-over x true v.amount (2 ^ 149) v.value }

-- ---- delta
small_pos : (j m : ℕ) (e : ℤ) → T (small j (Ieee.fin false m e)) → 0 < m
unfolding small
small_pos j m e t = ltb→lt 0 m (and_l (ltb 0 m) (leb (m * up e * 4 * 2 ^ j) (down e)) t)

small-le : (j m : ℕ) (e : ℤ) → T (small j (Ieee.fin false m e)) → m * up e * 4 * 2 ^ j ≤ down e
unfolding small
small-le j m e t = leb→le (m * up e * 4 * 2 ^ j) (down e) (and_r (ltb 0 m) (leb (m * up e * 4 * 2 ^ j) (down e)) t)

-- small beside a unit is small beside every larger
pub small-antitone : (i j : ℕ) (delta : Float) → i ≤ j → T (small j delta) → T (small i delta)
unfolding small
small-antitone i j nan h t = absurd t
small-antitone i j (Ieee.inf s) h t = absurd t
small-antitone i j (Ieee.fin true m e) h t = absurd t
small-antitone i j (Ieee.fin false m e) h t =
    and_i (ltb 0 m) (leb (m * up e * 4 * 2 ^ i) (down e)) (and_l (ltb 0 m) (leb (m * up e * 4 * 2 ^ j) (down e)) t)
    (le→leb (m * up e * 4 * 2 ^ i) (down e) (le_trans (mul-le-mul_left (m * up e * 4) (pow_mono h)) (small-le j m e t)))

-- the Rust's 1e-6 (KSHORTESTDELTA) and 1 / 1024 (KDELTA), by their bits 0x358637bd and 0x3a800000
pub shortest-delta-small : (j : ℕ) → j ≤ finest → T (small j (of_bits binary32 897988541))
shortest-delta-small j h = small-antitone j finest (of_bits binary32 897988541) h (unfold small of_bits in tt)

pub delta-small : (j : ℕ) → j ≤ finest → T (small j (of_bits binary32 981467136))
delta-small j h = small-antitone j finest (of_bits binary32 981467136) h (unfold small of_bits in tt)

-- ---- the sum, with y for delta's denominator and q for its numerator by 2 ^ j
up-quarter : (n y q : ℕ) → q * 4 ≤ y → (n * y + q) * 4 ≤ (4 * n + 1) * y
up-quarter n y q h = omega arith

up-at-least : (n y q : ℕ) → n * y ≤ n * y + q
up-at-least n y q = omega arith

down-quarter : (n y q : ℕ) → q * 4 ≤ y → (4 * n + 3) * y ≤ (suc n * y - q) * 4
down-quarter n y q h = omega arith

down-less : (n y q : ℕ) → 0 < q → q * 4 ≤ y → suc n * y - q < suc n * y
down-less n y q p h = omega arith

smaller : (n y q : ℕ) → 0 < q → q * 4 ≤ y → q < suc n * y
smaller n y q p h = omega arith

-- a negative number's sum stays negative
sum-down : (a q c : ℕ) → q < a → sum binary32 true a false q c ≡ round binary32 true (a - q) c
unfolding sum
sum-down a q c h =
    ap (λ (t : Bool). cond t (round binary32 false (q - a) c) (round binary32 (ltb q a) (a - q) c)) (is_false (ltb a q) (not_T (ltb a q) (λ t. let k : a < q = ltb→lt a q t in omega arith)))
    ∙ ap (λ (t : Bool). round binary32 t (a - q) c) (is_true (ltb q a) (lt→ltb q a h))

module _ (j : ℕ) (h : j ≤ finest) (m : ℕ) (e : ℤ) (t : T (small j (Ieee.fin false m e))) where
  q-le : m * up e * 2 ^ j * 4 ≤ down e
  q-le = le_trans (le_of_eq (mul_right_comm (m * up e) (2 ^ j) 4)) (small-le j m e t)

  q-pos : 0 < m * up e * 2 ^ j
  q-pos = mul-pos (mul-pos (small_pos j m e t) (up_pos e)) (pow_pos j)

  add-sum : (k : ℤ) → nat_abs k ≤ sum_limit → add binary32 (of_k j k) (Ieee.fin false m e) ≡ sum binary32 (negative k) (nat_abs k * down e) false (m * up e * 2 ^ j) (2 ^ j * down e)
  add-sum k p =
      add-values (2 ^ j * down e) (mul-pos (pow_pos j) (down_pos e)) (negative k) false (nat_abs k * down e) (m * up e * 2 ^ j) (of_k j k) (Ieee.fin false m e)
      (rescale (of_k j k) (negative k) (nat_abs k) (2 ^ j) (nat_abs k * down e) (2 ^ j * down e) (pow_pos j)
      (mul_assoc (nat_abs k) (down e) (2 ^ j) ∙ ap (λ (x : ℕ). nat_abs k * x) (mul_comm (down e) (2 ^ j))) (of_k-value j h k p))
      (refl, sym (mul_assoc (m * up e) (2 ^ j) (down e)))

  tests : (k : ℤ) → nat_abs k ≤ sum_limit → Tests j k (add binary32 (of_k j k) (Ieee.fin false m e))
  unfolding sum
  tests (pos n) p =
      let y = down e in
      let q = m * up e * 2 ^ j in
      let lands : Above (2 ^ (149 - j)) n (round binary32 false (n * y + q) (2 ^ j * y)) = elim (eq-or-lt_of_le p) [
        | inl s ↦
            subst (λ (n : ℕ). Above (2 ^ (149 - j)) n (round binary32 false (n * y + q) (2 ^ j * y))) (sym s)
            (above-limit j h y (2 ^ 24 * y + q) (down_pos e) (up-at-least (2 ^ 24) y q) (up-quarter (2 ^ 24) y q q-le))
        | inr s ↦ above j h y (n * y + q) (down_pos e) n s (up-at-least n y q) (up-quarter n y q q-le)
      ] in
      subst (λ (x : Float). Tests j (pos n) x) (sym (add-sum (pos n) p)) (le-above j h n (round binary32 false (n * y + q) (2 ^ j * y)) lands)
  tests (negsuc n) p =
      let y = down e in
      let q = m * up e * 2 ^ j in
      subst (λ (x : Float). Tests j (negsuc n) x) (sym (add-sum (negsuc n) p ∙ sum-down (suc n * y) q (2 ^ j * y) (smaller n y q q-pos q-le)))
      (le-beneath j h n (round binary32 true (suc n * y - q) (2 ^ j * y))
      (beneath j h y (suc n * y - q) (down_pos e) n p (down-quarter n y q q-le) (down-less n y q q-pos q-le)))

-- ---- the laws, in any unit and with any delta that is small beside it
module _ (j : ℕ) (h : j ≤ finest) where
  add-tests : (delta : Float) → T (small j delta) → (k : ℤ) → nat_abs k ≤ sum_limit → Tests j k (add binary32 (of_k j k) delta)
  unfolding small
  add-tests nan t k p = absurd t
  add-tests (Ieee.inf s) t k p = absurd t
  add-tests (Ieee.fin true m e) t k p = absurd t
  add-tests (Ieee.fin false m e) t k p = tests j h m e t k p

  inf-add : (delta : Float) → T (small j delta) → add binary32 (Ieee.inf false) delta ≡ Ieee.inf false
  unfolding small add
  inf-add nan t = absurd t
  inf-add (Ieee.inf s) t = absurd t
  inf-add (Ieee.fin s m e) t = refl

  module _ (delta : Float) (t : T (small j delta)) where
    pub near-of_k : (i k : ℤ) → nat_abs i ≤ sum_limit → nat_abs k ≤ sum_limit → le (of_k j i) (add binary32 (of_k j k) delta) ≡ le_z i k
    near-of_k i k p q = (add-tests delta t k q).at i p

    pub near-of_t : (v w : Tropical) → Within sum_limit v → Within sum_limit w → le (of_t j v) (add binary32 (of_t j w) delta) ≡ le_t v w
    near-of_t (fin i) (fin k) p q = near-of_k i k p q
    near-of_t (fin i) inf p q = ap (λ (x : Float). le (of_k j i) x) (inf-add delta t) ∙ under-inf (of_k j i) (negative i) (nat_abs i) (2 ^ j) (of_k-value j h i p)
    near-of_t inf (fin k) p q = (add-tests delta t k q).over
    near-of_t inf inf p q = ap (λ (x : Float). le (Ieee.inf false) x) (inf-add delta t) ∙ unfold le in refl

    pub approx-of_t : (v w : Tropical) → Within sum_limit v → Within sum_limit w → approx_equal (of_t j v) (of_t j w) delta ≡ eq_t v w
    unfolding approx_equal
    approx-of_t v w p q = λ i. near-of_t v w p q i && near-of_t w v q p i

pub approx : (a b delta : Float) → Approx a b delta (approx_equal a b delta)
approx a b delta = record { same = refl; exact = λ j h t v w p q e f. (λ i. approx_equal (e i) (f i) delta) ∙ approx-of_t j h delta t v w p q }

-- ---- the Rust's `natural_less`, whose `==` is equality within KDELTA, is `<` on the grid
pub natural-less-of_t : (j : ℕ) → j ≤ finest → (v w : Tropical) → Within sum_limit v → Within sum_limit w
    → approx_equal (lesser (of_t j v) (of_t j w)) (of_t j v) (of_bits binary32 981467136) && not (approx_equal (of_t j v) (of_t j w) (of_bits binary32 981467136))
    ≡ lt (of_t j v) (of_t j w)
natural-less-of_t j h v w p q =
    let kdelta = of_bits binary32 981467136 in
    let t = delta-small j h in
    ap (λ (x : Float). approx_equal x (of_t j v) kdelta && not (approx_equal (of_t j v) (of_t j w) kdelta)) (lesser-of_t j h v w p q)
    ∙ (λ i. approx-of_t j h kdelta t (v ⊕ w) v (within-⊕ sum_limit v w p q) p i && not (approx-of_t j h kdelta t v w p q i))
    ∙ natural-lt_t v w ∙ sym (lt-of_t j h v w p q)

-- ---- the Rust's test of an offer w to a node at v, that v and the lesser of the two are not equal within KSHORTESTDELTA, is `<` on the grid
pub offer-improves-of_t : (j : ℕ) → j ≤ finest → (v w : Tropical) → Within sum_limit v → Within sum_limit w
    → not (approx_equal (of_t j v) (lesser (of_t j v) (of_t j w)) (of_bits binary32 897988541)) ≡ lt (of_t j w) (of_t j v)
offer-improves-of_t j h v w p q =
    let delta = of_bits binary32 897988541 in
    ap (λ (x : Float). not (approx_equal (of_t j v) x delta)) (lesser-of_t j h v w p q)
    ∙ ap not (approx-of_t j h delta (shortest-delta-small j h) v (v ⊕ w) p (within-⊕ sum_limit v w p q))
    ∙ improve-lt_t v w ∙ sym (lt-of_t j h w v q p)
