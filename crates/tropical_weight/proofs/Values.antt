-- Sums and comparisons of finite values of single precision, by the fractions that they equal, over any common denominator; and a value that
-- fits is known by its fraction. Assumes nothing.
use Rattle.std.proofs.Common.{◌≡◌, ℕ, zero, suc, ◌+◌, ◌-◌, ◌*◌, ◌%◌, ◌^◌, ◌<◌, Bool, true, false, ◌&&◌, ◌||◌, T, eqb, ltb, leb, ℤ, pos, negsuc, sym, refl, ap, ◌∙◌, subst, lt_irrefl, zero-lt-suc, mul_assoc, mul_comm, add-mul, lt_of_mul-lt-mul_right, mul-lt-mul_of_pos_right, mul-pos, one-mul, pow-suc, zero-mul, mul-one, mul_right_comm, arith, eqb→eq, ltb→lt, lt→ltb, pow_pos, pow-add}
use mathlib.Core.Bool.{beq}
use native.Mathlib.Nat.{mul-sub, eq_of_mul-eq-mul_right}
use lib.Ieee.{Float, nan, inf, fin, binary32, prec, emax, low, up, down, sum, add, below, level, lt, eq, le, fits}
use lib.Ieee.Exact.{HasValue}
use lib.Ieee.Fits.{down_pos, and_l, eq→eqb}
use lib.Ieee.Scale.{round_same}

-- two tests that imply each other are the same
pub same_test : (x y : Bool) → (T x → T y) → (T y → T x) → x ≡ y
same_test true true p q = refl
same_test true false p q = absurd (p tt)
same_test false true p q = absurd (q tt)
same_test false false p q = refl

-- ---- fractions A / C = a / c and B / C = b / c
module _ (A B C a b c : ℕ) (C-pos : 0 < C) (c_pos : 0 < c) (p : A * c ≡ a * C) (q : B * c ≡ b * C) where
  pub same-ltb : ltb A B ≡ ltb a b
  same-ltb =
      same_test (ltb A B) (ltb a b)
      (λ t. lt→ltb a b (lt_of_mul-lt-mul_right C (rw (← p, ← q) (mul-lt-mul_of_pos_right (ltb→lt A B t) c_pos))))
      (λ t. lt→ltb A B (lt_of_mul-lt-mul_right c (rw (p, q) (mul-lt-mul_of_pos_right (ltb→lt a b t) C-pos))))

  pub same-eqb : eqb A B ≡ eqb a b
  same-eqb =
      same_test (eqb A B) (eqb a b)
      (λ t. eq→eqb (eq_of_mul-eq-mul_right C C-pos a b (sym p ∙ ap (λ (x : ℕ). x * c) (eqb→eq A B t) ∙ q)))
      (λ t. eq→eqb (eq_of_mul-eq-mul_right c c_pos A B (p ∙ ap (λ (x : ℕ). x * C) (eqb→eq a b t) ∙ sym q)))

  pub same_sum : (A + B) * c ≡ (a + b) * C
  same_sum = add-mul A B c ∙ ap (λ (x : ℕ). x + B * c) p ∙ ap (λ (x : ℕ). a * C + x) q ∙ sym (add-mul a b C)

  pub same-diff : (A - B) * c ≡ (a - b) * C
  same-diff = right A B c ∙ ap (λ (x : ℕ). x - B * c) p ∙ ap (λ (x : ℕ). a * C - x) q ∙ sym (right a b C)
    where
      right : (m n k : ℕ) → (m - n) * k ≡ m * k - n * k
      right m n k = mul_comm (m - n) k ∙ mul-sub k m n ∙ simp mul_comm

sum_same : (s t : Bool) (A B C a b c : ℕ) → 0 < C → 0 < c → A * c ≡ a * C → B * c ≡ b * C → sum binary32 s A t B C ≡ sum binary32 s a t b c
unfolding sum
sum_same s t A B C a b c C-pos c_pos p q =
    simp (
      same-ltb A B C a b c C-pos c_pos p q,
      same-ltb B A C b a c C-pos c_pos q p,
      round_same binary32 s (A + B) C (a + b) c C-pos c_pos (same_sum A B C a b c C-pos c_pos p q),
      round_same binary32 t (B - A) C (b - a) c C-pos c_pos (same-diff B A C b a c C-pos c_pos q p),
      round_same binary32 (s && ltb b a) (A - B) C (a - b) c C-pos c_pos (same-diff A B C a b c C-pos c_pos p q),
    )

below-same : (s t : Bool) (A B C a b c : ℕ) → 0 < C → 0 < c → A * c ≡ a * C → B * c ≡ b * C → below s A t B ≡ below s a t b
below-same false false A B C a b c C-pos c_pos p q = same-ltb A B C a b c C-pos c_pos p q
below-same false true A B C a b c C-pos c_pos p q = refl
below-same true false A B C a b c C-pos c_pos p q =
    same-ltb 0 (A + B) C 0 (a + b) c C-pos c_pos (zero-mul c ∙ sym (zero-mul C)) (same_sum A B C a b c C-pos c_pos p q)
below-same true true A B C a b c C-pos c_pos p q = same-ltb B A C b a c C-pos c_pos q p

level-same : (s t : Bool) (A B C a b c : ℕ) → 0 < C → 0 < c → A * c ≡ a * C → B * c ≡ b * C → level s A t B ≡ level s a t b
level-same s t A B C a b c C-pos c_pos p q =
    ap (λ (x : Bool). x && (beq s t || eqb A 0)) (same-eqb A B C a b c C-pos c_pos p q)
    ∙ ap (λ (x : Bool). eqb a b && (beq s t || x)) (same-eqb A 0 C a 0 c C-pos c_pos p (zero-mul c ∙ sym (zero-mul C)))

-- ---- two finite values over one denominator
-- the numerators that the operations make, over the product of the two denominators
cross : (x de a dd c : ℕ) → x * c ≡ a * de → x * dd * c ≡ a * (de * dd)
cross x de a dd c p = mul_right_comm x dd c ∙ ap (λ (z : ℕ). z * dd) p ∙ mul_assoc a de dd

cross' : (y dd b de c : ℕ) → y * c ≡ b * dd → y * de * c ≡ b * (de * dd)
cross' y dd b de c p = cross y dd b de c p ∙ ap (λ (z : ℕ). b * z) (mul_comm dd de)

module _ (c : ℕ) (c_pos : 0 < c) (s t : Bool) (a b : ℕ) where
  pub add-values : (x y : Float) → HasValue x s a c → HasValue y t b c → add binary32 x y ≡ sum binary32 s a t b c
  unfolding add
  add-values nan y p q = absurd p
  add-values (inf u) y p q = absurd p
  add-values (fin u m e) nan p q = absurd q
  add-values (fin u m e) (inf v) p q = absurd q
  add-values (fin u m e) (fin v n d) p q =
      (λ i. sum binary32 (p.0 i) (m * up e * down d) (q.0 i) (n * up d * down e) (down e * down d))
      ∙ sum_same s t (m * up e * down d) (n * up d * down e) (down e * down d) a b c (mul-pos (down_pos e) (down_pos d)) c_pos
      (cross (m * up e) (down e) a (down d) c p.1) (cross' (n * up d) (down d) b (down e) c q.1)

  pub lt-values : (x y : Float) → HasValue x s a c → HasValue y t b c → lt x y ≡ below s a t b
  unfolding lt
  lt-values nan y p q = absurd p
  lt-values (inf u) y p q = absurd p
  lt-values (fin u m e) nan p q = absurd q
  lt-values (fin u m e) (inf v) p q = absurd q
  lt-values (fin u m e) (fin v n d) p q =
      (λ i. below (p.0 i) (m * up e * down d) (q.0 i) (n * up d * down e))
      ∙ below-same s t (m * up e * down d) (n * up d * down e) (down e * down d) a b c (mul-pos (down_pos e) (down_pos d)) c_pos
      (cross (m * up e) (down e) a (down d) c p.1) (cross' (n * up d) (down d) b (down e) c q.1)

  pub eq-values : (x y : Float) → HasValue x s a c → HasValue y t b c → eq x y ≡ level s a t b
  unfolding eq
  eq-values nan y p q = absurd p
  eq-values (inf u) y p q = absurd p
  eq-values (fin u m e) nan p q = absurd q
  eq-values (fin u m e) (inf v) p q = absurd q
  eq-values (fin u m e) (fin v n d) p q =
      (λ i. level (p.0 i) (m * up e * down d) (q.0 i) (n * up d * down e))
      ∙ level-same s t (m * up e * down d) (n * up d * down e) (down e * down d) a b c (mul-pos (down_pos e) (down_pos d)) c_pos
      (cross (m * up e) (down e) a (down d) c p.1) (cross' (n * up d) (down d) b (down e) c q.1)

  pub le-values : (x y : Float) → HasValue x s a c → HasValue y t b c → le x y ≡ below s a t b || level s a t b
  unfolding le
  le-values x y p q = λ i. lt-values x y p q i || eq-values x y p q i

-- ---- a value over another denominator
pub rescale : (x : Float) (s : Bool) (a c b d : ℕ) → 0 < c → b * c ≡ a * d → HasValue x s a c → HasValue x s b d
rescale nan s a c b d h p v = v
rescale (inf t) s a c b d h p v = v
rescale (fin t m e) s a c b d h p v = (
  v.0,
  eq_of_mul-eq-mul_right c h (m * up e * d) (b * down e)
      (mul_right_comm (m * up e) d c ∙ ap (λ (x : ℕ). x * d) v.1 ∙ mul_right_comm a (down e) d ∙ ap (λ (x : ℕ). x * down e) (sym p) ∙ mul_right_comm b c (down e)),
)

-- ---- a value that fits is known by its fraction
-- an odd number is no double
odd_even : (m n : ℕ) → m % 2 ≡ 1 → m ≡ n * 2 → ⊥
odd_even m n o h = omega arith

odd_pow : (a b m n : ℕ) → m % 2 ≡ 1 → n % 2 ≡ 1 → m * 2 ^ a ≡ n * 2 ^ b → (m ≡ n) × (a ≡ b)
odd_pow zero zero m n o p h = (sym (mul-one m) ∙ h ∙ mul-one n, refl)
odd_pow zero (suc b) m n o p h = absurd (odd_even m (n * 2 ^ b) o (sym (mul-one m) ∙ h ∙ ap (λ (x : ℕ). n * x) (pow-suc 2 b) ∙ sym (mul_assoc n (2 ^ b) 2)))
odd_pow (suc a) zero m n o p h = absurd (odd_even n (m * 2 ^ a) p (sym (mul-one n) ∙ sym h ∙ ap (λ (x : ℕ). m * x) (pow-suc 2 a) ∙ sym (mul_assoc m (2 ^ a) 2)))
odd_pow (suc a) (suc b) m n o p h =
    let r = odd_pow a b m n o p (eq_of_mul-eq-mul_right 2 (zero-lt-suc 1) (m * 2 ^ a) (n * 2 ^ b)
    (mul_assoc m (2 ^ a) 2 ∙ ap (λ (x : ℕ). m * x) (sym (pow-suc 2 a)) ∙ h ∙ ap (λ (x : ℕ). n * x) (pow-suc 2 b) ∙ sym (mul_assoc n (2 ^ b) 2))) in
    (r.0, ap suc r.1)

-- 2 ^ e / 2 ^ g as powers of two: how far each is above the lesser
abbrev over : ℤ → ℤ → ℕ
over (pos a) (pos b) = a
over (pos a) (negsuc b) = a + suc b
over (negsuc a) (pos b) = 0
over (negsuc a) (negsuc b) = suc b

over-is : (e g : ℤ) → up e * down g ≡ 2 ^ over e g
over-is (pos a) (pos b) = mul-one (2 ^ a)
over-is (pos a) (negsuc b) = sym (pow-add 2 a (suc b))
over-is (negsuc a) (pos b) = refl
over-is (negsuc a) (negsuc b) = one-mul (2 ^ suc b)

over-same : (e g : ℤ) → over e g ≡ over g e → e ≡ g
over-same (pos a) (pos b) h = ap pos h
over-same (pos a) (negsuc b) h = absurd (omega arith)
over-same (negsuc a) (pos b) h = absurd (omega arith)
over-same (negsuc a) (negsuc b) h = ap negsuc (let k : a ≡ b = omega arith in k)

-- of a value that fits: m is odd, or m and the exponent are 0
is_odd : (s : Bool) (m : ℕ) (e : ℤ) → T (fits binary32 (fin s (suc m) e)) → suc m % 2 ≡ 1
unfolding fits
is_odd s m e t =
    let f = binary32 in
    eqb→eq (suc m % 2) 1
    (and_l (eqb (suc m % 2) 1) (ltb (suc m) (2 ^ prec f))
    (and_l (eqb (suc m % 2) 1 && ltb (suc m) (2 ^ prec f)) (leb (down e) (2 ^ low f))
    (and_l (eqb (suc m % 2) 1 && ltb (suc m) (2 ^ prec f) && leb (down e) (2 ^ low f)) (ltb (suc m * up e) (2 ^ suc (emax f) * down e)) t)))

at_zero : (s : Bool) (e : ℤ) → T (fits binary32 (fin s zero e)) → e ≡ pos 0
unfolding fits
at_zero s (pos zero) t = refl
at_zero s (pos (suc k)) t = absurd (twice (2 ^ k) (sym (pow-suc 2 k) ∙ sym (mul-one (2 ^ suc k)) ∙ eqb→eq (2 ^ suc k * 1) 1 t))
  where
    twice : (x : ℕ) → x * 2 ≡ 1 → ⊥
    twice x h = omega arith
at_zero s (negsuc k) t = absurd (twice (2 ^ k) (sym (pow-suc 2 k) ∙ sym (one-mul (2 ^ suc k)) ∙ eqb→eq (1 * 2 ^ suc k) 1 t))
  where
    twice : (x : ℕ) → x * 2 ≡ 1 → ⊥
    twice x h = omega arith

-- the two numbers, over the product of the denominators
meet : (m n : ℕ) (e g : ℤ) (a c : ℕ) → 0 < c → m * up e * c ≡ a * down e → n * up g * c ≡ a * down g → m * 2 ^ over e g ≡ n * 2 ^ over g e
meet m n e g a c h p q =
    ap (λ (x : ℕ). m * x) (sym (over-is e g)) ∙ sym (mul_assoc m (up e) (down g))
    ∙ eq_of_mul-eq-mul_right c h (m * up e * down g) (n * up g * down e)
    (cross (m * up e) (down e) a (down g) c p ∙ sym (cross' (n * up g) (down g) a (down e) c q))
    ∙ mul_assoc n (up g) (down e) ∙ ap (λ (x : ℕ). n * x) (over-is g e)

nothing : (m x : ℕ) → 0 < x → zero ≡ suc m * x → ⊥
nothing m x h e = lt_irrefl 0 (subst (λ (y : ℕ). 0 < y) (sym e) (mul-pos (zero-lt-suc m) h))

pub value-unique : (x y : Float) (s : Bool) (a c : ℕ) → 0 < c → T (fits binary32 x) → T (fits binary32 y) → HasValue x s a c → HasValue y s a c → x ≡ y
value-unique nan y s a c h p q v w = elim v [ ]
value-unique (inf _) y s a c h p q v w = elim v [ ]
value-unique (fin t zero e) nan s a c h p q v w = elim w [ ]
value-unique (fin t zero e) (inf _) s a c h p q v w = elim w [ ]
value-unique (fin t (suc m) e) nan s a c h p q v w = elim w [ ]
value-unique (fin t (suc m) e) (inf _) s a c h p q v w = elim w [ ]
value-unique (fin t zero e) (fin u zero g) s a c h p q v w = λ i. fin ((v.0 ∙ sym w.0) i) zero ((at_zero t e p ∙ sym (at_zero u g q)) i)
value-unique (fin t zero e) (fin u (suc n) g) s a c h p q v w =
    absurd (nothing n (2 ^ over g e) (pow_pos (over g e)) (sym (zero-mul (2 ^ over e g)) ∙ meet zero (suc n) e g a c h v.1 w.1))
value-unique (fin t (suc m) e) (fin u zero g) s a c h p q v w =
    absurd (nothing m (2 ^ over e g) (pow_pos (over e g)) (sym (zero-mul (2 ^ over g e)) ∙ meet zero (suc m) g e a c h w.1 v.1))
value-unique (fin t (suc m) e) (fin u (suc n) g) s a c h p q v w =
    let r = odd_pow (over e g) (over g e) (suc m) (suc n) (is_odd t m e p) (is_odd u n g q) (meet (suc m) (suc n) e g a c h v.1 w.1) in
    λ i. fin ((v.0 ∙ sym w.0) i) (r.0 i) (over-same e g r.1 i)
