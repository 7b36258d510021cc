-- What the grid test means: it is true of the values of whole numbers of units within the limit, and of nothing else. In any unit. Assumes nothing.
use Rattle.std.proofs.Common.{◌≡◌, ℕ, zero, suc, ◌+◌, ◌*◌, ◌/◌, ◌%◌, ◌^◌, ◌<◌, ◌≤◌, Bool, true, false, cond, not, ◌&&◌, T, eqb, leb, ◌↔◌, ℤ, pos, negsuc, neg_ℤ, nat_abs, sym, refl, ap, ◌∙◌, subst, le_trans, add-zero, lt_irrefl, zero-lt-suc, mul_assoc, mul_comm, add-mul, mul-pos, one-mul, div-add-mod', zero-mul, mul-one, mul_right_comm, arith, le→leb, eqb→eq, leb→le, pow_pos}
use mathlib.Core.Bool.{false≢true}
use lib.Dec.{eqb-suc-zero}
use lib.Ieee.{Float, nan, inf, fin, binary32, up, down, fits, is_nan, of_bits, to_bits}
use lib.Ieee.Bits.{is_true, to_bits-of_bits, of_bits-fits}
use lib.Ieee.Exact.{HasValue}
use lib.Ieee.Fits.{down_pos, up_pos, and_i, and_l, and_r, eq→eqb}
use lib.Ieee.Nearest.{div_same}
use Rattle.tropical_weight.specs.Limits.{finest, sum_limit}
use Rattle.tropical_weight.specs.Tropical as Tropical
use Rattle.tropical_weight.specs.Grid.{of_k, units_of, is_whole, on_grid, grid_bits}
use Rattle.tropical_weight.proofs.Values.{same-eqb, value-unique}
use Rattle.tropical_weight.proofs.Exact.{negative, of_k-value, of_k-fits, of_t-no-nan, bits_back}

-- ---- equal fractions X / d and Y / c leave remainders that are 0 together
same_rest : (X d Y c : ℕ) → 0 < d → 0 < c → X * c ≡ Y * d → eqb (X % d) 0 ≡ eqb (Y % c) 0
same_rest X d Y c D C e =
    same-eqb (X % d) 0 d (Y % c) 0 c D C (rest (div_same X d Y c D C e)) (zero-mul c ∙ sym (zero-mul d))
  where
    whole : (X d c : ℕ) → X / d * d * c + X % d * c ≡ X * c
    whole X d c = sym (add-mul (X / d * d) (X % d) c) ∙ ap (λ (x : ℕ). x * c) (div-add-mod' X d)

    rest : X / d ≡ Y / c → X % d * c ≡ Y % c * d
    rest q =
        let p : X / d * d * c ≡ Y / c * c * d = ap (λ (x : ℕ). x * d * c) q ∙ mul_right_comm (Y / c) d c in
        omega (arith, whole X d c, whole Y c d)

-- ---- the test, and the number of units, of a value of a / c units
module _ (j c : ℕ) (c_pos : 0 < c) (s : Bool) (a : ℕ) where
  numerators : (x d : ℕ) → x * (c * 2 ^ j) ≡ a * d → x * 2 ^ j * c ≡ a * d
  numerators x d p = mul_assoc x (2 ^ j) c ∙ ap (λ (y : ℕ). x * y) (mul_comm (2 ^ j) c) ∙ p

  pub is_whole-value : (x : Float) → HasValue x s a (c * 2 ^ j) → is_whole j x ≡ eqb (a % c) 0
  unfolding is_whole
  is_whole-value nan v = absurd v
  is_whole-value (inf t) v = absurd v
  is_whole-value (fin t m e) v = same_rest (m * up e * 2 ^ j) (down e) a c (down_pos e) c_pos (numerators (m * up e) (down e) v.1)

  -- whole is the same in both
  pub on_grid-value : (most : ℕ) (x : Float) → HasValue x s a (c * 2 ^ j) → on_grid j most x ≡ eqb (a % c) 0 && leb (a / c) most && not (s && eqb a 0)
  unfolding on_grid is_whole
  on_grid-value most nan v = absurd v
  on_grid-value most (inf t) v = absurd v
  on_grid-value most (fin t m e) v =
      let X = m * up e * 2 ^ j in
      let p = numerators (m * up e) (down e) v.1 in
      let z : eqb m 0 ≡ eqb a 0 =
      same-eqb m 0 1 (m * up e) 0 (up e) (zero-lt-suc 0) (up_pos e) (sym (mul-one (m * up e))) (zero-mul (up e))
      ∙ same-eqb (m * up e) 0 (down e) a 0 (c * 2 ^ j) (down_pos e) (mul-pos c_pos (pow_pos j)) v.1 (zero-mul (c * 2 ^ j) ∙ sym (zero-mul (down e))) in
      λ i. is_whole-value (fin t m e) v i && leb (div_same X (down e) a c (down_pos e) c_pos p i) most && not (v.0 i && z i)

  pub units_of-value : (x : Float) → HasValue x s a (c * 2 ^ j) → units_of j x ≡ cond s (neg_ℤ (pos (a / c))) (pos (a / c))
  unfolding units_of
  units_of-value nan v = absurd v
  units_of-value (inf t) v = absurd v
  units_of-value (fin t m e) v =
      let q = div_same (m * up e * 2 ^ j) (down e) a c (down_pos e) c_pos (numerators (m * up e) (down e) v.1) in
      λ i. cond (v.0 i) (neg_ℤ (pos (q i))) (pos (q i))

-- ---- a whole number of units within the limit passes
module _ (j : ℕ) (h : j ≤ finest) (k : ℤ) (p : nat_abs k ≤ sum_limit) where
  over-one : HasValue (of_k j k) (negative k) (nat_abs k) (1 * 2 ^ j)
  over-one = subst (λ (c : ℕ). HasValue (of_k j k) (negative k) (nat_abs k) c) (sym (one-mul (2 ^ j))) (of_k-value j h k p)

  pub on_grid-of_k : (most : ℕ) → nat_abs k ≤ most → on_grid j most (of_k j k) ≡ true
  on_grid-of_k most l = on_grid-value j 1 (zero-lt-suc 0) (negative k) (nat_abs k) most (of_k j k) over-one ∙ is_true (passes k) (pass k l)
    where
      passes : ℤ → Bool
      passes k = eqb (nat_abs k % 1) 0 && leb (nat_abs k / 1) most && not (negative k && eqb (nat_abs k) 0)

      within : (n : ℕ) → n ≤ most → T (eqb (n % 1) 0 && leb (n / 1) most)
      within n l = and_i (eqb (n % 1) 0) (leb (n / 1) most) (eq→eqb {a = n % 1} {b = 0} (omega arith)) (le→leb (n / 1) most (omega arith))

      pass : (k : ℤ) → nat_abs k ≤ most → T (passes k)
      pass (pos n) l = and_i (eqb (n % 1) 0 && leb (n / 1) most) true (within n l) tt
      pass (negsuc n) l = and_i (eqb (suc n % 1) 0 && leb (suc n / 1) most) (not (eqb (suc n) 0)) (within (suc n) l) (subst (λ (t : Bool). T (not t)) (sym (eqb-suc-zero n)) tt)

  pub units_of-of_k : units_of j (of_k j k) ≡ k
  units_of-of_k = units_of-value j 1 (zero-lt-suc 0) (negative k) (nat_abs k) (of_k j k) over-one ∙ back k
    where
      back : (k : ℤ) → cond (negative k) (neg_ℤ (pos (nat_abs k / 1))) (pos (nat_abs k / 1)) ≡ k
      back (pos n) = ap pos (let e : n / 1 ≡ n = omega arith in e)
      back (negsuc n) = ap (λ (x : ℕ). neg_ℤ (pos x)) (let e : suc n / 1 ≡ suc n = omega arith in e)

-- ---- what passes is one
pub record Whole (j most : ℕ) (x : Float) : Type 0 where
  pub is : x ≡ of_k j (units_of j x)
  pub few : nat_abs (units_of j x) ≤ most

module _ (j : ℕ) (h : j ≤ finest) (most : ℕ) (l : most ≤ sum_limit) where
  -- a value of q units, with either sign
  signed : (s : Bool) (m : ℕ) (e : ℤ) (q : ℕ) → T (fits binary32 (fin s m e)) → m * up e * 2 ^ j ≡ q * down e → q ≤ most → T (not (s && eqb m 0))
      → (fin s m e ≡ of_k j (cond s (neg_ℤ (pos q)) (pos q))) × (nat_abs (cond s (neg_ℤ (pos q)) (pos q)) ≤ most)
  signed false m e q f v b n = (value-unique (fin false m e) (of_k j (pos q)) false q (2 ^ j) (pow_pos j) f (of_k-fits j (pos q)) (refl, v) (of_k-value j h (pos q) (le_trans b l)), b)
  signed true m e (suc q) f v b n = (value-unique (fin true m e) (of_k j (negsuc q)) true (suc q) (2 ^ j) (pow_pos j) f (of_k-fits j (negsuc q)) (refl, v) (of_k-value j h (negsuc q) (le_trans b l)), b)
  signed true zero e zero f v b n = absurd n
  signed true (suc m) e zero f v b n =
      absurd (lt_irrefl 0 (subst (λ (x : ℕ). 0 < x) (v ∙ zero-mul (down e)) (mul-pos (mul-pos (zero-lt-suc m) (up_pos e)) (pow_pos j))))

  pub on_grid-whole : (x : Float) → T (fits binary32 x) → on_grid j most x ≡ true → Whole j most x
  unfolding on_grid units_of
  on_grid-whole nan f t = absurd (false≢true t)
  on_grid-whole (inf s) f t = absurd (false≢true t)
  on_grid-whole (fin s m e) f t =
      let X = m * up e * 2 ^ j in
      let q = X / down e in
      let t₀ = subst T (sym t) tt in
      let t₁ = and_l (eqb (X % down e) 0 && leb q most) (not (s && eqb m 0)) t₀ in
      let rest : X % down e ≡ 0 = eqb→eq (X % down e) 0 (and_l (eqb (X % down e) 0) (leb q most) t₁) in
      let exact : X ≡ q * down e = sym (div-add-mod' X (down e)) ∙ ap (λ (y : ℕ). q * down e + y) rest ∙ add-zero (q * down e) in
      let r = signed s m e q f exact (leb→le q most (and_r (eqb (X % down e) 0) (leb q most) t₁)) (and_r (eqb (X % down e) 0 && leb q most) (not (s && eqb m 0)) t₀) in
      record { is = r.0; few = r.1 }

  -- ---- of bit patterns: true exactly for the patterns of the k units with |k| within the limit
  abbrev pub Pattern : ℕ → Type 0
  Pattern bits = (k : ℤ) × (nat_abs k ≤ most) × (to_bits binary32 (of_k j k) ≡ bits)

  pub grid_bits-means : (bits : ℕ) → bits < 2 ^ 32 → grid_bits j most bits ≡ true ↔ Pattern bits
  unfolding grid_bits
  grid_bits-means bits r = (fore, back)
    where
      fore : on_grid j most (of_bits binary32 bits) ≡ true → Pattern bits
      fore t =
          let w = on_grid-whole (of_bits binary32 bits) (of_bits-fits binary32 bits) t in
          let k = units_of j (of_bits binary32 bits) in
          let no_nan : is_nan (of_bits binary32 bits) ≡ false = ap is_nan w.is ∙ of_t-no-nan j h (Tropical.fin k) (le_trans w.few l) in
          (k, w.few, ap (to_bits binary32) (sym w.is) ∙ to_bits-of_bits binary32 bits r (subst (λ (t : Bool). T (not t)) (sym no_nan) tt))

      back : Pattern bits → on_grid j most (of_bits binary32 bits) ≡ true
      back o = ap (λ (x : Float). on_grid j most x) (ap (of_bits binary32) (sym o.2) ∙ bits_back j h (Tropical.fin o.0)) ∙ on_grid-of_k j h o.0 (le_trans o.1 l) most o.1
