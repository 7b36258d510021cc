-- The grid test of a bit pattern, and whether it is whole, by its fields: the sign, the exponent's field and the significand. In any unit. Assumes nothing.
use Rattle.std.proofs.Common.{◌≡◌, ℕ, zero, suc, ◌+◌, ◌-◌, ◌*◌, ◌/◌, ◌%◌, ◌^◌, ◌<◌, ◌≤◌, min, Bool, true, false, cond, not, ◌&&◌, T, eqb, ltb, leb, ◌⊎◌, sym, refl, ap, ◌∙◌, subst, inl, inr, le_trans, lt_of_lt_of_le, lt_of_le_of_lt, le_of_lt, mul-le-mul_right, mod-eq_of_lt, zero-lt-suc, mul_assoc, mul-le-mul_left, one-mul, div-add-mod', div-mul-le_self, arith, lit≤, eqb→eq, ltb→lt, leb→le, nltb→le, pow_pos, pow_mono, pow-add, eq-eqb, ne_eqb, eqb-true}
use native.Mathlib.Nat.{div-eq_of_lt, min-eq_left, min-eq_right, min-le_left}
use lib.Dec.{eqb-suc-zero}
use lib.Ieee.{nan, inf, binary32, odd, of_fields, of_bits}
use lib.Ieee.Exact.{HasValue, odd_sign}
use lib.Ieee.Fits.{eq→eqb, and_l, and_r}
use borrow.Author.Tests.{lt-leb, eqb-false}
use Rattle.tropical_weight.specs.Limits.{finest}
use Rattle.tropical_weight.specs.Grid.{is_whole, on_grid, grid_bits, grid_shift, significand, exponent_field, Tells}
use Rattle.tropical_weight.proofs.Values.{same_test, rescale}
use Rattle.tropical_weight.proofs.Grid.{is_whole-value, on_grid-value}

-- ---- the significand
significand-suc : (x t : ℕ) → significand (suc x) t ≡ 2 ^ 23 + t
unfolding significand
significand-suc x t = ap (λ (b : Bool). cond b t (2 ^ 23 + t)) (eqb-suc-zero x)

pub significand-low : (e t : ℕ) → t < 2 ^ 23 → significand e t < 2 ^ 24
unfolding significand
significand-low zero t h = omega arith
significand-low (suc x) t h = let e = significand-suc x t in omega arith

-- ---- the value of a pattern whose exponent's field is not all ones
pred-suc : (x : ℕ) → suc x - 1 ≡ x
pred-suc x = omega arith

fields_value : (s : Bool) (t e : ℕ) → e < 255 → HasValue (of_fields binary32 s e t) s (significand e t * 2 ^ (e - 1)) (2 ^ 149)
unfolding of_fields significand
fields_value s t zero l = odd_sign 24 s t 0 149
fields_value s t (suc x) l =
    let other : eqb (suc x) 255 ≡ false = ne_eqb (suc x) 255 (λ e. omega arith) in
    subst (λ (b : Bool). HasValue (cond b (cond (eqb t 0) (inf s) nan) (odd 24 s (2 ^ 23 + t) x 149)) s (significand (suc x) t * 2 ^ (suc x - 1)) (2 ^ 149)) (sym other)
    (subst (λ (q : ℕ). HasValue (odd 24 s (2 ^ 23 + t) x 149) s (q * 2 ^ (suc x - 1)) (2 ^ 149)) (sym (significand-suc x t))
    (subst (λ (y : ℕ). HasValue (odd 24 s (2 ^ 23 + t) x 149) s ((2 ^ 23 + t) * 2 ^ y) (2 ^ 149)) (sym (pred-suc x)) (odd_sign 24 s (2 ^ 23 + t) x 149)))

fields-full : (s : Bool) (t j most : ℕ) → on_grid j most (of_fields binary32 s 255 t) ≡ false
unfolding of_fields on_grid
fields-full s t j most = go (eqb t 0)
  where
    go : (b : Bool) → on_grid j most (cond b (inf s) nan) ≡ false
    go true = refl
    go false = refl

-- ---- digits below the unit: from 24 on, more of them change nothing
module _ (q : ℕ) (q-lt : q < 2 ^ 24) (y : ℕ) where
  cut : (y ≤ 24) ⊎ (24 < y) → (eqb (q % 2 ^ y) 0 ≡ eqb (q % 2 ^ min 24 y) 0) × (q / 2 ^ y ≡ q / 2 ^ min 24 y)
  cut (inl h) = let e : y ≡ min 24 y = sym (min-eq_right h) in (ap (λ (x : ℕ). eqb (q % 2 ^ x) 0) e, ap (λ (x : ℕ). q / 2 ^ x) e)
  cut (inr h) =
      let e : 24 ≡ min 24 y = sym (min-eq_left (le_of_lt h)) in
      let l : q < 2 ^ y = lt_of_lt_of_le q-lt (pow_mono (le_of_lt h)) in (
        ap (λ (x : ℕ). eqb x 0) (mod-eq_of_lt l ∙ sym (mod-eq_of_lt q-lt)) ∙ ap (λ (x : ℕ). eqb (q % 2 ^ x) 0) e,
        div-eq_of_lt l ∙ sym (div-eq_of_lt q-lt) ∙ ap (λ (x : ℕ). q / 2 ^ x) e,
      )

split-le : (a b : ℕ) → (a ≤ b) ⊎ (b < a)
split-le a b = go (ltb b a) (ltb→lt b a) (nltb→le b a)
  where
    go : (t : Bool) → (T t → b < a) → (T (not t) → a ≤ b) → (a ≤ b) ⊎ (b < a)
    go true h k = inr (h tt)
    go false h k = inl (k tt)

module _ (j : ℕ) (h : j ≤ finest) (s : Bool) (t : ℕ) (t-lt : t < 2 ^ 23) where
  -- ---- below 2 ^ 24 units: `below` digits lie below the unit
  module _ (e : ℕ) (l : e ≤ 150 - j) where
    abbrev below : ℕ
    below = 149 - (e - 1) - j

    low_value : HasValue (of_fields binary32 s e t) s (significand e t) (2 ^ below * 2 ^ j)
    low_value =
        let q = significand e t in
        rescale (of_fields binary32 s e t) s (q * 2 ^ (e - 1)) (2 ^ 149) q (2 ^ below * 2 ^ j) (pow_pos 149) (scaled q) (fields_value s t e (let z : e < 255 = omega arith in z))
      where
        parts : 149 ≡ e - 1 + (below + j)
        parts = omega arith

        scaled : (q : ℕ) → q * 2 ^ 149 ≡ q * 2 ^ (e - 1) * (2 ^ below * 2 ^ j)
        scaled q =
            ap (λ (x : ℕ). q * 2 ^ x) parts
            ∙ ap (λ (x : ℕ). q * x) (pow-add 2 (e - 1) (below + j) ∙ ap (λ (x : ℕ). 2 ^ (e - 1) * x) (pow-add 2 below j))
            ∙ sym (mul_assoc q (2 ^ (e - 1)) (2 ^ below * 2 ^ j))

    -- held to 24 they are the shift
    held : min 24 below ≡ grid_shift j e
    unfolding grid_shift
    held = go e l
      where
        go : (e : ℕ) → e ≤ 150 - j → min 24 (149 - (e - 1) - j) ≡ min 24 (150 - j - e)
        go zero l = min-eq_left (omega arith) ∙ sym (min-eq_left (omega arith))
        go (suc x) l = ap (min 24) (let z : 149 - (suc x - 1) - j ≡ 150 - j - suc x = omega arith in z)

    by-shift : (eqb (significand e t % 2 ^ below) 0 ≡ eqb (significand e t % 2 ^ grid_shift j e) 0)
        × (significand e t / 2 ^ below ≡ significand e t / 2 ^ grid_shift j e)
    by-shift =
        let q = significand e t in
        let c = cut q (significand-low e t t-lt) below (split-le below 24) in
        (c.0 ∙ ap (λ (x : ℕ). eqb (q % 2 ^ x) 0) held, c.1 ∙ ap (λ (x : ℕ). q / 2 ^ x) held)

    fields-low : (most : ℕ) → on_grid j most (of_fields binary32 s e t)
        ≡ eqb (significand e t % 2 ^ grid_shift j e) 0 && leb (significand e t / 2 ^ grid_shift j e) most && not (s && eqb (significand e t) 0)
    fields-low most =
        on_grid-value j (2 ^ below) (pow_pos below) s (significand e t) most (of_fields binary32 s e t) low_value
        ∙ (λ i. by-shift.0 i && leb (by-shift.1 i) most && not (s && eqb (significand e t) 0))

    whole-low : is_whole j (of_fields binary32 s e t) ≡ eqb (significand e t % 2 ^ grid_shift j e) 0
    whole-low = is_whole-value j (2 ^ below) (pow_pos below) s (significand e t) (of_fields binary32 s e t) low_value ∙ by-shift.0

  -- ---- from there on there are 2 ^ 24 units or more, all of them whole, or the value is not finite
  module _ (e : ℕ) (l : 150 - j < e) where
    abbrev above : ℕ
    above = e - 1 + j - 149

    high_value : e < 255 → HasValue (of_fields binary32 s e t) s (significand e t * 2 ^ above) (1 * 2 ^ j)
    high_value f =
        let q = significand e t in
        rescale (of_fields binary32 s e t) s (q * 2 ^ (e - 1)) (2 ^ 149) (q * 2 ^ above) (1 * 2 ^ j) (pow_pos 149) (scaled q) (fields_value s t e f)
      where
        rest : above + 149 ≡ e - 1 + j
        rest = omega arith

        scaled : (q : ℕ) → q * 2 ^ above * 2 ^ 149 ≡ q * 2 ^ (e - 1) * (1 * 2 ^ j)
        scaled q =
            mul_assoc q (2 ^ above) (2 ^ 149) ∙ ap (λ (x : ℕ). q * x) (sym (pow-add 2 above 149) ∙ ap (λ (x : ℕ). 2 ^ x) rest ∙ pow-add 2 (e - 1) j)
            ∙ sym (mul_assoc q (2 ^ (e - 1)) (2 ^ j)) ∙ ap (λ (x : ℕ). q * 2 ^ (e - 1) * x) (sym (one-mul (2 ^ j)))

    whole-high : e < 255 → is_whole j (of_fields binary32 s e t) ≡ eqb (significand e t % 2 ^ grid_shift j e) 0
    unfolding grid_shift
    whole-high f =
        is_whole-value j 1 (zero-lt-suc 0) s (significand e t * 2 ^ above) (of_fields binary32 s e t) (high_value f)
        ∙ eq-eqb (significand e t * 2 ^ above % 1) 0 (none (significand e t * 2 ^ above))
        ∙ sym (ap (λ (x : ℕ). eqb (significand e t % 2 ^ min 24 x) 0) (let z : 150 - j - e ≡ 0 = omega arith in z) ∙ eq-eqb (significand e t % 1) 0 (none (significand e t)))
      where
        none : (x : ℕ) → x % 1 ≡ 0
        none x = omega arith

    fields-high : (most : ℕ) → most < 2 ^ 24 → e < 256 → on_grid j most (of_fields binary32 s e t) ≡ false
    fields-high most few r = go (eqb e 255) refl
      where
        large : (e : ℕ) → 150 - j < e → 2 ^ 23 ≤ significand e t
        large zero l = absurd (omega arith)
        large (suc x) l = let z = significand-suc x t in omega arith

        over : (x y : Bool) → x && false && y ≡ false
        over true y = refl
        over false y = refl

        go : (b : Bool) → eqb e 255 ≡ b → on_grid j most (of_fields binary32 s e t) ≡ false
        go true z = ap (λ (x : ℕ). on_grid j most (of_fields binary32 s x t)) (eqb-true e 255 z) ∙ fields-full s t j most
        go false z =
            let q = significand e t in
            let v = high_value (omega (arith, eqb-false e 255 z)) in
            let big : 2 ^ 23 * 2 ^ 1 ≤ q * 2 ^ above = le_trans (mul-le-mul_right (2 ^ 1) (large e l)) (mul-le-mul_left q (pow_mono (let some : 1 ≤ above = omega arith in some))) in
            on_grid-value j 1 (zero-lt-suc 0) s (q * 2 ^ above) most (of_fields binary32 s e t) v
            ∙ ap (λ (b : Bool). eqb (q * 2 ^ above % 1) 0 && b && not (s && eqb (q * 2 ^ above) 0)) (lt-leb (q * 2 ^ above / 1) most (omega arith))
            ∙ over (eqb (q * 2 ^ above % 1) 0) (not (s && eqb (q * 2 ^ above) 0))

-- ---- of a bit pattern, by the fields that the code takes
exponent-is : (bits : ℕ) → bits % 2 ^ 31 / 2 ^ 23 ≡ exponent_field bits
exponent-is bits = omega arith

negative-zero : (bits : ℕ) → bits < 2 ^ 32 → leb (2 ^ 31) bits && eqb (significand (exponent_field bits) (bits % 2 ^ 23)) 0 ≡ eqb bits (2 ^ 31)
negative-zero bits r =
    same_test (leb (2 ^ 31) bits && eqb q 0) (eqb bits (2 ^ 31))
    (λ u. eq→eqb {a = bits} {b = 2 ^ 31} (only e t refl refl (eqb→eq q 0 (and_r (leb (2 ^ 31) bits) (eqb q 0) u)) (leb→le (2 ^ 31) bits (and_l (leb (2 ^ 31) bits) (eqb q 0) u))))
    (λ u. subst (λ (b : ℕ). T (leb (2 ^ 31) b && eqb (significand (exponent_field b) (b % 2 ^ 23)) 0)) (sym (eqb→eq bits (2 ^ 31) u)) it)
  where
    e : ℕ
    e = exponent_field bits

    t : ℕ
    t = bits % 2 ^ 23

    q : ℕ
    q = significand e t

    it : T (leb (2 ^ 31) (2 ^ 31) && eqb (significand (exponent_field (2 ^ 31)) (2 ^ 31 % 2 ^ 23)) 0)
    it = unfold significand in tt

    only : (e t : ℕ) → exponent_field bits ≡ e → bits % 2 ^ 23 ≡ t → significand e t ≡ 0 → 2147483648 ≤ bits → bits ≡ 2147483648
    only zero t p q z l = let z' : t ≡ 0 = unfold significand in z in omega arith
    only (suc x) t p q z l = absurd (omega (arith, significand-suc x t))

module _ (j : ℕ) (h : j ≤ finest) (most : ℕ) (bits : ℕ) (r : bits < 2 ^ 32) where
  -- the fields that `of_bits` takes are those of the code
  by-fields : grid_bits j most bits ≡ on_grid j most (of_fields binary32 (leb (2 ^ 31) bits) (exponent_field bits) (bits % 2 ^ 23))
  unfolding grid_bits of_bits
  by-fields = ap (λ (e : ℕ). on_grid j most (of_fields binary32 (leb (2 ^ 31) bits) e (bits % 2 ^ 23))) (exponent-is bits)

  pub grid_bits-low : (digits shift : ℕ) → digits ≡ significand (exponent_field bits) (bits % 2 ^ 23) → shift ≡ grid_shift j (exponent_field bits) → exponent_field bits ≤ 150 - j
      → grid_bits j most bits ≡ eqb (digits % 2 ^ shift) 0 && leb (digits / 2 ^ shift) most && not (eqb bits (2 ^ 31))
  grid_bits-low digits shift p q l =
      let e = exponent_field bits in
      by-fields ∙ fields-low j h (leb (2 ^ 31) bits) (bits % 2 ^ 23) (omega arith) e l most
      ∙ (λ i. eqb (sym p i % 2 ^ sym q i) 0 && leb (sym p i / 2 ^ sym q i) most && not (negative-zero bits r i))

  pub grid_bits-high : most < 2 ^ 24 → 150 - j < exponent_field bits → grid_bits j most bits ≡ false
  grid_bits-high few l = by-fields ∙ fields-high j h (leb (2 ^ 31) bits) (bits % 2 ^ 23) (omega arith) (exponent_field bits) l most few (omega arith)

-- ---- the code's test that no digit lies below the unit: cut and put back, the digits are the same
module _ (digits shift : ℕ) (few : digits < 2 ^ 24) where
  put_back : digits / 2 ^ shift * 2 ^ shift % 2 ^ 32 ≡ digits / 2 ^ shift * 2 ^ shift
  put_back = mod-eq_of_lt (lt_of_le_of_lt (div-mul-le_self digits (2 ^ shift)) (lt_of_lt_of_le few (lit≤ tt)))

  pub rest-none : digits / 2 ^ shift * 2 ^ shift % 2 ^ 32 ≡ digits → eqb (digits % 2 ^ shift) 0 ≡ true
  rest-none e = eq-eqb (digits % 2 ^ shift) 0 (none (digits / 2 ^ shift * 2 ^ shift) (digits % 2 ^ shift) (div-add-mod' digits (2 ^ shift)) (sym put_back ∙ e))
    where
      none : (x y : ℕ) → x + y ≡ digits → x ≡ digits → y ≡ 0
      none x y p q = omega arith

  pub rest_some : (digits / 2 ^ shift * 2 ^ shift % 2 ^ 32 ≡ digits → ⊥) → eqb (digits % 2 ^ shift) 0 ≡ false
  rest_some n = ne_eqb (digits % 2 ^ shift) 0 (λ z. n (put_back ∙ all (digits / 2 ^ shift * 2 ^ shift) (digits % 2 ^ shift) (div-add-mod' digits (2 ^ shift)) z))
    where
      all : (x y : ℕ) → x + y ≡ digits → y ≡ 0 → x ≡ digits
      all x y p q = omega arith

pub grid_shift-le : (j e : ℕ) → grid_shift j e ≤ 24
unfolding grid_shift
grid_shift-le j e = min-le_left 24 (150 - j - e)

-- ---- the rule of the shift: of every finite value it tells whether it is whole
pub shift-tells : (j : ℕ) → j ≤ finest → Tells j (grid_shift j)
unfolding of_bits
shift-tells j h bits r f =
    ap (λ (e : ℕ). is_whole j (of_fields binary32 (leb (2 ^ 31) bits) e (bits % 2 ^ 23))) (exponent-is bits) ∙ go (split-le (exponent_field bits) (150 - j))
  where
    go : (exponent_field bits ≤ 150 - j) ⊎ (150 - j < exponent_field bits)
        → is_whole j (of_fields binary32 (leb (2 ^ 31) bits) (exponent_field bits) (bits % 2 ^ 23)) ≡ eqb (significand (exponent_field bits) (bits % 2 ^ 23) % 2 ^ grid_shift j (exponent_field bits)) 0
    go (inl l) = whole-low j h (leb (2 ^ 31) bits) (bits % 2 ^ 23) (omega arith) (exponent_field bits) l
    go (inr l) = whole-high j h (leb (2 ^ 31) bits) (bits % 2 ^ 23) (omega arith) (exponent_field bits) l f
