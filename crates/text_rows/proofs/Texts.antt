-- Reading what is written: numbers and weights read back, fields parted by tabs, rows ended by newlines. Assumes nothing.
use mathlib.Core.Path.{◌≡◌, refl, sym, ap, ◌∙◌, subst}
use mathlib.Core.Logic.{◌⊎◌, inl, inr}
use mathlib.Core.Bool.{Bool, true, false, not, ◌||◌, cond, false≢true}
use Rattle.std.proofs.Common.{Option, None, Some}
use mathlib.Core.List.{List, [], ◌∷◌, ◌++◌, flat_map, append_assoc, append-nil}
use Prim.Native.Nat.{ℕ, zero, suc, ◌+◌, ◌-◌, ◌*◌, ◌/◌, ◌%◌, ◌^◌, ◌≤◌, ◌<◌}
use native.Mathlib.Nat.{mul_assoc, pow-suc}
use native.Mathlib.Omega.{arith}
use lib.Dec.{ltb, leb, eqb}
use lib.IntN.{ℤ, pos, negsuc, neg_ℤ}
use lib.ListN.{length, length-append}
use borrow.Author.Tests.{ne_eqb, eqb-true, eqb-false, ltb-true, ltb-false, lt-ltb, le-leb}
use lib.Ieee.{binary32, of_bits}
use Rattle.tropical_weight.specs.Limits.{unit}
use Rattle.tropical_weight.specs.Grid as Grid
use Rattle.io.specs.Digits.{hex_digit_ascii, last_digits}
use Rattle.sheet.specs.Below.{list_below}
use Rattle.sheet.specs.Sheet.{barred_bits}
use Rattle.sheet.proofs.Below.{flat-snoc}
use Rattle.sheet.proofs.Apart.{both}
use Rattle.decimals.specs.Decimal.{digits_onto, digits_of}
use Rattle.text_rows.specs.Fields.{Weight, finite, barred, infinity_text, same_text, and_then, is_newline, is_blank, onto_first, rows_of, ended, goes_on, fields_of, number_of, before_point, from_point, part_of, both_parts, magnitude_of, decimal_of, weight_of}
use Rattle.text_rows.specs.Rows.{Row, row_of, all_rows}
use Rattle.decimals.specs.Decimal.{places_by, decimal}
use Rattle.text_rows.specs.Written.{shortest, part_text, magnitude_text, weight_text, field_text}
use Rattle.text_rows.specs.RowsFor.{in_millionths, millionths, weight_for}
use Rattle.decimals.proofs.ReadBack.{digits-back}

-- ---- digits, bytes of fields, bytes of rows
abbrev pub Numeric : List ℕ → Type 0
Numeric [] = Unit {0}
Numeric (c ∷ cs) = (48 ≤ c) × (c < 58) × Numeric cs

abbrev pub Plain : List ℕ → Type 0
Plain [] = Unit {0}
Plain (c ∷ cs) = (is_blank c ≡ false) × (is_newline c ≡ false) × Plain cs

abbrev pub Lined : List ℕ → Type 0
Lined [] = Unit {0}
Lined (c ∷ cs) = (is_newline c ≡ false) × Lined cs

numeric-append : (xs ys : List ℕ) → Numeric xs → Numeric ys → Numeric (xs ++ ys)
numeric-append [] ys h k = k
numeric-append (x ∷ xs) ys h k = (h.0, h.1, numeric-append xs ys h.2 k)

plain-append : (xs ys : List ℕ) → Plain xs → Plain ys → Plain (xs ++ ys)
plain-append [] ys h k = k
plain-append (x ∷ xs) ys h k = (h.0, h.1, plain-append xs ys h.2 k)

pub lined-append : (xs ys : List ℕ) → Lined xs → Lined ys → Lined (xs ++ ys)
lined-append [] ys h k = k
lined-append (x ∷ xs) ys h k = (h.0, lined-append xs ys h.1 k)

pub plain-numeric : (xs : List ℕ) → Numeric xs → Plain xs
plain-numeric [] h = tt
plain-numeric (x ∷ xs) h =
    (λ i. ne_eqb x 32 (λ e. omega (arith, e, h.0)) i || ne_eqb x 9 (λ e. omega (arith, e, h.0)) i, ne_eqb x 10 (λ e. omega (arith, e, h.0)), plain-numeric xs h.2)

pub lined-plain : (xs : List ℕ) → Plain xs → Lined xs
lined-plain [] h = tt
lined-plain (x ∷ xs) h = (h.1, lined-plain xs h.2)

-- ---- numbers
pub length_digits : (k n : ℕ) → length (last_digits 10 k n) ≡ k
length_digits zero n = refl
length_digits (suc k) n = length-append (last_digits 10 k (n / 10)) (hex_digit_ascii (n % 10) ∷ []) ∙ (let e : length (last_digits 10 k (n / 10)) + 1 ≡ suc k = omega (arith, length_digits k (n / 10)) in e)

pub numeric-digits : (k n : ℕ) → Numeric (last_digits 10 k n)
numeric-digits zero n = tt
numeric-digits (suc k) n = numeric-append (last_digits 10 k (n / 10)) (hex_digit_ascii (n % 10) ∷ []) (numeric-digits k (n / 10)) (subst (λ (c : ℕ). Numeric (c ∷ [])) (sym glyph-is) (omega arith, omega arith, tt))
  where
    glyph-is : hex_digit_ascii (n % 10) ≡ 48 + n % 10
    glyph-is = ap (λ (b : Bool). cond b (48 + n % 10) (87 + n % 10)) (lt-ltb (n % 10) 10 (omega arith))

held : (most : ℕ) (small : Bool) (n : ℕ) → ltb n 10 ≡ small → n ≤ most → n < 10 ^ places_by most small n
unfolding places_by
held zero small n e h = omega arith
held (suc most) true n e h = ltb-true n 10 e
held (suc most) false n e h = omega (arith, held most (ltb (n / 10) 10) (n / 10) refl (omega (arith, ltb-false n 10 e)), pow-suc 10 (places_by most (ltb (n / 10) 10) (n / 10)))

one_place : (most : ℕ) (small : Bool) (n : ℕ) → 1 ≤ places_by most small n
unfolding places_by
one_place zero small n = omega arith
one_place (suc most) true n = omega arith
one_place (suc most) false n = omega arith

pub numeric-decimal : (n : ℕ) → Numeric (decimal n)
unfolding decimal
numeric-decimal n = numeric-digits (places_by n (ltb n 10) n) n

pub long-decimal : (n : ℕ) → 1 ≤ length (decimal n)
unfolding decimal
long-decimal n = omega (arith, length_digits (places_by n (ltb n 10) n) n, one_place n (ltb n 10) n)

digits_of-on : (f : List ℕ) → 1 ≤ length f → digits_of f ≡ digits_onto 0 f
digits_of-on [] h = absurd (omega arith)
digits_of-on (c ∷ cs) h = refl

digits-read : (k n : ℕ) → 1 ≤ k → n < 10 ^ k → digits_of (last_digits 10 k n) ≡ Some n
digits-read k n l h = digits_of-on (last_digits 10 k n) (omega (arith, length_digits k n)) ∙ digits-back k 0 n h ∙ ap Some (let e : 0 * 10 ^ k + n ≡ n = omega arith in e)

pub decimal-read : (n : ℕ) → digits_of (decimal n) ≡ Some n
unfolding decimal
decimal-read n = digits-read (places_by n (ltb n 10) n) n (one_place n (ltb n 10) n) (held n (ltb n 10) n refl (omega arith))

pub number-back : (n : ℕ) → n < 4294967296 → number_of (decimal n) ≡ Some n
unfolding number_of
number-back n h = ap (λ (o : Option ℕ). and_then o (λ m. cond (ltb m (2 ^ 32)) (Some m) None)) (decimal-read n) ∙ ap (λ (b : Bool). cond b (Some n) None) (lt-ltb n (2 ^ 32) h)

-- ---- weights
abbrev units : ℕ → ℤ
units bits = Grid.units_of unit (of_bits binary32 bits)

abbrev Short : ℕ → ℕ → List ℕ → Type 0
Short k n ds = (j : ℕ) × (m : ℕ) × (ds ≡ last_digits 10 j m) × (1 ≤ j) × (j ≤ k) × (m < 10 ^ j) × (m * 10 ^ (k - j) ≡ n)

short : (k n : ℕ) → n < 10 ^ k → 0 < n → Short k n (shortest k n)
unfolding shortest
short zero n h z = absurd (omega arith)
short (suc k) n h z = go (eqb (n % 10) 0) refl (short k (n / 10) (omega (arith, h, pow-suc 10 k)))
  where
    go : (b : Bool) → eqb (n % 10) 0 ≡ b → (0 < n / 10 → Short k (n / 10) (shortest k (n / 10))) → Short (suc k) n (cond b (shortest k (n / 10)) (last_digits 10 (suc k) n))
    go true e later =
        let r : n % 10 ≡ 0 = eqb-true (n % 10) 0 e in
        let s = later (omega arith) in
        let more : 10 ^ (suc k - s.0) ≡ 10 ^ (k - s.0) * 10 = ap (λ (x : ℕ). 10 ^ x) (let q : suc k - s.0 ≡ suc (k - s.0) = omega (arith, s.4) in q) ∙ pow-suc 10 (k - s.0) in
        let all : s.1 * 10 ^ (suc k - s.0) ≡ n = ap (λ (x : ℕ). s.1 * x) more ∙ sym (mul_assoc s.1 (10 ^ (k - s.0)) 10) ∙ ap (λ (x : ℕ). x * 10) s.6 ∙ omega (arith, r) in
        (s.0, s.1, s.2, s.3, omega (arith, s.4), s.5, all)
    go false e later = (suc k, n, refl, omega arith, omega arith, h, ap (λ (x : ℕ). n * 10 ^ x) (let q : suc k - suc k ≡ 0 = omega arith in q) ∙ omega arith)

pub part-back : (n : ℕ) → n < 1000000 → 0 < n → part_of (46 ∷ shortest 6 n) ≡ Some n
unfolding part_of
part-back n h z =
    let s = short 6 n h z in
    ap (λ (ds : List ℕ). and_then (digits_of ds) (λ x. cond (leb (length ds) 6) (Some (x * 10 ^ (6 - length ds))) None)) s.2
    ∙ ap (λ (o : Option ℕ). and_then o (λ x. cond (leb (length (last_digits 10 s.0 s.1)) 6) (Some (x * 10 ^ (6 - length (last_digits 10 s.0 s.1)))) None)) (digits-read s.0 s.1 s.3 s.5)
    ∙ ap (λ (k : ℕ). cond (leb k 6) (Some (s.1 * 10 ^ (6 - k))) None) (length_digits s.0 s.1)
    ∙ ap (λ (b : Bool). cond b (Some (s.1 * 10 ^ (6 - s.0))) None) (le-leb s.0 6 s.4)
    ∙ ap Some s.6

plain-short : (n : ℕ) → n < 1000000 → 0 < n → Plain (shortest 6 n)
plain-short n h z = let s = short 6 n h z in subst Plain (sym s.2) (plain-numeric (last_digits 10 s.0 s.1) (numeric-digits s.0 s.1))

-- the point
at-point : (f x : List ℕ) → Numeric f → (before_point (f ++ (46 ∷ x)) ≡ f) × (from_point (f ++ (46 ∷ x)) ≡ 46 ∷ x)
unfolding before_point from_point
at-point [] x h = (refl, refl)
at-point (c ∷ f) x h =
    let r = at-point f x h.2 in
    let no : eqb c 46 ≡ false = ne_eqb c 46 (λ e. omega (arith, e, h.0)) in (
      (λ i. cond (no i) [] (c ∷ before_point (f ++ (46 ∷ x)))) ∙ ap (λ (l : List ℕ). c ∷ l) r.0,
      (λ i. cond (no i) (c ∷ f ++ (46 ∷ x)) (from_point (f ++ (46 ∷ x)))) ∙ r.1,
    )

no-point : (f : List ℕ) → Numeric f → (before_point f ≡ f) × (from_point f ≡ [])
unfolding before_point from_point
no-point [] h = (refl, refl)
no-point (c ∷ f) h =
    let r = no-point f h.2 in
    let no : eqb c 46 ≡ false = ne_eqb c 46 (λ e. omega (arith, e, h.0)) in (
      (λ i. cond (no i) [] (c ∷ before_point f)) ∙ ap (λ (l : List ℕ). c ∷ l) r.0,
      (λ i. cond (no i) (c ∷ f) (from_point f)) ∙ r.1,
    )

pub magnitude-back : (k : ℕ) → magnitude_of (magnitude_text k) ≡ Some (15625 * k)
unfolding magnitude_of magnitude_text
magnitude-back k = go (eqb (k % 64 * 15625) 0) refl
  where
    go : (b : Bool) → eqb (k % 64 * 15625) 0 ≡ b
        → both_parts (digits_of (before_point (decimal (k / 64) ++ cond b [] (46 ∷ shortest 6 (k % 64 * 15625))))) (part_of (from_point (decimal (k / 64) ++ cond b [] (46 ∷ shortest 6 (k % 64 * 15625))))) ≡ Some (15625 * k)
    go true e =
        let r = no-point (decimal (k / 64)) (numeric-decimal (k / 64)) in
        let z : k % 64 * 15625 ≡ 0 = eqb-true (k % 64 * 15625) 0 e in
        ap (λ (f : List ℕ). both_parts (digits_of (before_point f)) (part_of (from_point f))) (append-nil (decimal (k / 64)))
        ∙ (λ i. both_parts (digits_of (r.0 i)) (part_of (r.1 i)))
        ∙ (λ i. both_parts (decimal-read (k / 64) i) (unfold part_of in Some 0))
        ∙ ap Some (let q : k / 64 * 1000000 + 0 ≡ 15625 * k = omega (arith, z) in q)
    go false e =
        let r = at-point (decimal (k / 64)) (shortest 6 (k % 64 * 15625)) (numeric-decimal (k / 64)) in
        let z : k % 64 * 15625 ≡ 0 → ⊥ = eqb-false (k % 64 * 15625) 0 e in
        (λ i. both_parts (digits_of (r.0 i)) (part_of (r.1 i)))
        ∙ (λ i. both_parts (decimal-read (k / 64) i) (part-back (k % 64 * 15625) (omega arith) (omega (arith, z)) i))
        ∙ ap Some (let q : k / 64 * 1000000 + k % 64 * 15625 ≡ 15625 * k = omega arith in q)

no_minus : (f rest : List ℕ) → Numeric f → 1 ≤ length f → decimal_of (f ++ rest) ≡ and_then (magnitude_of (f ++ rest)) (λ n. Some (pos n))
unfolding decimal_of
no_minus [] rest h l = absurd (omega arith)
no_minus (c ∷ f) rest h l =
    ap (λ (b : Bool). cond b (and_then (magnitude_of (f ++ rest)) (λ n. Some (neg_ℤ (pos n)))) (and_then (magnitude_of (c ∷ f ++ rest)) (λ n. Some (pos n)))) (ne_eqb c 45 (λ e. omega (arith, e, h.0)))

decimal-back : (k : ℤ) → decimal_of (weight_text k) ≡ Some (in_millionths k)
unfolding weight_text magnitude_text
decimal-back (pos k) =
    no_minus (decimal (k / 64)) (part_text (k % 64 * 15625)) (numeric-decimal (k / 64)) (long-decimal (k / 64))
    ∙ ap {B = Option ℤ} (λ (o : Option ℕ). and_then o (λ n. Some (pos n))) (magnitude-back k)
decimal-back (negsuc k) = unfold decimal_of in ap {B = Option ℤ} (λ (o : Option ℕ). and_then o (λ n. Some (neg_ℤ (pos n)))) (magnitude-back (suc k))

-- a decimal is no Infinity
same_text_lem : (xs ys : List ℕ) → same_text xs ys ≡ true → xs ≡ ys
unfolding same_text
same_text_lem [] [] e = refl
same_text_lem [] (y ∷ ys) e = absurd (false≢true e)
same_text_lem (x ∷ xs) [] e = absurd (false≢true e)
same_text_lem (x ∷ xs) (y ∷ ys) e = let b = both (eqb x y) (same_text xs ys) e in λ i. eqb-true x y b.0 i ∷ same_text_lem xs ys b.1 i

infinity-none : decimal_of infinity_text ≡ None
unfolding decimal_of infinity_text
infinity-none = refl

pub decimal-weight : (f : List ℕ) (w : ℤ) → decimal_of f ≡ Some w → weight_of f ≡ Some (finite w)
unfolding weight_of
decimal-weight f w e = go (same_text f infinity_text) refl
  where
    go : (b : Bool) → same_text f infinity_text ≡ b → cond b (Some barred) (and_then (decimal_of f) (λ w. Some (finite w))) ≡ Some (finite w)
    go true q = let clash : None ≡ Some w = sym infinity-none ∙ ap decimal_of (sym (same_text_lem f infinity_text q)) ∙ e in absurd (cc)
    go false q = ap {B = Option Weight} (λ (o : Option ℤ). and_then o (λ w. Some (finite w))) e

pub infinity-weight : weight_of infinity_text ≡ Some barred
unfolding weight_of infinity_text
infinity-weight = refl

-- the text of a field is read as its weight
pub weight-back : (bits : ℕ) → weight_of (field_text bits) ≡ Some (weight_for bits)
unfolding millionths
weight-back bits = go (eqb bits barred_bits)
  where
    go : (b : Bool) → weight_of (cond b infinity_text (weight_text (units bits))) ≡ Some (cond b barred (finite (millionths bits)))
    go true = infinity-weight
    go false = decimal-weight (weight_text (units bits)) (in_millionths (units bits)) (decimal-back (units bits))

plain-magnitude : (k : ℕ) → Plain (magnitude_text k)
unfolding magnitude_text
plain-magnitude k = plain-append (decimal (k / 64)) (part_text (k % 64 * 15625)) (plain-numeric (decimal (k / 64)) (numeric-decimal (k / 64))) (go (eqb (k % 64 * 15625) 0) refl)
  where
    go : (b : Bool) → eqb (k % 64 * 15625) 0 ≡ b → Plain (cond b [] (46 ∷ shortest 6 (k % 64 * 15625)))
    go true e = tt
    go false e = let z : k % 64 * 15625 ≡ 0 → ⊥ = eqb-false (k % 64 * 15625) 0 e in (refl, refl, plain-short (k % 64 * 15625) (omega arith) (omega (arith, z)))

plain-units : (k : ℤ) → Plain (weight_text k)
unfolding weight_text
plain-units (pos k) = plain-magnitude k
plain-units (negsuc k) = (refl, refl, plain-magnitude (suc k))

pub plain-weight : (bits : ℕ) → Plain (field_text bits)
unfolding infinity_text
plain-weight bits = go (eqb bits barred_bits)
  where
    go : (b : Bool) → Plain (cond b infinity_text (weight_text (units bits)))
    go true = (refl, refl, (refl, refl, (refl, refl, (refl, refl, (refl, refl, (refl, refl, (refl, refl, (refl, refl, tt))))))))
    go false = plain-units (units bits)

long-units : (k : ℤ) → 1 ≤ length (weight_text k)
unfolding weight_text magnitude_text
long-units (pos k) = omega (arith, length-append (decimal (k / 64)) (part_text (k % 64 * 15625)), long-decimal (k / 64))
long-units (negsuc k) = omega arith

pub long-weight : (bits : ℕ) → 1 ≤ length (field_text bits)
unfolding infinity_text
long-weight bits = go (eqb bits barred_bits)
  where
    go : (b : Bool) → 1 ≤ length (cond b infinity_text (weight_text (units bits)))
    go true = omega arith
    go false = long-units (units bits)

-- ---- fields parted by tabs
onto-append : (c : ℕ) (X Y : List (List ℕ)) → 1 ≤ length X → onto_first c (X ++ Y) ≡ onto_first c X ++ Y
onto-append c [] Y h = absurd (omega arith)
onto-append c (x ∷ X) Y h = refl

some-field : (d : ℕ) (ds : List ℕ) → is_blank d ≡ false → 1 ≤ length (fields_of (d ∷ ds))
unfolding fields_of
some-field d ds e = go (is_blank d) e (goes_on ds)
  where
    onto : (X : List (List ℕ)) → 1 ≤ length (onto_first d X)
    onto [] = omega arith
    onto (x ∷ X) = omega arith

    go : (b : Bool) → b ≡ false → (g : Bool) → 1 ≤ length (cond b (fields_of ds) (cond g (onto_first d (fields_of ds)) ((d ∷ []) ∷ fields_of ds)))
    go true e g = absurd (false≢true (sym e))
    go false e true = onto (fields_of ds)
    go false e false = omega arith

pub fields-tab : (xs ys : List ℕ) → fields_of (xs ++ (9 ∷ ys)) ≡ fields_of xs ++ fields_of ys
unfolding fields_of
fields-tab [] ys = refl
fields-tab (c ∷ []) ys = go (is_blank c)
  where
    go : (b : Bool) → cond b (fields_of ys) ((c ∷ []) ∷ fields_of ys) ≡ cond b [] ((c ∷ []) ∷ []) ++ fields_of ys
    go true = refl
    go false = refl
fields-tab (c ∷ d ∷ ds) ys = go (is_blank c) (is_blank d) refl (fields-tab (d ∷ ds) ys)
  where
    go : (b g : Bool) → is_blank d ≡ g → fields_of (d ∷ ds ++ (9 ∷ ys)) ≡ fields_of (d ∷ ds) ++ fields_of ys
        → cond b (fields_of (d ∷ ds ++ (9 ∷ ys))) (cond (not g) (onto_first c (fields_of (d ∷ ds ++ (9 ∷ ys)))) ((c ∷ []) ∷ fields_of (d ∷ ds ++ (9 ∷ ys)))) ≡ cond b (fields_of (d ∷ ds)) (cond (not g) (onto_first c (fields_of (d ∷ ds))) ((c ∷ []) ∷ fields_of (d ∷ ds))) ++ fields_of ys
    go true g q e = e
    go false true q e = ap (λ (l : List (List ℕ)). (c ∷ []) ∷ l) e
    go false false q e = ap (onto_first c) e ∙ onto-append c (fields_of (d ∷ ds)) (fields_of ys) (some-field d ds q)

pub one_field : (f : List ℕ) → Plain f → 1 ≤ length f → fields_of f ≡ f ∷ []
unfolding fields_of
one_field [] h l = absurd (omega arith)
one_field (c ∷ []) h l = ap (λ (b : Bool). cond b [] ((c ∷ []) ∷ [])) h.0
one_field (c ∷ d ∷ ds) h l =
    (λ j. cond (h.0 j) (fields_of (d ∷ ds)) (cond (not (h.2.0 j)) (onto_first c (fields_of (d ∷ ds))) ((c ∷ []) ∷ fields_of (d ∷ ds))))
    ∙ ap (onto_first c) (one_field (d ∷ ds) h.2 (omega arith))

pub fields-more : (xs f : List ℕ) → Plain f → 1 ≤ length f → fields_of (xs ++ (9 ∷ f)) ≡ fields_of xs ++ (f ∷ [])
fields-more xs f h l = fields-tab xs f ∙ ap (λ (l : List (List ℕ)). fields_of xs ++ l) (one_field f h l)

-- ---- rows ended by newlines
pub line-rows : (row rest : List ℕ) → Lined row → rows_of (row ++ (10 ∷ []) ++ rest) ≡ row ∷ rows_of rest
unfolding rows_of
line-rows [] rest h = refl
line-rows (c ∷ cs) rest h = (λ j. cond (h.0 j) ([] ∷ rows_of (cs ++ (10 ∷ []) ++ rest)) (onto_first c (rows_of (cs ++ (10 ∷ []) ++ rest)))) ∙ ap (onto_first c) (line-rows cs rest h.1)

-- a text that says these rows, whatever follows
abbrev pub Reads : List ℕ → List Row → Type 0
Reads t rs = (rest : List ℕ) → all_rows (rows_of (t ++ rest)) ≡ and_then (all_rows (rows_of rest)) (λ qs. Some (rs ++ qs))

pub reads_none : Reads [] []
reads_none rest = go (all_rows (rows_of rest))
  where
    go : (o : Option (List Row)) → o ≡ and_then o (λ qs. Some qs)
    go None = refl
    go (Some qs) = refl

pub reads-append : (t u : List ℕ) (rs qs : List Row) → Reads t rs → Reads u qs → Reads (t ++ u) (rs ++ qs)
reads-append t u rs qs h k rest =
    ap (λ (l : List ℕ). all_rows (rows_of l)) (append_assoc t u rest) ∙ h (u ++ rest)
    ∙ ap {B = Option (List Row)} (λ (o : Option (List Row)). and_then o (λ xs. Some (rs ++ xs))) (k rest) ∙ go (all_rows (rows_of rest))
  where
    go : (o : Option (List Row)) → and_then (and_then o (λ xs. Some (qs ++ xs))) (λ xs. Some (rs ++ xs)) ≡ and_then o (λ xs. Some (rs ++ qs ++ xs))
    go None = refl
    go (Some xs) = ap Some (sym (append_assoc rs qs xs))

pub reads-line : (row : List ℕ) (r : Row) → Lined row → row_of row ≡ Some r → Reads (row ++ (10 ∷ [])) (r ∷ [])
unfolding all_rows
reads-line row r h e rest =
    ap all_rows (line-rows row rest h) ∙ ap {B = Option (List Row)} (λ (o : Option Row). and_then o (λ r. and_then (all_rows (rows_of rest)) (λ rs. Some (r ∷ rs)))) e

pub reads_all : (n : ℕ) (f : ℕ → List ℕ) (g : ℕ → List Row) → ((u : ℕ) → u < n → Reads (f u) (g u)) → Reads (flat_map f (list_below n (λ u. u))) (flat_map g (list_below n (λ u. u)))
unfolding list_below flat_map
reads_all zero f g h = reads_none
reads_all (suc n) f g h =
    subst (λ (t : List ℕ). Reads t (flat_map g (list_below n (λ u. u) ++ (n ∷ [])))) (sym (flat-snoc f (list_below n (λ u. u)) n))
    (subst (λ (rs : List Row). Reads (flat_map f (list_below n (λ u. u)) ++ f n) rs) (sym (flat-snoc g (list_below n (λ u. u)) n))
    (reads-append (flat_map f (list_below n (λ u. u))) (f n) (flat_map g (list_below n (λ u. u))) (g n) (reads_all n f g (λ u b. h u (omega arith))) (h n (omega arith))))

-- ---- a newline at the end
abbrev pub Ends : List ℕ → Type 0
Ends t = (t ≡ []) ⊎ (ended t ≡ true)

ended-after : (xs ys : List ℕ) → ended ys ≡ true → ended (xs ++ ys) ≡ true
unfolding ended
ended-after [] ys e = e
ended-after (c ∷ []) [] e = absurd (false≢true e)
ended-after (c ∷ []) (y ∷ ys) e = e
ended-after (c ∷ d ∷ ds) ys e = ended-after (d ∷ ds) ys e

pub ends-append : (t u : List ℕ) → Ends t → Ends u → Ends (t ++ u)
ends-append t u h (inr e) = inr (ended-after t u e)
ends-append t u h (inl e) = subst Ends (sym (ap (λ (l : List ℕ). t ++ l) e ∙ append-nil t)) h

pub ends-line : (row : List ℕ) → Ends (row ++ (10 ∷ []))
ends-line row = inr (ended-after row (10 ∷ []) (unfold ended in refl))

pub ends-all : (n : ℕ) (f : ℕ → List ℕ) → ((u : ℕ) → Ends (f u)) → Ends (flat_map f (list_below n (λ u. u)))
unfolding list_below flat_map
ends-all zero f h = inl refl
ends-all (suc n) f h = subst Ends (sym (flat-snoc f (list_below n (λ u. u)) n)) (ends-append (flat_map f (list_below n (λ u. u))) (f n) (ends-all n f h) (h n))
