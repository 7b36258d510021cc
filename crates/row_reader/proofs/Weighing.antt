-- Numbers and weights by the parts that the code reads. Assumes nothing.
use mathlib.Core.Path.{◌≡◌, refl, sym, ap, ◌∙◌, subst}
use mathlib.Core.Bool.{Bool, true, false, not, ◌&&◌, cond}
use Rattle.std.proofs.Common.{Option, None, Some}
use mathlib.Core.List.{List, [], ◌∷◌}
use Prim.Native.Nat.{ℕ, zero, suc, ◌+◌, ◌-◌, ◌*◌, ◌^◌, ◌≤◌, ◌<◌, min}
use native.Mathlib.Nat.{mul_assoc, mul_comm, pow-suc, mul-le-mul_right, lt_of_lt_of_le}
use native.Mathlib.Omega.{arith}
use lib.Dec.{leb, ltb, eqb}
use lib.IntN.{ℤ}
use lib.ListN.{length, get_or, take, drop}
use lib.Seq.{drop-cons, drop-length, take-length}
use borrow.Author.Tests.{lt-ltb, le-ltb, le-leb, lt-leb, leb-true, ltb-true, ltb-false, eq-eqb, ne_eqb}
use Rattle.decimals.specs.Decimal.{is_digit, with_digit, digits_onto, digits_of}
use Rattle.text_rows.specs.Fields.{finite, barred, and_then, number_of, before_point, from_point, part_of, infinity_text, same_text, both_parts, magnitude_of, decimal_of, weight_of}
use Rattle.row_reader.specs.Runs.{run_of, not_point}
use Rattle.std.specs.Option.{option_map}
use lib.Pointwise.{pointwise}
use Rattle.std.specs.List.{prefix_len, position}
use Rattle.std.proofs.Common.{◌==◌}
use Rattle.row_reader.proofs.Runs.{rest_of, rest-is, run-prefix, run-most}
use Rattle.decimals.proofs.Holding.{held-most}
use Rattle.decimals.specs.Held.{held, digits_held}
use Rattle.row_reader.specs.Reading.{most_millionths, millionths_held, signed_by, decimal_read, weight_read}
use Rattle.row_reader.specs.declared.values.Weight.{Weight}

-- ---- numbers
abbrev small : Option ℕ → Option ℕ
small o = and_then o (λ n. cond (ltb n (2 ^ 32)) (Some n) None)

small-none : (o : Option ℕ) → digits_held o ≡ None → small o ≡ None
small-none None e = refl
small-none (Some n) e = absurd (cc)

small_is : (o : Option ℕ) (v : ℕ) → digits_held o ≡ Some v → small o ≡ cond (ltb v (2 ^ 32)) (Some v) None
small_is None v e = absurd (cc)
small_is (Some n) v e = go (ltb n (2 ^ 32)) refl
  where
    is : held n ≡ v
    is = cc

    go : (b : Bool) → ltb n (2 ^ 32) ≡ b → cond b (Some n) None ≡ cond (ltb v (2 ^ 32)) (Some v) None
    go true q =
        let less = ltb-true n (2 ^ 32) q in
        let same : n ≡ v = omega (arith, is) in
        ap Some same ∙ sym (ap (λ (b : Bool). cond b (Some v) None) (lt-ltb v (2 ^ 32) (omega arith)))
    go false q =
        let most = ltb-false n (2 ^ 32) q in
        sym (ap (λ (b : Bool). cond b (Some v) None) (le-ltb v (2 ^ 32) (omega (arith, is))))

module _ (f : List ℕ) where
  pub number-none : digits_held (digits_of f) ≡ None → number_of f ≡ None
  unfolding number_of
  number-none e = small-none (digits_of f) e

  pub number_is : (v : ℕ) → digits_held (digits_of f) ≡ Some v → number_of f ≡ cond (ltb v (2 ^ 32)) (Some v) None
  unfolding number_of
  number_is v e = small_is (digits_of f) v e

-- ---- k digits are below 10 ^ k
digit-step : (n c p : ℕ) → c < 58 → suc (with_digit n c) * p ≤ suc n * (p * 10)
digit-step n c p h =
    subst (λ (k : ℕ). suc (with_digit n c) * p ≤ k) again (mul-le-mul_right p (let z : suc (with_digit n c) ≤ suc n * 10 = omega arith in z))
  where
    again : suc n * 10 * p ≡ suc n * (p * 10)
    again = mul_assoc (suc n) 10 p ∙ ap (λ (k : ℕ). suc n * k) (mul_comm 10 p)

digits-below : (l : List ℕ) (n v : ℕ) → digits_onto n l ≡ Some v → v < suc n * 10 ^ length l
unfolding digits_onto
digits-below [] n v e = let z : n ≡ v = cc in omega arith
digits-below (c ∷ cs) n v e = go (is_digit c) refl e (digits-below cs (with_digit n c) v)
  where
    high : leb 48 c && ltb c 58 ≡ true → c < 58
    high e = at (leb 48 c) (ltb c 58) refl e
      where
        at : (a b : Bool) → ltb c 58 ≡ b → a && b ≡ true → c < 58
        at true true q e = ltb-true c 58 q
        at true false q e = absurd (cc)
        at false b q e = absurd (cc)

    go : (b : Bool) → is_digit c ≡ b → cond b (digits_onto (with_digit n c) cs) None ≡ Some v
        → (digits_onto (with_digit n c) cs ≡ Some v → v < suc (with_digit n c) * 10 ^ length cs) → v < suc n * 10 ^ suc (length cs)
    go true q e later =
        subst (λ (k : ℕ). v < suc n * k) (sym (pow-suc 10 (length cs))) (lt_of_lt_of_le (later e) (digit-step n c (10 ^ length cs) (high q)))
    go false q e later = absurd (cc)

of-below : (l : List ℕ) (v : ℕ) → digits_of l ≡ Some v → v < 10 ^ length l
of-below [] v e = absurd (cc)
of-below (c ∷ cs) v e = let h = digits-below (c ∷ cs) 0 v e in omega arith

-- ---- decimals
-- k digits scaled are below a million
pub record Scaled (k : ℕ) : Type 0 where
  pub below : (v : ℕ) → v < 10 ^ k → v * 10 ^ (6 - k) < 1000000
  pub small : 10 ^ k ≤ 1000000

pub scaled : (k : ℕ) → k ≤ 6 → Scaled k
scaled zero h = record { below = λ v l. omega arith; small = omega arith }
scaled (suc zero) h = record { below = λ v l. omega arith; small = omega arith }
scaled (suc (suc zero)) h = record { below = λ v l. omega arith; small = omega arith }
scaled (suc (suc (suc zero))) h = record { below = λ v l. omega arith; small = omega arith }
scaled (suc (suc (suc (suc zero)))) h = record { below = λ v l. omega arith; small = omega arith }
scaled (suc (suc (suc (suc (suc zero))))) h = record { below = λ v l. omega arith; small = omega arith }
scaled (suc (suc (suc (suc (suc (suc zero)))))) h = record { below = λ v l. omega arith; small = omega arith }
scaled (suc (suc (suc (suc (suc (suc (suc k))))))) h = absurd (omega arith)

module _ (ds : List ℕ) where
  abbrev part_by : Option ℕ → Option ℕ
  part_by o = and_then o (λ n. cond (leb (length ds) 6) (Some (n * 10 ^ (6 - length ds))) None)

  long : (o : Option ℕ) → 6 < length ds → (part_by o) ≡ None
  long None h = refl
  long (Some n) h = ap (λ (b : Bool). (cond b (Some (n * 10 ^ (6 - length ds))) None)) (lt-leb _ _ h)

  by-none : (o : Option ℕ) → digits_held o ≡ None → (part_by o) ≡ None
  by-none None e = refl
  by-none (Some n) e = absurd (cc)

  by_value : (o : Option ℕ) (v : ℕ) → digits_held o ≡ Some v → (length ds ≤ 6) → ((n : ℕ) → o ≡ Some n → n < 10 ^ length ds)
      → (part_by o) ≡ Some (v * 10 ^ (6 - length ds))
  by_value None v e h below = absurd (cc)
  by_value (Some n) v e h below =
      let s = scaled (length ds) h in
      let z : held n ≡ v = cc in
      let l = below n refl in
      let same : n ≡ v = omega (arith, s.small) in
      ap (λ (b : Bool). (cond b (Some (n * 10 ^ (6 - length ds))) None)) (le-leb _ _ h)
      ∙ ap (λ (x : ℕ). Some (x * 10 ^ (6 - length ds))) same

  by_most : (o : Option ℕ) (m : ℕ) → (part_by o) ≡ Some m → ((n : ℕ) → o ≡ Some n → n < 10 ^ length ds) → m < 1000000
  by_most None m e below = absurd (cc)
  by_most (Some n) m e below = go (leb (length ds) 6) refl e
    where
      go : (b : Bool) → leb (length ds) 6 ≡ b → (cond b (Some (n * 10 ^ (6 - length ds))) None) ≡ Some m → m < 1000000
      go true q e =
          let z : n * 10 ^ (6 - length ds) ≡ m = cc in
          let l = (scaled (length ds) (leb-true _ _ q)).below n (below n refl) in
          omega arith
      go false q e = absurd (cc)

  pub part-long : 6 < length ds → (part_of (46 ∷ ds)) ≡ None
  unfolding part_of
  part-long h = long (digits_of ds) h

  pub part_none : digits_held (digits_of ds) ≡ None → (part_of (46 ∷ ds)) ≡ None
  unfolding part_of
  part_none e = by-none (digits_of ds) e

  pub part-is : (v : ℕ) → digits_held (digits_of ds) ≡ Some v → length ds ≤ 6 → (part_of (46 ∷ ds)) ≡ Some (v * 10 ^ (6 - length ds))
  unfolding part_of
  part-is v e h = by_value (digits_of ds) v e h (of-below ds)

  pub part-most : (m : ℕ) → (part_of (46 ∷ ds)) ≡ Some m → m < 1000000
  unfolding part_of
  part-most m e = by_most (digits_of ds) m e (of-below ds)

-- ---- the two parts of a weight
before-run : (f : List ℕ) → before_point f ≡ take (run_of not_point f) f
unfolding before_point run_of
before-run [] = refl
before-run (c ∷ cs) = go (eqb c 46) (before-run cs)
  where
    go : (b : Bool) → before_point cs ≡ take (run_of not_point cs) cs → cond b [] (c ∷ before_point cs) ≡ take (cond (not b) (suc (run_of not_point cs)) 0) (c ∷ cs)
    go true e = refl
    go false e = ap (λ (l : List ℕ). c ∷ l) e

from-run : (f : List ℕ) → from_point f ≡ drop (run_of not_point f) f
unfolding from_point run_of
from-run [] = refl
from-run (c ∷ cs) = go (eqb c 46) (from-run cs)
  where
    go : (b : Bool) → from_point cs ≡ drop (run_of not_point cs) cs → cond b (c ∷ cs) (from_point cs) ≡ drop (cond (not b) (suc (run_of not_point cs)) 0) (c ∷ cs)
    go true e = refl
    go false e = e

both-none : (a b : Option ℕ) → digits_held a ≡ None → millionths_held (both_parts a b) ≡ None
both-none None b e = refl
both-none (Some n) b e = absurd (cc)

both-half : (a b : Option ℕ) → b ≡ None → millionths_held (both_parts a b) ≡ None
both-half None b e = refl
both-half (Some n) None e = refl
both-half (Some n) (Some m) e = absurd (cc)

both_is : (a b : Option ℕ) (w m : ℕ) → digits_held a ≡ Some w → b ≡ Some m → m < 1000000 → millionths_held (both_parts a b) ≡ Some (min (w * 1000000 + m) most_millionths)
both_is None b w m p q h = absurd (cc)
both_is (Some n) None w m p q h = absurd (cc)
both_is (Some n) (Some k) w m p q h =
    let y : held n ≡ w = cc in
    let z : k ≡ m = cc in
    ap Some (let x : min (n * 1000000 + k) most_millionths ≡ min (w * 1000000 + m) most_millionths = omega arith in x)

module _ (f : List ℕ) (p : ℕ) (run : p ≡ run_of not_point f) where
  two : magnitude_of f ≡ both_parts (digits_of (take p f)) (part_of (drop p f))
  unfolding magnitude_of
  two = (λ i. both_parts (digits_of (before-run f i)) (part_of (from-run f i))) ∙ ap (λ (k : ℕ). both_parts (digits_of (take k f)) (part_of (drop k f))) (sym run)

  last : p ≡ length f → part_of (drop p f) ≡ Some 0
  unfolding part_of
  last e = ap (λ (k : ℕ). part_of (drop k f)) e ∙ ap part_of (drop-length f)

  more : p < length f → part_of (drop p f) ≡ part_of (46 ∷ rest_of (p + 1) f)
  unfolding part_of
  more h =
      ap part_of (drop-cons f p 0 h)
      ∙ ap (λ (k : ℕ). part_of (46 ∷ drop k f)) (let z : suc p ≡ p + 1 = omega arith in z)
      ∙ ap (λ (l : List ℕ). part_of (46 ∷ l)) (sym (rest-is (p + 1) f))

  pub whole-none : digits_held (digits_of (take p f)) ≡ None → millionths_held (magnitude_of f) ≡ None
  whole-none e = ap millionths_held two ∙ both-none (digits_of (take p f)) (part_of (drop p f)) e

  pub whole-only : (w : ℕ) → p ≡ length f → digits_held (digits_of (take p f)) ≡ Some w → millionths_held (magnitude_of f) ≡ Some (w * 1000000)
  whole-only w l e =
      let most = held-most (digits_of (take p f)) w e in
      ap millionths_held two ∙ both_is (digits_of (take p f)) (part_of (drop p f)) w 0 e (last l) (omega arith)
      ∙ ap Some (let z : min (w * 1000000 + 0) most_millionths ≡ w * 1000000 = omega arith in z)

  pub half-none : p < length f → part_of (46 ∷ rest_of (p + 1) f) ≡ None → millionths_held (magnitude_of f) ≡ None
  half-none h e = ap millionths_held two ∙ both-half (digits_of (take p f)) (part_of (drop p f)) (more h ∙ e)

  pub both-parts : (w m : ℕ) → p < length f → digits_held (digits_of (take p f)) ≡ Some w → part_of (46 ∷ rest_of (p + 1) f) ≡ Some m
      → millionths_held (magnitude_of f) ≡ Some (min (w * 1000000 + m) most_millionths)
  both-parts w m h e d = ap millionths_held two ∙ both_is (digits_of (take p f)) (part_of (drop p f)) w m e (more h ∙ d) (part-most (rest_of (p + 1) f) m d)

-- ---- by the first point
pub no-point : (f : List ℕ) → position (λ c. c == 46) f ≡ None → run_of not_point f ≡ length f
no-point f e = go (ltb (prefix_len not_point f) (length f)) refl e
  where
    go : (b : Bool) → ltb (prefix_len not_point f) (length f) ≡ b → cond b (Some (prefix_len not_point f)) None ≡ None → run_of not_point f ≡ length f
    go true q e = absurd (cc)
    go false q e = omega (arith, ltb-false _ _ q, run-prefix not_point f, run-most not_point f)

pub point_at : (f : List ℕ) (p : ℕ) → position (λ c. c == 46) f ≡ Some p → (p ≡ run_of not_point f) × (p < length f)
point_at f p e = go (ltb (prefix_len not_point f) (length f)) refl e
  where
    go : (b : Bool) → ltb (prefix_len not_point f) (length f) ≡ b → cond b (Some (prefix_len not_point f)) None ≡ Some p → (p ≡ run_of not_point f) × (p < length f)
    go true q e = let z : prefix_len not_point f ≡ p = cc in (sym z ∙ run-prefix not_point f, omega (arith, z, ltb-true _ _ q))
    go false q e = absurd (cc)

module _ (f : List ℕ) (none : position (λ c. c == 46) f ≡ None) where
  whole-f : take (run_of not_point f) f ≡ f
  whole-f = ap (λ (k : ℕ). take k f) (no-point f none) ∙ take-length f

  pub no-point-none : digits_held (digits_of f) ≡ None → millionths_held (magnitude_of f) ≡ None
  no-point-none e = whole-none f (run_of not_point f) refl (ap (λ (l : List ℕ). digits_held (digits_of l)) whole-f ∙ e)

  pub no-point_is : (w : ℕ) → digits_held (digits_of f) ≡ Some w → millionths_held (magnitude_of f) ≡ Some (w * 1000000)
  no-point_is w e = whole-only f (run_of not_point f) refl w (no-point f none) (ap (λ (l : List ℕ). digits_held (digits_of l)) whole-f ∙ e)

-- ---- the sign
module _ (minus : Bool) (f : List ℕ) where
  abbrev pub signed : Option ℤ
  signed = and_then (magnitude_of f) (λ n. Some (signed_by minus n))

pub decimal-minus : (f : List ℕ) → 0 < length f → get_or f 0 0 ≡ 45 → decimal_of f ≡ signed true (rest_of 1 f)
unfolding decimal_of
decimal-minus [] h e = absurd (omega arith)
decimal-minus (c ∷ cs) h e =
    ap (λ (b : Bool). cond b (signed true cs) (signed false (c ∷ cs))) (eq-eqb c 45 e)
    ∙ ap (signed true) (sym (rest-is 1 (c ∷ cs)))

-- nothing is no decimal
pub decimal-plus : (f : List ℕ) → (get_or f 0 0 ≡ 45 → ⊥) → decimal_of f ≡ signed false f
unfolding decimal_of magnitude_of
decimal-plus [] e = refl
decimal-plus (c ∷ cs) e = ap (λ (b : Bool). cond b (signed true cs) (signed false (c ∷ cs))) (ne_eqb c 45 e)

-- ---- infinity
pub weight-barred : (f : List ℕ) → same_text f infinity_text ≡ true → option_map weight_read (weight_of f) ≡ Some Weight.Barred
unfolding weight_of
weight-barred f e = ap (λ (b : Bool). option_map weight_read (cond b (Some barred) (and_then (decimal_of f) (λ w. Some (finite w))))) e

pub weight-decimal : (f : List ℕ) → same_text f infinity_text ≡ false → option_map weight_read (weight_of f) ≡ option_map decimal_read (decimal_of f)
unfolding weight_of
weight-decimal f e = ap (λ (b : Bool). option_map weight_read (cond b (Some barred) (and_then (decimal_of f) (λ w. Some (finite w))))) e ∙ go (decimal_of f)
  where
    go : (o : Option ℤ) → option_map weight_read (and_then o (λ w. Some (finite w))) ≡ option_map decimal_read o
    go None = refl
    go (Some w) = refl

-- ---- the text of infinity
pub same-text : (a b : List ℕ) → pointwise eqb a b ≡ same_text a b
unfolding same_text
same-text [] [] = refl
same-text [] (d ∷ ds) = refl
same-text (c ∷ cs) [] = refl
same-text (c ∷ cs) (d ∷ ds) = ap (λ (b : Bool). eqb c d && b) (same-text cs ds)
