-- Digits read onto a value that is held at 2 ^ 32: as good as the value itself. Assumes nothing.
use mathlib.Core.Path.{◌≡◌, refl, sym, ap, ◌∙◌}
use mathlib.Core.Bool.{Bool, true, false, cond}
use Rattle.std.proofs.Common.{Option, None, Some}
use mathlib.Core.List.{List, [], ◌∷◌}
use Prim.Native.Nat.{ℕ, suc, ◌+◌, ◌^◌, ◌≤◌, ◌<◌}
use native.Mathlib.Omega.{arith}
use lib.ListN.{length, get_or, drop}
use lib.Seq.{drop-cons}
use Rattle.decimals.specs.Decimal.{is_digit, with_digit, digits_onto, digits_of}
use Rattle.decimals.specs.Held.{held, digits_held}

-- ---- digits from a place on
pub onto-at : (l : List ℕ) (i n : ℕ) → i < length l
    → digits_onto n (drop i l) ≡ cond (is_digit (get_or l i 0)) (digits_onto (with_digit n (get_or l i 0)) (drop (i + 1) l)) None
unfolding digits_onto
onto-at l i n h =
    ap (digits_onto n) (drop-cons l i 0 h)
    ∙ ap (λ (k : ℕ). cond (is_digit (get_or l i 0)) (digits_onto (with_digit n (get_or l i 0)) (drop k l)) None) (let z : suc i ≡ i + 1 = omega arith in z)

pub onto-on : (l : List ℕ) (i n : ℕ) → i < length l → is_digit (get_or l i 0) ≡ true → digits_onto n (drop i l) ≡ digits_onto (with_digit n (get_or l i 0)) (drop (i + 1) l)
onto-on l i n h e = onto-at l i n h ∙ ap (λ (b : Bool). cond b (digits_onto (with_digit n (get_or l i 0)) (drop (i + 1) l)) None) e

pub onto-stops : (l : List ℕ) (i n : ℕ) → i < length l → is_digit (get_or l i 0) ≡ false → digits_onto n (drop i l) ≡ None
onto-stops l i n h e = onto-at l i n h ∙ ap (λ (b : Bool). cond b (digits_onto (with_digit n (get_or l i 0)) (drop (i + 1) l)) None) e

pub onto-ends : (l : List ℕ) (i n : ℕ) → drop i l ≡ [] → digits_onto n (drop i l) ≡ Some n
unfolding digits_onto
onto-ends l i n e = ap (digits_onto n) e

pub of-onto : (l : List ℕ) → 0 < length l → digits_of l ≡ digits_onto 0 l
of-onto [] h = absurd (omega arith)
of-onto (c ∷ cs) h = refl

pub of_none : (l : List ℕ) → length l ≡ 0 → digits_of l ≡ None
of_none [] h = refl
of_none (c ∷ cs) h = absurd (omega arith)

-- ---- held
held-digit : (n c : ℕ) → held (with_digit (held n) c) ≡ held (with_digit n c)
held-digit n c = omega arith

pub held-onto : (l : List ℕ) (n : ℕ) → digits_held (digits_onto (held n) l) ≡ digits_held (digits_onto n l)
unfolding digits_onto
held-onto [] n = ap Some (let z : held (held n) ≡ held n = omega arith in z)
held-onto (c ∷ cs) n = go (is_digit c) (held-onto cs (with_digit (held n) c)) (held-onto cs (with_digit n c))
  where
    go : (b : Bool) → digits_held (digits_onto (held (with_digit (held n) c)) cs) ≡ digits_held (digits_onto (with_digit (held n) c) cs)
        → digits_held (digits_onto (held (with_digit n c)) cs) ≡ digits_held (digits_onto (with_digit n c) cs)
        → digits_held (cond b (digits_onto (with_digit (held n) c) cs) None) ≡ digits_held (cond b (digits_onto (with_digit n c) cs) None)
    go true p q = sym p ∙ ap (λ (k : ℕ). digits_held (digits_onto k cs)) (held-digit n c) ∙ q
    go false p q = refl

-- ---- k digits are below 10 ^ k
pub held-most : (o : Option ℕ) (v : ℕ) → digits_held o ≡ Some v → v ≤ 2 ^ 32
held-most None v e = let z : ◌≡◌ {A = ℕ} 0 1 = cc in absurd (omega arith)
held-most (Some n) v e = let z : held n ≡ v = cc in omega arith
