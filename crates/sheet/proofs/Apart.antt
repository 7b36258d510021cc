-- Tests taken apart. Assumes nothing.
use mathlib.Core.Path.{◌≡◌, refl, sym, ap, ◌∙◌, subst}
use mathlib.Core.Logic.{◌⊎◌, inl, inr}
use mathlib.Core.Bool.{Bool, true, false, ◌&&◌, ◌||◌, cond, or-true}
use mathlib.Core.List.{List}
use Prim.Native.Nat.{ℕ}
use native.Mathlib.Omega.{arith}
use lib.Dec.{T, eqb}
use lib.Ieee.Fits.{and_l, and_r}
use lib.Ieee.Bits.{is_true}
use borrow.Author.Tests.{ne_eqb}

pub both : (a b : Bool) → (a && b) ≡ true → (a ≡ true) × (b ≡ true)
both a b e = let t : T (a && b) = subst T (sym e) tt in (is_true a (and_l a b t), is_true b (and_r a b t))

pub not-both : {t : Bool} → t ≡ true → t ≡ false → ⊥
not-both {t} p q = let z : ◌≡◌ {A = ℕ} 0 1 = cc in omega arith

pub or-either : (a b : Bool) → a || b ≡ true → (a ≡ true) ⊎ (b ≡ true)
or-either true b e = inl refl
or-either false b e = inr e

pub or_left : (a b : Bool) → a ≡ true → a || b ≡ true
or_left a b e = ap (λ x. x || b) e

pub or_right : (a b : Bool) → b ≡ true → a || b ≡ true
or_right a b e = ap (λ x. a || x) e ∙ or-true a

-- ---- what is told apart by the number of a refusal
pub not-zero : (k : ℕ) (x y : List ℕ) → (k ≡ 0 → ⊥) → cond (eqb k 0) x y ≡ y
not-zero k x y a = ap (λ (b : Bool). cond b x y) (ne_eqb k 0 a)

-- by 0 and 21
pub neither : (k : ℕ) (x y : List ℕ) → (k ≡ 0 → ⊥) → (k ≡ 21 → ⊥) → cond (eqb k 0 || eqb k 21) x y ≡ y
neither k x y a b = λ i. cond (ne_eqb k 0 a i || ne_eqb k 21 b i) x y
