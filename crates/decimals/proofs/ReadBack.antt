-- Reading digits back: k digits of a number below 10 ^ k, read onto n. Assumes nothing.
use mathlib.Core.Path.{◌≡◌, refl, sym, ap, ◌∙◌}
use mathlib.Core.Bool.{Bool, true, false, ◌&&◌, cond}
use Rattle.std.proofs.Common.{Option, None, Some}
use mathlib.Core.List.{List, [], ◌∷◌, ◌++◌}
use Prim.Native.Nat.{ℕ, zero, suc, ◌+◌, ◌-◌, ◌*◌, ◌/◌, ◌%◌, ◌^◌, ◌<◌}
use native.Mathlib.Nat.{mul_assoc, pow-suc}
use native.Mathlib.Omega.{arith}
use borrow.Author.Tests.{lt-ltb, le-leb}
use Rattle.io.specs.Digits.{last_digits}
use Rattle.decimals.specs.Decimal.{is_digit, with_digit, digits_onto}

-- one more at the end
digit-more : (xs : List ℕ) (n v d : ℕ) → d < 10 → digits_onto n xs ≡ Some v → digits_onto n (xs ++ ((48 + d) ∷ [])) ≡ Some (10 * v + d)
unfolding digits_onto
digit-more [] n v d h e =
    (λ i. cond (digit i) (Some (10 * n + (48 + d - 48))) None) ∙ ap Some (let z : 10 * n + (48 + d - 48) ≡ 10 * n + d = omega arith in z) ∙ step e
  where
    digit : is_digit (48 + d) ≡ true
    digit = λ i. le-leb 48 (48 + d) (omega arith) i && lt-ltb (48 + d) 58 (omega arith) i

    step : Some n ≡ Some v → Some (10 * n + d) ≡ Some (10 * v + d)
    step e = ap more e
      where
        more : Option ℕ → Option ℕ
        more None = None
        more (Some x) = Some (10 * x + d)
digit-more (x ∷ xs) n v d h e = go (is_digit x) refl e (digit-more xs (with_digit n x) v d h)
  where
    go : (b : Bool) → is_digit x ≡ b → cond b (digits_onto (with_digit n x) xs) None ≡ Some v
        → (digits_onto (with_digit n x) xs ≡ Some v → digits_onto (with_digit n x) (xs ++ ((48 + d) ∷ [])) ≡ Some (10 * v + d))
        → cond (is_digit x) (digits_onto (with_digit n x) (xs ++ ((48 + d) ∷ []))) None ≡ Some (10 * v + d)
    go true q e later = ap (λ (b : Bool). cond b (digits_onto (with_digit n x) (xs ++ ((48 + d) ∷ []))) None) q ∙ later e
    go false q e later = let z : ◌≡◌ {A = ℕ} 0 1 = cc in absurd (omega arith)

pub digits-back : (k n m : ℕ) → m < 10 ^ k → digits_onto n (last_digits 10 k m) ≡ Some (n * 10 ^ k + m)
unfolding digits_onto
digits-back zero n m h = ap Some (let z : n ≡ n * 10 ^ 0 + m = omega arith in z)
digits-back (suc k) n m h =
    ap (λ (c : ℕ). digits_onto n (last_digits 10 k (m / 10) ++ (c ∷ []))) (ap (λ (b : Bool). cond b (48 + m % 10) (87 + m % 10)) (lt-ltb (m % 10) 10 (omega arith)))
    ∙ digit-more (last_digits 10 k (m / 10)) n (n * 10 ^ k + m / 10) (m % 10) (omega arith) (digits-back k n (m / 10) (omega (arith, h, pow-suc 10 k)))
    ∙ ap Some (let z : 10 * (n * 10 ^ k + m / 10) + m % 10 ≡ n * 10 ^ suc k + m = omega (arith, shift) in z)
  where
    shift : n * 10 ^ suc k ≡ n * 10 ^ k * 10
    shift = ap (λ (p : ℕ). n * p) (pow-suc 10 k) ∙ sym (mul_assoc n (10 ^ k) 10)
