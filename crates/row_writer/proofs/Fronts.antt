-- Digits from the front: the first of so many millionths without the zeros at their end, and those behind it. Assumes nothing.
use mathlib.Core.Path.{◌≡◌, refl, sym, ap, ◌∙◌}
use mathlib.Core.Bool.{Bool, true, false, cond}
use mathlib.Core.List.{List, [], ◌∷◌, ◌++◌}
use Prim.Native.Nat.{ℕ, zero, suc, ◌+◌, ◌*◌, ◌/◌, ◌%◌, ◌^◌, ◌<◌}
use native.Mathlib.Nat.{pow-succ', div-div-eq-div-mul, div-add-mod, mul_assoc}
use native.Mathlib.Omega.{arith}
use lib.Dec.{eqb}
use borrow.Author.Tests.{lt-ltb, eqb-true, eq-eqb, ne_eqb}
use Rattle.io.specs.Digits.{last_digits, hex_digit_ascii}
use Rattle.text_rows.specs.Written.{shortest}

-- ---- dividing by a power of ten, and by one more
module _ (k n : ℕ) where
  pub tens-div : n / 10 / 10 ^ k ≡ n / 10 ^ suc k
  tens-div = div-div-eq-div-mul n 10 (10 ^ k) ∙ ap (λ (x : ℕ). n / x) (sym (pow-succ' 10 k))

  -- n is ten times so many of the power, and the rest
  in-tens : n ≡ 10 * (10 ^ k * (n / 10 / 10 ^ k)) + n % 10 ^ suc k
  in-tens = sym (ap (λ (x : ℕ). x + n % 10 ^ suc k) (sym ((λ i. pow-succ' 10 k i * sym tens-div i) ∙ mul_assoc 10 (10 ^ k) (n / 10 / 10 ^ k))) ∙ div-add-mod n (10 ^ suc k))

  tens-mod : n % 10 ^ suc k / 10 ≡ n / 10 % 10 ^ k
  tens-mod = go (10 ^ k * (n / 10 / 10 ^ k)) (n % 10 ^ suc k) (n / 10 % 10 ^ k) in-tens (div-add-mod (n / 10) (10 ^ k))
    where
      go : (x r s : ℕ) → n ≡ 10 * x + r → x + s ≡ n / 10 → r / 10 ≡ s
      go x r s e f = omega arith

  last-mod : n % 10 ^ suc k % 10 ≡ n % 10
  last-mod = go (10 ^ k * (n / 10 / 10 ^ k)) (n % 10 ^ suc k) in-tens
    where
      go : (x r : ℕ) → n ≡ 10 * x + r → r % 10 ≡ n % 10
      go x r e = omega arith

  fewer : n < 10 ^ suc k → n / 10 < 10 ^ k
  fewer h = omega (arith, h, pow-succ' 10 k)

-- ---- digits from the front
digits-front : (k n : ℕ) → n < 10 ^ suc k → last_digits 10 (suc k) n ≡ hex_digit_ascii (n / 10 ^ k) ∷ last_digits 10 k (n % 10 ^ k)
digits-front zero n h = ap (λ (d : ℕ). hex_digit_ascii d ∷ []) (let e : n % 10 ≡ n / 1 = omega (arith, h) in e)
digits-front (suc k) n h =
    ap (λ (l : List ℕ). l ++ (hex_digit_ascii (n % 10) ∷ [])) (digits-front k (n / 10) (fewer (suc k) n h))
    ∙ λ i. hex_digit_ascii (tens-div k n i) ∷ (last_digits 10 k (sym (tens-mod k n) i) ++ (hex_digit_ascii (sym (last-mod k n) i) ∷ []))

front : (k n : ℕ) → 0 < n → n < 10 ^ suc k → shortest (suc k) n ≡ hex_digit_ascii (n / 10 ^ k) ∷ shortest k (n % 10 ^ k)
unfolding shortest
front zero n z h = ap (λ (b : Bool). cond b [] (hex_digit_ascii (n % 10) ∷ [])) (ne_eqb (n % 10) 0 (λ e. omega (arith, h, e))) ∙ digits-front zero n h
front (suc k) n z h = go (eqb (n % 10) 0) refl (front k (n / 10))
  where
    go : (b : Bool) → eqb (n % 10) 0 ≡ b → (0 < n / 10 → n / 10 < 10 ^ suc k → shortest (suc k) (n / 10) ≡ hex_digit_ascii (n / 10 / 10 ^ k) ∷ shortest k (n / 10 % 10 ^ k))
        → cond b (shortest (suc k) (n / 10)) (last_digits 10 (suc (suc k)) n) ≡ hex_digit_ascii (n / 10 ^ suc k) ∷ shortest (suc k) (n % 10 ^ suc k)
    go true e later =
        later (omega (arith, eqb-true (n % 10) 0 e)) (fewer (suc k) n h)
        ∙ (λ i. hex_digit_ascii (tens-div k n i) ∷ shortest k (sym (tens-mod k n) i))
        ∙ ap (λ (b : Bool). hex_digit_ascii (n / 10 ^ suc k) ∷ cond b (shortest k (n % 10 ^ suc k / 10)) (last_digits 10 (suc k) (n % 10 ^ suc k))) (sym (ap (λ (x : ℕ). eqb x 0) (last-mod k n) ∙ e))
    go false e later =
        digits-front (suc k) n h
        ∙ ap (λ (b : Bool). hex_digit_ascii (n / 10 ^ suc k) ∷ cond b (shortest k (n % 10 ^ suc k / 10)) (last_digits 10 (suc k) (n % 10 ^ suc k))) (sym (ap (λ (x : ℕ). eqb x 0) (last-mod k n) ∙ e))

-- so many millionths, of which the first digit is written: ten times the rest are left
pub shortest-first : (n : ℕ) → 0 < n → n < 1000000 → shortest 6 n ≡ (48 + n / 100000) ∷ shortest 6 (n % 100000 * 10)
unfolding shortest
shortest-first n z h =
    front 5 n z h
    ∙ (λ i. digit i ∷ shortest 5 (let e : n % 100000 ≡ n % 100000 * 10 / 10 = omega arith in e i))
    ∙ ap (λ (b : Bool). (48 + n / 100000) ∷ cond b (shortest 5 (n % 100000 * 10 / 10)) (last_digits 10 6 (n % 100000 * 10))) (sym (eq-eqb (n % 100000 * 10 % 10) 0 (omega arith)))
  where
    digit : hex_digit_ascii (n / 100000) ≡ 48 + n / 100000
    digit = ap (λ (b : Bool). cond b (48 + n / 100000) (87 + n / 100000)) (lt-ltb (n / 100000) 10 (omega arith))
