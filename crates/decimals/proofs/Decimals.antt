-- The digits of a number: `decimal` has the fewest that hold it, from 1 to 10 for 32 bits. Assumes nothing.
use mathlib.Core.Path.{◌≡◌, refl, sym, ap, ◌∙◌, subst}
use mathlib.Core.Bool.{Bool, true, false}
use mathlib.Core.List.{[], ◌∷◌}
use Prim.Native.Nat.{ℕ, zero, suc, ◌+◌, ◌-◌, ◌*◌, ◌/◌, ◌%◌, ◌^◌, ◌≤◌, ◌<◌}
use native.Mathlib.Nat.{pow-succ', pow-le-pow_right, lt_of_not-le}
use native.Mathlib.Omega.{arith}
use borrow.Author.Tests.{ltb-true, ltb-false}
use lib.Dec.{ltb}
use lib.ListN.{length, length-append}
use Rattle.io.specs.Digits.{last_digits, hex_digit_ascii, IsDigitCount}
use Rattle.decimals.specs.Decimal.{places_by, places, decimal}

length_digits : (b k n : ℕ) → length (last_digits b k n) ≡ k
length_digits b zero n = refl
length_digits b (suc k) n = length-append (last_digits b k (n / b)) (hex_digit_ascii (n % b) ∷ []) ∙ (let e : length (last_digits b k (n / b)) + 1 ≡ suc k = omega (arith, length_digits b k (n / b)) in e)

-- ---- one count of digits is the fewest
-- a number that j digits hold has at most j
at_most : (n j k : ℕ) → 1 ≤ j → n < 10 ^ j → IsDigitCount 10 1 n k → k < suc j
at_most n j k one held f =
    lt_of_not-le (λ (more : suc j ≤ k). let l : 10 ^ (k - 1) ≤ n = f.2 (omega arith) in let m : 10 ^ j ≤ 10 ^ (k - 1) = pow-le-pow_right (omega arith) (omega arith) in omega arith)

fewest-one : (n j k : ℕ) → IsDigitCount 10 1 n j → IsDigitCount 10 1 n k → j ≡ k
fewest-one n j k f g = omega (arith, at_most n j k f.0 f.1 g, at_most n k j g.0 g.1 f)

-- ---- `places` counts the fewest
small-fewest : (n : ℕ) → n < 10 → IsDigitCount 10 1 n 1
small-fewest n h = (omega arith, h, λ (l : 1 < 1). absurd (omega arith))

lower : (n k : ℕ) → 10 ≤ n → 1 ≤ k → (1 < k → 10 ^ (k - 1) ≤ n / 10) → 10 ^ k ≤ n
lower n zero h l f = absurd (omega arith)
lower n (suc zero) h l f = h
lower n (suc (suc j)) h l f = subst (λ (x : ℕ). x ≤ n) (sym (pow-succ' 10 (suc j))) (ten (10 ^ suc j) (subst (λ (i : ℕ). 10 ^ i ≤ n / 10) (let e : suc (suc j) - 1 ≡ suc j = omega arith in e) (f (omega arith))))
  where
    ten : (p : ℕ) → p ≤ n / 10 → 10 * p ≤ n
    ten p g = omega arith

one_more : (n k : ℕ) → 10 ≤ n → IsDigitCount 10 1 (n / 10) k → IsDigitCount 10 1 n (suc k)
one_more n k h f = (
  omega arith,
  subst (λ (x : ℕ). n < x) (sym (pow-succ' 10 k)) (ten (10 ^ k) f.1),
  λ (l : 1 < suc k). subst (λ (i : ℕ). 10 ^ i ≤ n) (let e : k ≡ suc k - 1 = omega arith in e) (lower n k h f.0 f.2),
)
  where
    ten : (p : ℕ) → n / 10 < p → n < 10 * p
    ten p g = omega arith

by-fewest : (most : ℕ) (small : Bool) (n : ℕ) → ltb n 10 ≡ small → n ≤ most → IsDigitCount 10 1 n (places_by most small n)
unfolding places_by
by-fewest zero small n e h = small-fewest n (omega arith)
by-fewest (suc most) true n e h = small-fewest n (ltb-true n 10 e)
by-fewest (suc most) false n e h =
    let ten : 10 ≤ n = ltb-false n 10 e in
    one_more n (places_by most (ltb (n / 10) 10) (n / 10)) ten (by-fewest most (ltb (n / 10) 10) (n / 10) refl (omega arith))

places-fewest : (n : ℕ) → IsDigitCount 10 1 n (places n)
unfolding places
places-fewest n = by-fewest n (ltb n 10) n refl (omega arith)

-- ---- of the digits
pub decimal-is : (n k : ℕ) → IsDigitCount 10 1 n k → last_digits 10 k n ≡ decimal n
unfolding decimal
decimal-is n k f = ap (λ (j : ℕ). last_digits 10 j n) (fewest-one n k (places n) f (places-fewest n))

pub length-decimal : (n : ℕ) → n < 4294967296 → (1 ≤ length (decimal n)) × (length (decimal n) ≤ 10)
unfolding decimal
length-decimal n h =
    let l : length (last_digits 10 (places n) n) ≡ places n = length_digits 10 (places n) n in
    let f : IsDigitCount 10 1 n (places n) = places-fewest n in
    let m : places n < 11 = at_most n 10 (places n) (omega arith) (omega arith) f in
    (omega (arith, f.0), omega arith)
