-- How many digits numbers and parts of 1 have at the most. Assumes nothing.
use mathlib.Core.Path.{◌≡◌, refl}
use mathlib.Core.Bool.{Bool, true, false, cond}
use Prim.Native.Nat.{ℕ, zero, suc, ◌/◌, ◌%◌, ◌^◌, ◌≤◌, ◌<◌}
use native.Mathlib.Nat.{pow-suc}
use native.Mathlib.Omega.{arith}
use lib.Dec.{ltb, eqb}
use lib.ListN.{length}
use borrow.Author.Tests.{ltb-false}
use Rattle.tropical_weight.specs.Limits.{weight_limit}
use Rattle.io.specs.Digits.{last_digits}
use Rattle.decimals.specs.Decimal.{places_by, decimal}
use Rattle.text_rows.specs.Fields.{infinity_text}
use Rattle.text_rows.specs.Rows.{units_in_one}
use Rattle.text_rows.specs.Written.{shortest}
use Rattle.text_rows.proofs.Texts.{length_digits}
use Rattle.row_writer.specs.Room.{ones_most, units_most}

places-most : (most : ℕ) (small : Bool) (n j : ℕ) → ltb n 10 ≡ small → 1 ≤ j → n < 10 ^ j → places_by most small n ≤ j
unfolding places_by
places-most zero small n j e l h = l
places-most (suc most) true n j e l h = l
places-most (suc most) false n zero e l h = absurd (omega arith)
places-most (suc most) false n (suc zero) e l h = absurd (omega (arith, ltb-false n 10 e))
places-most (suc most) false n (suc (suc i)) e l h = omega (arith, places-most most (ltb (n / 10) 10) (n / 10) (suc i) refl (omega arith) (omega (arith, h, pow-suc 10 (suc i))))

decimal-most : (n j : ℕ) → 1 ≤ j → n < 10 ^ j → length (decimal n) ≤ j
unfolding decimal
decimal-most n j l h = omega (arith, length_digits (places_by n (ltb n 10) n) n, places-most n (ltb n 10) n j refl l h)

pub shortest-most : (k n : ℕ) → length (shortest k n) ≤ k
unfolding shortest
shortest-most zero n = omega arith
shortest-most (suc k) n = go (eqb (n % 10) 0) (shortest-most k (n / 10))
  where
    go : (b : Bool) → length (shortest k (n / 10)) ≤ k → length (cond b (shortest k (n / 10)) (last_digits 10 (suc k) n)) ≤ suc k
    go true h = omega arith
    go false h = omega (arith, length_digits (suc k) n)

-- a weight's digits before its point
pub ones-most : (k : ℕ) → k ≤ weight_limit → length (decimal (k / units_in_one)) ≤ ones_most
ones-most k h = decimal-most (k / units_in_one) ones_most (omega arith) (omega arith)

-- infinity has room where a weight has
pub infinity-most : length infinity_text ≤ units_most
unfolding infinity_text
infinity-most = omega arith
