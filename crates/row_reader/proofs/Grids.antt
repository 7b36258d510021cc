-- Units of millionths that are held, and by their sign. Assumes nothing.
use mathlib.Core.Path.{◌≡◌, refl, sym, ap, ◌∙◌}
use mathlib.Core.Bool.{Bool, true, false, ◌&&◌, cond, and-false}
use Rattle.std.proofs.Common.{Option, None, Some}
use Prim.Native.Nat.{ℕ, zero, suc, ◌+◌, ◌*◌, ◌/◌, ◌%◌, ◌≤◌, ◌<◌, min}
use native.Mathlib.Omega.{arith}
use lib.Dec.{leb, eqb}
use lib.IntN.{pos, negsuc, neg_ℤ}
use borrow.Author.Tests.{eq-eqb, ne_eqb, le-leb, lt-leb, leb-true, leb-false}
use Rattle.std.specs.Option.{option_map}
use Rattle.tropical_weight.specs.Limits.{weight_limit}
use Rattle.text_rows.specs.Fields.{and_then}
use Rattle.text_rows.specs.Rows.{on_grid, units_of}
use Rattle.row_reader.specs.Reading.{most_millionths, millionths_held, units_read, signed_by, weight_by, decimal_read}
use Rattle.row_reader.specs.declared.values.Weight.{Weight}

-- past the limit there are no units
past-limit : (n : ℕ) → weight_limit < n * 64 / 1000000 → units_read n ≡ None
past-limit n h =
    ap (λ (b : Bool). cond (eqb (n * 64 % 1000000) 0 && b) (Some (n * 64 / 1000000)) None) (lt-leb _ _ h)
    ∙ ap (λ (b : Bool). cond b (Some (n * 64 / 1000000)) None) (and-false (eqb (n * 64 % 1000000) 0))

-- so many ones and millionths, by the millionths alone
module _ (w m : ℕ) where
  rem_is : (w * 1000000 + m) * 64 % 1000000 ≡ m * 64 % 1000000
  rem_is = omega arith

  div_is : (w * 1000000 + m) * 64 / 1000000 ≡ w * 64 + m * 64 / 1000000
  div_is = omega arith

  pub parts-rem : (m * 64 % 1000000 ≡ 0 → ⊥) → units_read (w * 1000000 + m) ≡ None
  parts-rem h = ap (λ (b : Bool). cond (b && leb ((w * 1000000 + m) * 64 / 1000000) weight_limit) (Some ((w * 1000000 + m) * 64 / 1000000)) None) (ne_eqb _ _ (λ e. h (sym rem_is ∙ e)))

  pub parts-limit : weight_limit < w * 64 + m * 64 / 1000000 → units_read (w * 1000000 + m) ≡ None
  parts-limit h = past-limit (w * 1000000 + m) (omega (arith, div_is))

  pub parts_within : m * 64 % 1000000 ≡ 0 → w * 64 + m * 64 / 1000000 ≤ weight_limit → units_read (w * 1000000 + m) ≡ Some (w * 64 + m * 64 / 1000000)
  parts_within h l =
      (λ i. cond (eq-eqb ((w * 1000000 + m) * 64 % 1000000) 0 (rem_is ∙ h) i && le-leb ((w * 1000000 + m) * 64 / 1000000) weight_limit (omega (arith, div_is)) i) (Some ((w * 1000000 + m) * 64 / 1000000)) None)
      ∙ ap Some div_is

-- millionths that are held have the units of those themselves
held-units : (n : ℕ) → units_read (min n most_millionths) ≡ units_read n
held-units n = go (leb n most_millionths) refl
  where
    go : (b : Bool) → leb n most_millionths ≡ b → units_read (min n most_millionths) ≡ units_read n
    go true e = let h = leb-true n most_millionths e in ap units_read (let z : min n most_millionths ≡ n = omega arith in z)
    go false e =
        let h = leb-false n most_millionths e in
        past-limit (min n most_millionths) (omega arith) ∙ sym (past-limit n (omega arith))

-- the units by their sign are those of the signed number
by-sign : (minus : Bool) (n : ℕ) → weight_by minus (units_read n) ≡ decimal_read (signed_by minus n)
by-sign false n = go (on_grid (pos n))
  where
    go : (b : Bool) → weight_by false (cond b (Some (n * 64 / 1000000)) None) ≡ cond b (Weight.Units (pos (n * 64 / 1000000))) Weight.Off
    go true = refl
    go false = refl
by-sign true zero = refl
by-sign true (suc n) = go (on_grid (negsuc n))
  where
    go : (b : Bool) → weight_by true (cond b (Some (suc n * 64 / 1000000)) None) ≡ cond b (Weight.Units (units_of (negsuc n))) Weight.Off
    go true = ap (λ (k : ℕ). Weight.Units (neg_ℤ (pos (k * 64 / 1000000)))) (let z : suc n ≡ 1 + n = omega arith in z)
    go false = refl

-- ---- a number of millionths, by its sign
module _ (minus : Bool) where
  pub signed-none : (o : Option ℕ) → millionths_held o ≡ None → option_map decimal_read (and_then o (λ n. Some (signed_by minus n))) ≡ None
  signed-none None e = refl
  signed-none (Some n) e = absurd (cc)

  pub signed_is : (o : Option ℕ) (m : ℕ) → millionths_held o ≡ Some m → option_map decimal_read (and_then o (λ n. Some (signed_by minus n))) ≡ Some (weight_by minus (units_read m))
  signed_is None m e = absurd (cc)
  signed_is (Some n) m e =
      let z : min n most_millionths ≡ m = cc in
      ap Some (sym (by-sign minus n) ∙ ap (weight_by minus) (sym (held-units n) ∙ ap units_read z))
