-- A table of shifts is one where a test computed over its entries passes; then its rule holds. In any unit. Assumes nothing.
use Rattle.std.proofs.Common.{◌≡◌, ℕ, ◌%◌, ◌^◌, ◌<◌, ◌≤◌, Bool, ◌&&◌, T, eqb, List, length, get_or, sym, ap, ◌∙◌, arith, eqb→eq}
use lib.Ieee.Fits.{and_l, and_r}
use Rattle.tropical_weight.specs.Limits.{finest}
use Rattle.tropical_weight.specs.Grid.{grid_shift, significand, exponent_field, ShiftTable}
use Rattle.tropical_weight.proofs.Fields.{shift-tells}
use Rattle.tropical_weight.proofs.Table.{all_entries, entry-passes}

abbrev is_shift : ℕ → ℕ → ℕ → Bool
is_shift j e shift = eqb shift (grid_shift j e)

-- 256 entries, each the shift of its place
unfoldable pub are_shifts : ℕ → List ℕ → Bool
are_shifts j table = eqb (length table) 256 && all_entries (is_shift j) table

module _ (j : ℕ) (h : j ≤ finest) (table : List ℕ) (t : T (are_shifts j table)) where
  many : length table ≡ 256
  unfolding are_shifts
  many = eqb→eq (length table) 256 (and_l (eqb (length table) 256) (all_entries (is_shift j) table) t)

  shift-at : (e : ℕ) → e < 256 → get_or table e 0 ≡ grid_shift j e
  unfolding are_shifts
  shift-at e l = eqb→eq (get_or table e 0) (grid_shift j e) (entry-passes (is_shift j) table (and_r (eqb (length table) 256) (all_entries (is_shift j) table) t) e (omega (arith, many)))

  pub shift-table : ShiftTable j table
  shift-table = record {
    size = many;
    entries = shift-at;
    rule = λ bits r f.
        shift-tells j h bits r f
        ∙ ap (λ (shift : ℕ). eqb (significand (exponent_field bits) (bits % 2 ^ 23) % 2 ^ shift) 0) (sym (shift-at (exponent_field bits) (omega arith)));
  }
