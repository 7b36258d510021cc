-- The numbers of the rows from a place on are 32-bit. Assumes nothing.
use mathlib.Core.Path.{◌≡◌}
use mathlib.Core.Bool.{Bool, true, false, cond}
use Rattle.std.proofs.Common.{None, Some}
use mathlib.Core.List.{List}
use Prim.Native.Nat.{ℕ}
use lib.ListN.{drop}
use Rattle.text_rows.specs.Fields.{rows_of}
use Rattle.text_rows.specs.Rows.{Row, all_rows}
use Rattle.row_reader.specs.Places.{finished, rows_left}
use Rattle.text_rows.proofs.RowFits.{AllFit, rows_fit}

pub left-fit : (text : List ℕ) (at : ℕ) (rs : List Row) → rows_left text at ≡ Some rs → AllFit rs
left-fit text at rs e = go (finished (drop at text)) e
  where
    go : (b : Bool) → cond b (all_rows (rows_of (drop at text))) None ≡ Some rs → AllFit rs
    go false e = absurd (cc)
    go true e = rows_fit (rows_of (drop at text)) rs e
