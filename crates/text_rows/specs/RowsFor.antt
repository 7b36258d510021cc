-- Serves the proofs: the rows of a sheet, as rows. A reader need not believe it: the text of the sheet is read as these (proofs/RowsBack). Definitions only.
use Rattle.std.specs.Prelude.{ℕ, suc, ◌+◌, ◌*◌, eqb, ℤ, pos, negsuc, neg_ℤ}
use Rattle.std.proofs.Math.Bool.{cond}
use mathlib.Core.List.{List, [], ◌∷◌, ◌++◌, flat_map}
use Rattle.std.specs.Float.{binary32}
use Rattle.std.specs.Float.Ieee.{of_bits}
use Rattle.tropical_weight.specs.Limits.{unit}
use Rattle.tropical_weight.specs.Grid as Grid
use Rattle.sheet.specs.Below.{sum_below, list_below}
use Rattle.sheet.specs.Sheet.{Parts, barred_bits, node_count, ilabel, olabel, link_bits, next, count, mark, final_bits}
use Rattle.text_rows.specs.Fields.{Weight, finite, barred}
use Rattle.text_rows.specs.Rows.{Row, link, final, in_unit}
use Rattle.text_rows.specs.Written.{first_of}

-- so many units in millionths
abbrev pub in_millionths : ℤ → ℤ
in_millionths (pos k) = pos (in_unit * k)
in_millionths (negsuc k) = neg_ℤ (pos (in_unit * suc k))

-- of a weight's field
unfoldable pub millionths : ℕ → ℤ
unfolding Grid.units_of of_bits
millionths bits = in_millionths (Grid.units_of unit (of_bits binary32 bits))

abbrev pub weight_for : ℕ → Weight
weight_for bits = cond (eqb bits barred_bits) barred (finite (millionths bits))

module _ (p : Parts) where
  -- link l of node v
  abbrev pub link_row_for : ℕ → ℕ → Row
  link_row_for v l = link v (next p l) (ilabel p l) (olabel p l) (weight_for (link_bits p l))

  abbrev pub final_row_for : ℕ → List Row
  final_row_for v = cond (eqb (mark p v) 0) [] (final v (weight_for (final_bits p v)) ∷ [])

  -- a node's links, then its final row
  unfoldable pub node_rows_for : ℕ → List Row
  unfolding millionths sum_below list_below flat_map
  node_rows_for v = flat_map (λ i. link_row_for v (first_of p v + i) ∷ []) (list_below (count p v) (λ i. i)) ++ final_row_for v

  -- the start's rows first, then by rising node
  unfoldable pub rows_for : List Row
  unfolding node_rows_for list_below flat_map
  rows_for = node_rows_for p.start ++ flat_map (λ v. cond (eqb v p.start) [] (node_rows_for v)) (list_below (node_count p) (λ v. v))
