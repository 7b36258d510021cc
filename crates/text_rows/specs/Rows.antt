-- What rows say. Definitions only.
use Rattle.std.specs.Prelude.{ℕ, ◌+◌, ◌*◌, ◌/◌, ◌%◌, ◌^◌, max, Bool, true, false, not, ◌&&◌, ◌||◌, cond, List, [], ◌∷◌, leb, eqb, ℤ, pos, negsuc, nat_abs, neg_ℤ, Option, None, Some}
use Rattle.tropical_weight.specs.Limits.{unit, weight_limit}
use Rattle.tropical_weight.specs.Tropical.{Tropical, fin, inf}
use Rattle.text_rows.specs.Fields.{Weight, finite, barred, million, and_then, rows_of, ended, fields_of, number_of, weight_of}

-- A link: source, next node, input label, output label and weight; or a final node and its weight.
pub data Row : Type 0 where
  link : ℕ → ℕ → ℕ → ℕ → Weight → Row
  final : ℕ → Weight → Row

-- ---- reading a row
abbrev pub link_by : Option ℕ → Option ℕ → Option ℕ → Option ℕ → Option Weight → Option Row
link_by s t i o w = and_then s (λ s'. and_then t (λ t'. and_then i (λ i'. and_then o (λ o'. and_then w (λ w'. Some (link s' t' i' o' w'))))))

abbrev pub final_by : Option ℕ → Option Weight → Option Row
final_by v w = and_then v (λ v'. and_then w (λ w'. Some (final v' w')))

-- an absent weight is 0
unfoldable pub row_by : List (List ℕ) → Option Row
unfolding number_of weight_of
row_by [] = None
row_by (v ∷ []) = final_by (number_of v) (Some (finite (pos 0)))
row_by (v ∷ w ∷ []) = final_by (number_of v) (weight_of w)
row_by (x ∷ y ∷ z ∷ []) = None
row_by (s ∷ t ∷ i ∷ o ∷ []) = link_by (number_of s) (number_of t) (number_of i) (number_of o) (Some (finite (pos 0)))
row_by (s ∷ t ∷ i ∷ o ∷ w ∷ []) = link_by (number_of s) (number_of t) (number_of i) (number_of o) (weight_of w)
row_by (s ∷ t ∷ i ∷ o ∷ w ∷ x ∷ xs) = None

abbrev pub row_of : List ℕ → Option Row
row_of row = row_by (fields_of row)

unfoldable pub all_rows : List (List ℕ) → Option (List Row)
unfolding fields_of row_by
all_rows [] = Some []
all_rows (x ∷ xs) = and_then (row_of x) (λ r. and_then (all_rows xs) (λ rs. Some (r ∷ rs)))

-- ---- no node has two final rows
abbrev pub is_final_of : ℕ → Row → Bool
is_final_of v (link s t i o w) = false
is_final_of v (final u w) = eqb u v

unfoldable pub any_final : ℕ → List Row → Bool
any_final v [] = false
any_final v (r ∷ rs) = is_final_of v r || any_final v rs

unfoldable pub finals_once : List Row → Bool
unfolding any_final
finals_once [] = true
finals_once (link s t i o w ∷ rs) = finals_once rs
finals_once (final v w ∷ rs) = not (any_final v rs) && finals_once rs

-- The rows of a text, or none: refusal 8.
unfoldable pub read_rows : List ℕ → Option (List Row)
unfolding rows_of ended all_rows finals_once
read_rows text = cond (ended text) (and_then (all_rows (rows_of text)) (λ rs. cond (finals_once rs) (Some rs) None)) None

-- ---- what rows name
abbrev pub first_node : List Row → ℕ
first_node [] = 0
first_node (link s t i o w ∷ rs) = s
first_node (final v w ∷ rs) = v

abbrev pub highest_in : Row → ℕ
highest_in (link s t i o w) = max s t
highest_in (final v w) = v

unfoldable pub highest : List Row → ℕ
highest [] = 0
highest (r ∷ rs) = max (highest_in r) (highest rs)

-- ---- weights
abbrev pub weight_in : Row → Weight
weight_in (link s t i o w) = w
weight_in (final v w) = w

-- a unit is a whole number of millionths
abbrev pub units_in_one : ℕ
units_in_one = 2 ^ unit

abbrev pub in_unit : ℕ
in_unit = million / units_in_one

-- so many millionths are a whole number of units within the limit
abbrev pub on_grid : ℤ → Bool
on_grid w = eqb (nat_abs w * units_in_one % million) 0 && leb (nat_abs w * units_in_one / million) weight_limit

-- how many units they are then
abbrev pub units_of : ℤ → ℤ
units_of (pos n) = pos (n * units_in_one / million)
units_of (negsuc n) = neg_ℤ (pos ((1 + n) * units_in_one / million))

-- refusal 4 does not cover a barred weight
abbrev pub weight_passes : Weight → Bool
weight_passes (finite w) = on_grid w
weight_passes barred = true

unfoldable pub weights_pass : List Row → Bool
weights_pass [] = true
weights_pass (r ∷ rs) = weight_passes (weight_in r) && weights_pass rs

-- what a weight that passes weighs
abbrev pub weighs : Weight → Tropical
weighs (finite w) = fin (units_of w)
weighs barred = inf
