-- The machine that rows say. Definitions only.
use Rattle.std.specs.Prelude.{ℕ, cond, eqb}
use Rattle.std.proofs.Math.Option.{Option, none, some}
use mathlib.Core.List.{List, [], ◌∷◌, flat_map}
use Rattle.tropical_weight.specs.Tropical.{Tropical}
use Rattle.sheet.specs.declared.form.Form.{Form}
use Rattle.sheet.specs.Below.{list_below}
use Rattle.sheet.specs.Machine.{Link, Machine}
use Rattle.text_rows.specs.Rows.{Row, link, final, first_node, highest, weighs}
use Rattle.text_rows.specs.Convert.{nodes_in}

-- the link of a row, where it leaves v
abbrev pub link_in : ℕ → Row → List Link
link_in v (link s t i o w) = cond (eqb s v) (record { source = s; ilabel = i; olabel = o; weight = weighs w; next = t } ∷ []) []
link_in v (final u w) = []

-- the final weight of v, by its final row
unfoldable pub final_in : ℕ → List Row → Option Tropical
final_in v [] = none
final_in v (link s t i o w ∷ rs) = final_in v rs
final_in v (final u w ∷ rs) = cond (eqb u v) (some (weighs w)) (final_in v rs)

-- nodes run to the highest number named, a node's links stand in row order, the first row's first node is the start, and weights are in 64ths, by the shorter trailer
unfoldable pub machine_of_rows : List Row → Machine
unfolding highest flat_map list_below final_in
machine_of_rows rs = record {
  links = flat_map (λ v. flat_map (link_in v) rs) (list_below (nodes_in rs) (λ v. v));
  finals = list_below (nodes_in rs) (λ v. final_in v rs);
  start = some (first_node rs);
  form = Form.Short;
}
