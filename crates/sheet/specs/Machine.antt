-- Machines, and the machine of a sheet. Definitions only.
use Rattle.std.specs.Prelude.{ℕ, zero, suc, cond, eqb, get_or, replicate}
use Rattle.std.proofs.Math.Option.{Option, none, some}
use mathlib.Core.List.{List, [], ◌∷◌, ◌++◌, flat_map}
use Rattle.std.specs.Float.{binary32}
use Rattle.std.specs.Float.Ieee.{of_bits, to_bits}
use Rattle.tropical_weight.specs.Tropical.{Tropical, fin, inf}
use Rattle.tropical_weight.specs.Grid.{units_of, of_t}
use Rattle.sheet.specs.declared.form.Form.{Form}
use Rattle.sheet.specs.Below.{list_below}
use Rattle.sheet.specs.Sheet.{Parts, unit_of, no_start, barred_bits, link_count, node_count, ilabel, olabel, link_bits, next, count, mark, final_bits, parts_of}

-- A link leaves its source for its next node.
pub record Link : Type 0 where
  pub source : ℕ
  pub ilabel : ℕ
  pub olabel : ℕ
  pub weight : Tropical
  pub next : ℕ

-- A link's number is its place in `links`. `finals` has an element for each node: its final weight, or none. Weights are in the unit of the form.
pub record Machine : Type 0 where
  pub links : List Link
  pub finals : List (Option Tropical)
  pub start : Option ℕ
  pub form : Form

-- that unit is 1 / 2 ^ unit_in
abbrev pub unit_in : Machine → ℕ
unit_in m = unit_of m.form

-- ---- of a sheet
-- the weight of a field: infinity, or its units of 1 / 2 ^ j
abbrev pub weight_of : ℕ → ℕ → Tropical
weight_of j bits = cond (eqb bits barred_bits) inf (fin (units_of j (of_bits binary32 bits)))

-- the sources of the links of the nodes below n: a node's links follow those of the node before
unfoldable pub sources_below : Parts → ℕ → List ℕ
sources_below p zero = []
sources_below p (suc v) = sources_below p v ++ replicate (count p v) v

abbrev pub start_of : ℕ → Option ℕ
start_of start = cond (eqb start no_start) none (some start)

abbrev pub final_of : ℕ → ℕ → ℕ → Option Tropical
final_of j mark bits = cond (eqb mark 0) none (some (weight_of j bits))

-- link number l
abbrev pub link_of : Parts → ℕ → Link
link_of p l = record {
  source = get_or (sources_below p (node_count p)) l 0;
  ilabel = ilabel p l;
  olabel = olabel p l;
  weight = weight_of (unit_of p.form) (link_bits p l);
  next = next p l;
}

unfoldable pub machine_of : Parts → Machine
unfolding of_bits units_of list_below sources_below
machine_of p = record {
  links = list_below (link_count p) (link_of p);
  finals = list_below (node_count p) (λ v. final_of (unit_of p.form) (mark p v) (final_bits p v));
  start = start_of p.start;
  form = p.form;
}

-- the machine of a sheet's bytes
abbrev pub machine : List ℕ → Machine
machine bytes = machine_of (parts_of bytes)

-- ---- as a sheet
-- the field of a weight in units of 1 / 2 ^ j
abbrev pub bits_of : ℕ → Tropical → ℕ
bits_of j w = to_bits binary32 (of_t j w)

abbrev pub link_fields : ℕ → Link → List ℕ
link_fields j k = k.ilabel ∷ k.olabel ∷ bits_of j k.weight ∷ k.next ∷ []

-- how many links leave v
unfoldable pub leaving : List Link → ℕ → ℕ
leaving [] v = 0
leaving (k ∷ ks) v = cond (eqb k.source v) (suc (leaving ks v)) (leaving ks v)

-- the mark of a node, and its final weight's field
abbrev pub final_fields : ℕ → Option Tropical → List ℕ
final_fields j none = 0 ∷ 0 ∷ []
final_fields j (some w) = 1 ∷ bits_of j w ∷ []

-- the fields of the nodes from v on
unfoldable pub node_fields : ℕ → List Link → ℕ → List (Option Tropical) → List ℕ
unfolding leaving
node_fields j ks v [] = []
node_fields j ks v (f ∷ fs) = (leaving ks v ∷ final_fields j f) ++ node_fields j ks (suc v) fs

abbrev pub start_field : Option ℕ → ℕ
start_field none = no_start
start_field (some s) = s

-- a machine whose links stand by source, in the fields of a sheet
unfoldable pub parts_for : Machine → Parts
unfolding flat_map node_fields
parts_for m = record {
  links = flat_map (link_fields (unit_in m)) m.links;
  nodes = node_fields (unit_in m) m.links 0 m.finals;
  start = start_field m.start;
  form = m.form;
}
