-- The machine of what two machines of one unit both allow. Definitions only.
use Rattle.std.specs.Prelude.{Bool, ◌&&◌, cond, ℕ, ◌+◌, ◌*◌, ◌/◌, ◌%◌, eqb, length}
use Rattle.std.proofs.Math.Option.{Option, none, some}
use mathlib.Core.List.{List, [], ◌∷◌, map}
use Rattle.tropical_weight.specs.Tropical.{Tropical, ◌⊗◌}
use Rattle.sheet.specs.Below.{list_below}
use Rattle.sheet.specs.Machine.{Link, Machine}
use Rattle.machine.specs.Readings.{link, final}
use Rattle.product.specs.Joins.{join_below}

-- the number of a link of the first machine, and of one of the second
pub record Pair : Type 0 where
  pub first : ℕ
  pub second : ℕ

abbrev pub nodes : Machine → ℕ
nodes m = length m.finals

-- final if both are, and the weights add
abbrev pub final_for : Option Tropical → Option Tropical → Option Tropical
final_for (some w) (some x) = some (w ⊗ x)
final_for (some w) none = none
final_for none f = none

module _ (a b : Machine) where
  -- the node for i and j
  abbrev pub node_for : ℕ → ℕ → ℕ
  node_for i j = i * nodes b + j

  -- the node that links l and k leave
  abbrev pub source_for : ℕ → ℕ → ℕ
  source_for l k = node_for (link a l).source (link b k).source

  -- whether l and k make a link out of node v: they leave it, and have the same label
  abbrev pub meet : ℕ → ℕ → ℕ → Bool
  meet v l k = eqb (source_for l k) v && eqb (link a l).ilabel (link b k).ilabel

  abbrev pub pair_if : ℕ → ℕ → ℕ → List Pair
  pair_if v l k = cond (meet v l k) (record { first = l; second = k } ∷ []) []

  -- the pairs of links with the same label, node by node: by the first's link, then the second's
  unfoldable pub pairs : List Pair
  unfolding join_below
  pairs = join_below (nodes a * nodes b) (λ v. join_below (length a.links) (λ l. join_below (length b.links) (λ k. pair_if v l k)))

  -- the link of a pair
  abbrev pub link_for : Pair → Link
  link_for p =
      let l = link a p.first in
      let k = link b p.second in
      record {
        source = node_for l.source k.source;
        ilabel = l.ilabel;
        olabel = l.olabel;
        weight = l.weight ⊗ k.weight;
        next = node_for l.next k.next;
      }

  -- absent if either is
  abbrev pub start_for : Option ℕ → Option ℕ → Option ℕ
  start_for (some s) (some t) = some (node_for s t)
  start_for (some s) none = none
  start_for none t = none

  -- it keeps the form of the first
  unfoldable pub product : Machine
  unfolding pairs list_below
  product = record {
    links = map link_for pairs;
    finals = list_below (nodes a * nodes b) (λ v. final_for (final a (v / nodes b)) (final b (v % nodes b)));
    start = start_for a.start b.start;
    form = a.form;
  }
