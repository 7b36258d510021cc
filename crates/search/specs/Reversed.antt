-- The reversed machine of document 01, and the distances that ranks are made of. Definitions only.
use Rattle.std.specs.Prelude.{Bool, false, cond, List, [], ◌∷◌, ℕ, zero, suc, eqb}
use Rattle.std.proofs.Math.Option.{Option, none, some}
use Rattle.tropical_weight.specs.Tropical.{Tropical}
use Rattle.sheet.specs.Machine.{Link, Machine}
use Rattle.machine.specs.Readings.{is_at}
use Rattle.machine.specs.Distance.{Distance, distance_of, distance, total}

-- A link of the reversed machine: the number of the input link that it repeats, or none, its weight, and the node it leads to.
pub record Back : Type 0 where
  pub input : Option ℕ
  pub weight : Tropical
  pub next : ℕ

-- Node i becomes i + 1.
pub record Reversed : Type 0 where
  -- the links out of a node, in their order
  pub out : ℕ → List Back
  -- whether a node is the old start, which is final with 0
  pub ends : ℕ → Bool
  -- the old node's distance; for node 0 the least total
  pub to_go : ℕ → Distance

-- out of node 0: a link to each final node from v on, in node order, with its final weight
unfoldable pub out_of_zero : List (Option Tropical) → ℕ → List Back
out_of_zero [] v = []
out_of_zero (none ∷ fs) v = out_of_zero fs (suc v)
out_of_zero (some w ∷ fs) v = record { input = none; weight = w; next = suc v } ∷ out_of_zero fs (suc v)

-- out of v + 1: the links into v, from number l on; the list has them by source, then position
unfoldable pub links_into : ℕ → List Link → ℕ → List Back
links_into v [] l = []
links_into v (k ∷ ks) l = cond (eqb k.next v) (record { input = some l; weight = k.weight; next = suc k.source } ∷ links_into v ks (suc l)) (links_into v ks (suc l))

abbrev pub out_of : Machine → ℕ → List Back
out_of m zero = out_of_zero m.finals 0
out_of m (suc v) = links_into v m.links 0

abbrev pub is_end : Machine → ℕ → Bool
is_end m zero = false
is_end m (suc v) = is_at m.start v

abbrev pub distance_to : Machine → ℕ → Distance
distance_to m zero = distance_of (total m)
distance_to m (suc v) = distance m v

abbrev pub reversed : Machine → Reversed
reversed m = record { out = out_of m; ends = is_end m; to_go = distance_to m }
