-- Mohri's distance, the least total, relaxation, and the distances that are written. Definitions only.
use Rattle.std.specs.Prelude.{Bool, false, ◌&&◌, ◌||◌, cond, List, [], ◌∷◌, map, ℕ, zero, suc, eqb, get_or, length, set, replicate, ℤ, pos}
use Rattle.std.proofs.Math.Option.{Option, none, some}
use Rattle.tropical_weight.specs.Tropical.{Tropical, fin, inf, lt_t, ◌⊕◌, ◌⊗◌}
use Rattle.sheet.specs.Below.{list_below}
use Rattle.sheet.specs.Machine.{Link, Machine}
use Rattle.machine.specs.Readings.{link, final, final_weight, run_cost, ways, ways_to}

-- A distance: reached, with its cost in units, or unreached.
pub data Distance : Type 0 where
  reached : ℤ → Distance
  unreached : Distance

-- what it adds to a sum: infinity where it is unreached
abbrev pub as_weight : Distance → Tropical
as_weight (reached k) = fin k
as_weight unreached = inf

-- the distance of that weight
abbrev pub distance_of : Tropical → Distance
distance_of (fin k) = reached k
distance_of inf = unreached

-- ⊕ along a list
unfoldable pub plus_all : List Tropical → Tropical
plus_all [] = inf
plus_all (a ∷ l) = a ⊕ plus_all l

-- Mohri's distance of v: ⊕, over the runs from the start to v, of their ⊗
unfoldable pub dist : Machine → ℕ → Tropical
unfolding ways run_cost plus_all
dist m v = plus_all (map (run_cost m) (ways_to m v))

-- the same named: reached at that cost, or unreached
abbrev pub distance : Machine → ℕ → Distance
distance m v = distance_of (dist m v)

-- the least cost of a run from the start that ends in link l
abbrev pub via : Machine → ℕ → Tropical
via m l = dist m (link m l).source ⊗ (link m l).weight

-- the least cost of a reading that ends at v
abbrev pub total_at : Machine → ℕ → Tropical
total_at m v = dist m v ⊗ final_weight (final m v)

-- the least total: ⊕ over the final nodes
unfoldable pub total : Machine → Tropical
unfolding plus_all dist list_below
total m = plus_all (list_below (length m.finals) (total_at m))

-- ---- relaxation: a row of distances, one a node, and the links in sheet order
-- the nearer of two
abbrev pub nearer : Distance → Distance → Distance
nearer a b = distance_of (as_weight a ⊕ as_weight b)

-- on from a distance over a weight
abbrev pub onward : Distance → Tropical → Distance
onward d w = distance_of (as_weight d ⊗ w)

-- the row before the first link: the start reached at 0, the others unreached
abbrev pub start_row : Option ℕ → ℕ → List Distance
start_row none n = replicate n unreached
start_row (some s) n = set (replicate n unreached) s (reached (pos 0))

-- the row r after link k
abbrev pub relaxed : Link → List Distance → List Distance
relaxed k r = set r k.next (nearer (get_or r k.next unreached) (onward (get_or r k.source unreached) k.weight))

-- the row after the first l links
unfoldable pub relax : Machine → ℕ → List Distance
relax m zero = start_row m.start (length m.finals)
relax m (suc l) = relaxed (link m l) (relax m l)

-- ---- which nodes are reached, and which are led to
-- a barred link reaches nothing: a node is reached where its distance is finite
abbrev pub is_reached : Machine → ℕ → Bool
is_reached m v = lt_t (dist m v) inf

-- whether one of the first l links, barred or not, leads to v from a reached node
unfoldable pub is_led_to : Machine → ℕ → ℕ → Bool
unfolding dist
is_led_to m zero v = false
is_led_to m (suc l) v = is_led_to m l v || (eqb (link m l).next v && is_reached m (link m l).source)

-- whether v counts in the length of the distances: it is reached, or led to from a reached node
abbrev pub is_counted : Machine → ℕ → Bool
is_counted m v = is_reached m v || is_led_to m (length m.links) v

-- one more than the highest such node below n, or 0
unfoldable pub height_below : Machine → ℕ → ℕ
unfolding dist is_led_to
height_below m zero = 0
height_below m (suc v) = cond (is_counted m v) (suc v) (height_below m v)

-- how many distances are written
abbrev pub height : Machine → ℕ
height m = height_below m (length m.finals)

-- one distance per node up to the highest reached, or led to from a reached one; no start gives none
unfoldable pub distances : Machine → List Distance
unfolding dist height_below list_below
distances m = list_below (height m) (distance m)
