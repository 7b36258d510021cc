-- Mirrors the code: one offer of a distance, in single precision. A reader need not believe it: laws tie it to Distance of crate machine (proofs/Offers).
-- Definitions only.
use Rattle.std.specs.Prelude.{Bool, not, ◌&&◌, cond, Float, Some}
use Rattle.std.specs.Float.{binary32}
use Rattle.std.specs.Float.Ieee.{add, lt}
use Rattle.distance.specs.Held.{Distance, weight_in, reached_in}

-- whether the offer from a node at a distance over a weight is less than the node's own; infinity never is
abbrev pub improves : Distance → Float → Float → Bool
improves old distance weight = lt (add binary32 distance weight) (weight_in old)

-- the distance after the offer
abbrev pub relaxed_by : Distance → Float → Float → Distance
relaxed_by old distance weight = cond (improves old distance weight) (Some (add binary32 distance weight)) old

-- whether the offer is the first that it takes
abbrev pub reaches : Distance → Float → Float → Bool
reaches old distance weight = not (reached_in old) && improves old distance weight
