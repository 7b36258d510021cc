-- Mirrors the code: distances in single precision, and the two words that hold one. A reader need not believe it: laws tie it to Distance of crate machine and to Written
-- (proofs/Words). Definitions only.
use Rattle.std.specs.Prelude.{Bool, false, cond, List, [], ◌∷◌, ℕ, ◌+◌, eqb, Float, Option, Some, None, is_some, get_or, set}
use Rattle.std.specs.Float.Ieee as Ieee
use Rattle.std.specs.Float.{binary32}
use Rattle.std.specs.Float.Ieee.{add, lt, of_bits, to_bits}
use Rattle.tropical_weight.specs.Grid.{of_k}
use Rattle.machine.specs.Distance as Named

-- a distance in single precision: the cost where the node is reached, else none
abbrev pub Distance : Type 0
Distance = Option Float

-- that of a distance of the definitions, in units of 1 / 2 ^ j
abbrev pub held : ℕ → Named.Distance → Distance
held j (Named.reached k) = Some (of_k j k)
held j Named.unreached = None

-- what it adds to a sum
abbrev pub weight_in : Distance → Float
weight_in (Some cost) = cost
weight_in None = Ieee.inf false

-- the total of a final node: the sum of its distance and the final weight of these bits
abbrev pub total_in : Distance → ℕ → Float
total_in d bits = add binary32 (weight_in d) (of_bits binary32 bits)

-- reached at a weight below infinity, else unreached
abbrev pub distance_from : Float → Distance
distance_from w = cond (lt w (Ieee.inf false)) (Some w) None

abbrev pub reached_in : Distance → Bool
reached_in d = is_some d

-- ---- its two words
abbrev pub mark_in : Distance → ℕ
mark_in (Some cost) = 1
mark_in None = 0

abbrev pub bits_in : Distance → ℕ
bits_in (Some cost) = to_bits binary32 cost
bits_in None = 0

abbrev pub words_in : Distance → List ℕ
words_in d = mark_in d ∷ bits_in d ∷ []

-- the distance that they hold from `at` on
unfoldable pub distance_in : List ℕ → ℕ → Distance
distance_in work at = let cost = of_bits binary32 (get_or work (at + 1) 0) in cond (eqb (get_or work at 0) 0) None (Some cost)

-- the area with one stored there
abbrev pub with_distance : List ℕ → ℕ → Distance → List ℕ
with_distance work at d = set (set work at (mark_in d)) (at + 1) (bits_in d)
