-- Sums of one cost from each of two lists. Definitions only.
use Rattle.std.specs.Prelude.{ℕ, List, [], ◌∷◌, ◌++◌, map, take}
use Rattle.tropical_weight.specs.Tropical.{Tropical, ◌⊗◌}
use Rattle.machine.specs.Demand.{sort}

-- every sum of a cost of the first list and one of the second
unfoldable pub sums : List Tropical → List Tropical → List Tropical
sums [] ys = []
sums (x ∷ xs) ys = map (λ y. x ⊗ y) ys ++ sums xs ys

-- the n least of them, or all where there are fewer
unfoldable pub least_sums : ℕ → List Tropical → List Tropical → List Tropical
unfolding sums sort
least_sums n xs ys = take n (sort (sums xs ys))
