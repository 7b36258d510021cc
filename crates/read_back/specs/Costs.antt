-- Mirrors the code: the cost of a run in f32, and the node where it ends, by the words of a sheet. A reader need not believe it: laws tie it to Readings of crate machine (proofs/RunCosts).
-- Definitions only.
use Rattle.std.specs.Prelude.{List, map, ℕ, ◌+◌, ◌*◌, Float}
use Rattle.std.specs.Float.{binary32}
use Rattle.std.specs.Float.Ieee.{of_bits}
use Rattle.tropical_weight.specs.Tropical.{one}
use Rattle.tropical_weight.specs.Grid.{of_t}
use Rattle.tropical_weight.specs.Single.{add_all}
use Rattle.sheet.specs.Words.{word_length, word}
use Rattle.sheet.specs.Sheet.{link_length}

-- the weight of link l
abbrev pub weight_at : List ℕ → ℕ → Float
weight_at bytes l = of_bits binary32 (word bytes (link_length * l + 2 * word_length))

-- the sum of a run's weights, from its front onto 0, which is the same in every unit
abbrev pub run_sum : List ℕ → List ℕ → Float
run_sum bytes run = add_all (of_t 0 one) (map (weight_at bytes) run)
