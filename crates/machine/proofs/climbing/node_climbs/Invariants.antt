use mathlib.Core.Path.{◌≡◌}
use mathlib.Core.Bool.{Bool, true}
use mathlib.Core.List.{List}
use Prim.Native.Nat.{ℕ, ◌+◌, ◌*◌}
use lib.Dec.{ltb}
use Rattle.sheet.specs.Below.{all_below}
use Rattle.sheet.specs.Words.{word}
use Rattle.sheet.specs.Sheet.{link_length}
use Rattle.machine.proofs.climbing.node_climbs.Given as goal

-- whether link i of a node leads higher
abbrev pub climbs : List ℕ → ℕ → ℕ → ℕ → Bool
climbs bytes first v i = ltb v (word bytes (link_length * (first + i) + 12))

abbrev pub invariant-loop-i : goal.invariant-loop-i
invariant-loop-i l = all_below l.i (climbs l.source.sheet.bytes.now l.source.first l.source.node) ≡ true
