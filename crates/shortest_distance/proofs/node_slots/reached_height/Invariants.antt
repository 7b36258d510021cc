use mathlib.Core.Path.{◌≡◌}
use Rattle.shortest_distance.specs.NodeSlots.{height_in}
use Rattle.shortest_distance.proofs.node_slots.reached_height.Given as goal

abbrev pub invariant-loop-v : goal.invariant-loop-v
invariant-loop-v l = height_in l.work l.nodes ≡ height_in l.work l.v
