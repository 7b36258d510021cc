use mathlib.Core.Path.{◌≡◌}
use lib.Seq.{sets}
use Rattle.sheet.specs.Words.{bytes_of_all}
use Rattle.shortest_distance.specs.NodeSlots.{distance_words}
use Rattle.shortest_distance.proofs.node_slots.put_distances.Given as goal

abbrev pub invariant-loop-v : goal.invariant-loop-v
invariant-loop-v l = l.res ≡ sets l.initial.res 0 (bytes_of_all (distance_words l.work l.v))
