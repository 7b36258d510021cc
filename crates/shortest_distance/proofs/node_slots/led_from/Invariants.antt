use mathlib.Core.Path.{◌≡◌}
use Rattle.shortest_distance.specs.NodeSlots.{led_from}
use Rattle.shortest_distance.proofs.node_slots.led_from.Given as goal

abbrev pub invariant-loop-i : goal.invariant-loop-i
invariant-loop-i l = l.top ≡ led_from l.source.sheet.bytes.now l.source.first l.i l.height
