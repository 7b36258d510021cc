use mathlib.Core.Path.{◌≡◌}
use Prim.Native.Nat.{◌+◌}
use Rattle.std.specs.Iterator.Adapters.{take_count, take_source}
use Rattle.shortest_distance.specs.NodeSlots.{led_height}
use Rattle.shortest_distance.proofs.node_slots.led_height.Given as goal

abbrev pub invariant-loop-source : goal.invariant-loop-source
invariant-loop-source l = record {
  same : (take_source l.source-iterator).sheet ≡ l.sheet;
  upto : take_count l.source-iterator + (take_source l.source-iterator).node ≡ l.reached;
  raised : l.top ≡ led_height l.sheet.bytes.now l.sheet.links l.work (take_source l.source-iterator).node l.reached;
}
