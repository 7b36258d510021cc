use mathlib.Core.Path.{◌≡◌}
use Rattle.shortest_distance.specs.NodeSlots.{prepared}
use Rattle.shortest_distance.proofs.node_slots.prepare.Given as goal

abbrev pub invariant-loop-source : goal.invariant-loop-source
invariant-loop-source l = record {
  same : l.source-iterator.sheet ≡ l.sheet;
  set-up : l.work ≡ prepared l.sheet.bytes.now l.sheet.links l.source-iterator.node l.initial.work;
}
