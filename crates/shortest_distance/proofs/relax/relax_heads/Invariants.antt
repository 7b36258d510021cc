use mathlib.Core.Path.{◌≡◌}
use Prim.Native.Nat.{◌-◌}
use Rattle.shortest_distance.specs.Relaxation.{relax_links, relax_heads}
use Rattle.shortest_distance.specs.Sound.{Sound}
use Rattle.shortest_distance.proofs.relax.relax_heads.Given as goal

abbrev pub invariant-loop-i : goal.invariant-loop-i
invariant-loop-i l = record {
  sound : Sound l.sheet.bytes.now l.sheet.links l.sheet.nodes l.work l.queue;
  relaxed : record { work = l.work; queue = l.queue } ≡ relax_links l.sheet.bytes.now l.first l.front l.d l.i (record { work = l.initial.work; queue = l.initial.queue });
}

abbrev pub invariant-loop-turn : goal.invariant-loop-turn
invariant-loop-turn l = record {
  sound : Sound l.sheet.bytes.now l.sheet.links l.sheet.nodes l.work l.queue;
  left : relax_heads l.sheet.bytes.now l.sheet.links (l.sheet.nodes - l.turn) (record { work = l.work; queue = l.queue }) ≡ relax_heads l.sheet.bytes.now l.sheet.links l.sheet.nodes (record { work = l.initial.work; queue = l.initial.queue });
}
