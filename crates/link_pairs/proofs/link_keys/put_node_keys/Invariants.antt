use mathlib.Core.Path.{◌≡◌}
use lib.Seq.{sets}
use Rattle.sheet.specs.Below.{list_below}
use Rattle.link_pairs.specs.Found.{node_key}
use Rattle.link_pairs.proofs.link_keys.put_node_keys.Given as goal

abbrev pub invariant-loop-i : goal.invariant-loop-i
invariant-loop-i l = let s = l.source in l.keys ≡ sets l.fn.keys s.first (list_below l.i (node_key s.sheet.bytes.now s.node s.first))
