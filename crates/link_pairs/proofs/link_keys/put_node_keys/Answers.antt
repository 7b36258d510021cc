use mathlib.Core.Path.{refl, ◌∙◌}
use Prim.Native.Nat.{◌+◌}
use lib.ListN.{set}
use Rattle.sheet.specs.Below.{list_below}
use Rattle.link_pairs.specs.Found.{node_key}
use Rattle.link_pairs.proofs.Storing.{sets_below}
use Rattle.link_pairs.proofs.link_keys.put_node_keys.Goals as goal

pub loop-i-init : goal.loop-i-init
unfolding list_below
loop-i-init c = refl

pub loop-i-preserved : goal.loop-i-preserved
loop-i-preserved c =
    let turn = c.loop-i in
    let s = c.args.source.now in
    (λ j. set (turn.invariant j) (s.first + turn.i) (c.key_of.ensures j)) ∙ sets_below c.args.keys.now s.first turn.i (node_key s.sheet.bytes.now s.node s.first)
