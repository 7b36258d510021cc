use mathlib.Core.Path.{refl, ◌∙◌}
use Prim.Native.Nat.{◌*◌}
use lib.Seq.{sets}
use Rattle.sheet.specs.Words.{bytes_of_all}
use Rattle.distance.specs.Held.{words_in}
use Rattle.shortest_distance.specs.NodeSlots.{distance_words}
use Rattle.shortest_distance.proofs.Areas.{sets-distance}
use Rattle.shortest_distance.proofs.node_slots.put_distances.Goals as goal

pub loop-v-init : goal.loop-v-init
unfolding bytes_of_all distance_words
loop-v-init c = refl

pub loop-v-preserved : goal.loop-v-preserved
loop-v-preserved c =
    let turn = c.loop-v in
    c.write_distance.ensures ∙ (λ i. sets (turn.invariant i) (8 * turn.v) (bytes_of_all (words_in (c.distance_at-d.ensures i)))) ∙ sets-distance c.args.res.now c.args.work.now turn.v
