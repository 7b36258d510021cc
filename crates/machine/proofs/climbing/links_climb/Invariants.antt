use mathlib.Core.Path.{◌≡◌}
use mathlib.Core.Bool.{true}
use Rattle.sheet.specs.Below.{all_below}
use Rattle.machine.specs.Answers.{node_climbs}
use Rattle.machine.proofs.climbing.links_climb.Given as goal

abbrev pub invariant-loop-source : goal.invariant-loop-source
invariant-loop-source l =
    (l.source-iterator.sheet ≡ l.sheet) × (all_below l.source-iterator.node (node_climbs l.sheet.bytes.now l.sheet.links) ≡ true)
