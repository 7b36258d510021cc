use mathlib.Core.Path.{◌≡◌}
use lib.Seq.{sets}
use Rattle.sheet.specs.Below.{list_below}
use Rattle.sheet.specs.Machine.{machine}
use Rattle.link_pairs.proofs.LinkKeys.{key_at}
use Rattle.link_pairs.proofs.link_keys.put_link_keys.Given as goal

abbrev pub invariant-loop-source : goal.invariant-loop-source
invariant-loop-source l =
    let it = l.source-iterator in
    let s = l.fn.machine.sheet in
    (it.sheet ≡ s) × (l.keys ≡ sets l.fn.keys 0 (list_below it.first (key_at (machine s.bytes.now))))
