use Rattle.reversed_machine.proofs.Passing.{passes-made}
use Rattle.reversed_machine.proofs.reverse.reverse.Goals as goal

pub returns : goal.returns
returns c =
    let args = c.args in
    let sheet = args.counted.now.machine.sheet in
    passes-made sheet.bytes.now args.heads args.chains sheet.nodes sheet.links args.part.now _ _ _ _ _ c.clear_heads.ensures c.reverse_links.ensures c.reverse_finals.ensures c.least_total.ensures c.put_distance.ensures
