use Rattle.reversed_machine.proofs.Keeping.{measured-in, slots-fit}
use Rattle.sheet.specs.Accepted.{trailer_in}
use Rattle.reversed_machine.proofs.reverse.measure.Goals as goal

pub returns : goal.returns
returns c =
    let args = c.args in
    let sheet = args.machine.now.sheet in
    measured-in sheet.bytes.now args.heads args.part.now _ (slots-fit sheet.bytes.now (trailer_in sheet.links sheet.nodes sheet.start sheet.form) sheet.stated args.heads args.part.now c.requires) c.make.ensures
