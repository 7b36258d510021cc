use mathlib.Core.Path.{◌∙◌}
use Rattle.sheet.proofs.AcceptedSheet.{bits-are}
use Rattle.sheet.proofs.accepted.Sheet.link_bits.Goals as goal

pub returns-clause-part : goal.returns-clause-part
returns-clause-part c =
    let s = c.args.self.now in
    c.word.ensures ∙ bits-are s.bytes.now s.links s.nodes s.start s.form s.accepted s.stated c.args.l c.requires
