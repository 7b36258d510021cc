use mathlib.Core.Path.{◌∙◌}
use native.Mathlib.Omega.{arith}
use Rattle.sheet.proofs.AcceptedSheet.{next-is, next-below}
use Rattle.sheet.proofs.accepted.Sheet.next.Goals as goal

pub returns-clause-part : goal.returns-clause-part
returns-clause-part c =
    let s = c.args.self.now in
    c.word.ensures ∙ next-is s.bytes.now s.links s.nodes s.start s.form s.accepted s.stated c.args.l c.requires

pub returns-clause-below : goal.returns-clause-below
returns-clause-below c =
    let s = c.args.self.now in
    omega (arith, c.word.ensures, next-below s.bytes.now s.links s.nodes s.start s.form s.accepted s.stated c.args.l c.requires)
