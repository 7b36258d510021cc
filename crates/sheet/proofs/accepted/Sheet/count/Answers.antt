use mathlib.Core.Path.{◌≡◌, ap, ◌∙◌}
use Prim.Native.Nat.{◌+◌, ◌*◌}
use native.Mathlib.Omega.{arith}
use Rattle.sheet.specs.Words.{word}
use Rattle.sheet.proofs.AcceptedSheet.{count-is}
use Rattle.sheet.specs.Sheet.{link_length, node_length}
use Rattle.sheet.proofs.accepted.Sheet.count.Goals as goal

pub returns-clause-part : goal.returns-clause-part
returns-clause-part c =
    let s = c.args.self.now in
    let place : link_length * s.links + node_length * c.args.v + 0 ≡ link_length * s.links + node_length * c.args.v = omega arith in
    c.node_field.ensures ∙ ap (word s.bytes.now) place ∙ count-is s.bytes.now s.links s.nodes s.start s.form s.accepted s.stated c.args.v c.requires
