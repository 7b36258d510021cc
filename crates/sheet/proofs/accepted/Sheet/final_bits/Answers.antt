use mathlib.Core.Path.{◌≡◌, sym, ◌∙◌}
use borrow.Author.Rules.{rules}
use Rattle.std.proofs.Common.{Option, None, Some}
use Prim.Native.Nat.{ℕ}
use Rattle.sheet.specs.Records.{mark_at}
use Rattle.sheet.specs.Accepted.{ending_at}
use Rattle.sheet.proofs.NodeSources.{absent-zero, ending-is}
use Rattle.sheet.proofs.accepted.Sheet.final_bits.Goals as goal

pub returns-then-node_field-eq0-clause-part : goal.returns-then-node_field-eq0-clause-part
returns-then-node_field-eq0-clause-part c =
    let s = c.args.self.now in
    let told : ◌≡◌ {A = Option ℕ} None (ending_at s.bytes.now s.links c.args.v) = search rules in
    told ∙ ending-is s.bytes.now s.links s.nodes s.start s.form s.accepted s.stated c.args.v c.requires

pub returns-then-node_field-eq0-clause-bits : goal.returns-then-node_field-eq0-clause-bits
returns-then-node_field-eq0-clause-bits c =
    let s = c.args.self.now in
    let none : mark_at s.bytes.now s.links c.args.v ≡ 0 = search rules in
    sym (absent-zero s.bytes.now s.links s.nodes s.start s.form s.accepted s.stated c.args.v c.requires none)

pub returns-clause-part : goal.returns-clause-part
returns-clause-part c =
    let s = c.args.self.now in
    let told : ◌≡◌ {A = Option ℕ} (Some c.node_field-2.result) (ending_at s.bytes.now s.links c.args.v) = search rules in
    told ∙ ending-is s.bytes.now s.links s.nodes s.start s.form s.accepted s.stated c.args.v c.requires
