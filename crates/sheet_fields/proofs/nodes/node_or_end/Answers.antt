use mathlib.Core.Path.{sym, ap, ◌∙◌}
use Prim.Native.Nat.{◌<◌}
use native.Mathlib.Omega.{arith}
use Rattle.sheet.specs.declared.tr.Trailer.{Trailer}
use Rattle.sheet.specs.Records.{node_at}
use Rattle.sheet.specs.Sheet.{trailer_length, form_of, stated_nodes}
use Rattle.sheet.proofs.Forms.{size-least}
use Rattle.sheet.proofs.AcceptedSheet.{stated-some, stated-none}
use Rattle.sheet_fields.specs.Fields.{node_record}
use Rattle.machine.proofs.Again.{nodes-stated}
use Rattle.sheet_fields.proofs.Passed.{length-is, node-fields}
use Rattle.sheet_fields.proofs.nodes.node_or_end.Goals as goal

pub returns-in_err-t-clause-node_of : goal.returns-in_err-t-clause-node_of
returns-in_err-t-clause-node_of c = λ read.
    let bytes = c.args.sheet.now in
    absurd (omega (arith, length-is bytes read, size-least (form_of bytes), stated-none bytes (sym c.in_err-t.was ∙ c.stated_trailer.ensures)))

pub returns-then-nodes-v-clause-node_of : goal.returns-then-nodes-v-clause-node_of
returns-then-nodes-v-clause-node_of c = λ read.
    let bytes = c.args.sheet.now in
    let here = (stated-some bytes c.in_ok-t.t (sym c.in_ok-t.was ∙ c.stated_trailer.ensures)).1 in
    omega (arith, nodes-stated bytes, ap (λ (t : Trailer). t.nodes) here)

pub returns-then-sheet-links-clause-node_of : goal.returns-then-sheet-links-clause-node_of
returns-then-sheet-links-clause-node_of c = λ read.
    let bytes = c.args.sheet.now in
    let here = (stated-some bytes c.in_ok-t.t (sym c.in_ok-t.was ∙ c.stated_trailer.ensures)).1 in
    absurd (omega (arith, ap (λ (t : Trailer). t.nodes) here, ap (λ (t : Trailer). t.links) here, ap (λ (t : Trailer). trailer_length t.form) here, length-is bytes read))

pub returns-clause-node_of : goal.returns-clause-node_of
returns-clause-node_of c = λ read.
    let bytes = c.args.sheet.now in
    let here = (stated-some bytes c.in_ok-t.t (sym c.in_ok-t.was ∙ c.stated_trailer.ensures)).1 in
    let among : c.args.v < stated_nodes bytes = omega (arith, ap (λ (t : Trailer). t.nodes) here) in
    let is = c.node_at.ensures ∙ ap (λ (t : Trailer). node_at bytes t.links c.args.v) here in
    (omega (arith, nodes-stated bytes, among), ap node_record is ∙ node-fields bytes read c.args.v among)
