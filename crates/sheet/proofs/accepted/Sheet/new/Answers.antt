use mathlib.Core.Path.{◌≡◌, sym, ap, ◌∙◌}
use Prim.Native.Nat.{◌*◌}
use native.Mathlib.Omega.{arith}
use borrow.Author.Rules.{rules}
use Rattle.sheet.specs.declared.tr.Trailer.{Trailer}
use Rattle.sheet.specs.Refusals.{number_in}
use Rattle.sheet.specs.Sheet.{link_length, trailer_length, read_number}
use Rattle.sheet.specs.Records.{trailer_at}
use Rattle.sheet.specs.Accepted.{trailer_in}
use Rattle.sheet.proofs.Refusals.{answer-some, number-told}
use Rattle.sheet.proofs.Fields.{length-read, read_fits}
use Rattle.sheet.proofs.AcceptedSheet.{read-known, trailer-stated}
use Rattle.sheet.proofs.accepted.Sheet.new.Goals as goal

pub returns-in_err-t-clause-number : goal.returns-in_err-t-clause-number
returns-in_err-t-clause-number c =
    let bytes = c.args.bytes.now in
    let told : number_in c.read.result ≡ read_number bytes = ap number_in c.read.ensures ∙ number-told (trailer_at bytes) (read_number bytes) (read-known bytes) in
    search (rules, told)

pub invariant_of-result : goal.invariant_of-result
invariant_of-result c =
    let bytes = c.args.bytes.now in
    let t = c.in_ok-t.t in
    let read = answer-some (trailer_at bytes) (read_number bytes) t (sym c.in_ok-t.was ∙ c.read.ensures) in
    let links = ap (λ (r : Trailer). r.links) read.1 in
    let stated : trailer_in t.links t.nodes t.start t.form ≡ trailer_at bytes = (λ i. trailer_in (read.1 i).links (read.1 i).nodes (read.1 i).start (read.1 i).form) ∙ trailer-stated bytes read.0 in
    let offset : link_length * t.links ≡ t.node_offset = ap (λ (r : Trailer). r.node_offset) (stated ∙ sym read.1) in
    record {
      accepted = read.0;
      stated = stated;
      sized = omega (arith, length-read bytes (read_fits bytes read.0), links, ap (λ (r : Trailer). r.nodes) read.1, ap (λ (r : Trailer). trailer_length r.form) read.1);
      few_links = omega (arith, offset);
      few_nodes = omega arith;
    }
