use mathlib.Core.Path.{sym, ap, ◌∙◌}
use Prim.Native.Nat.{◌+◌}
use native.Mathlib.Numerals.{add-one}
use native.Mathlib.Omega.{arith}
use Rattle.sheet.specs.Records.{first_link}
use Rattle.sheet.proofs.NodeSources.{next-first}
use Rattle.sheet.proofs.source.SourcesIterator.next.Goals as goal

pub invariant_of-self : goal.invariant_of-self
invariant_of-self c =
    let s = c.args.self.now in
    let t = s.sheet in record {
      upto = omega arith;
      begins = (λ i. s.begins i + c.count.ensures.word i) ∙ sym (ap (first_link t.bytes.now t.links) (add-one s.node) ∙ next-first t.bytes.now t.links s.node);
    }
