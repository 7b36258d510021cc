use mathlib.Core.Path.{◌≡◌, sym, ap, ◌∙◌}
use Prim.Native.Nat.{ℕ, ◌<◌}
use native.Mathlib.Omega.{arith}
use Rattle.tropical_weight.specs.Tropical.{◌⊗◌}
use Rattle.sheet.specs.Sheet.{weight_fits}
use Rattle.sheet.specs.Machine.{weight_of, bits_of}
use Rattle.machine.specs.Readings.{link}
use Rattle.product.specs.Halves.{pair_at}
use Rattle.machine.proofs.Machines.{machine-fields}
use Rattle.machine.proofs.Values.{link-fits}
use Rattle.two_probes.specs.Held.{unit_by}
use Rattle.two_probes.proofs.Kept.{a, b, second-unit, unit-covered, first-is, second-is, first-in, second-in, link-is}
use Rattle.two_probes.proofs.both.Both.link_bits.Goals as goal

pub link_bits-a-requires : goal.link_bits-a-requires
link_bits-a-requires c = let x = c.args.self.now in omega (arith, c.pair_first.ensures.0, first-is x c.args.q c.requires, first-in x c.args.q c.requires)

pub link_bits-b-requires : goal.link_bits-b-requires
link_bits-b-requires c = let x = c.args.self.now in omega (arith, c.pair_second.ensures.0, second-is x c.args.q c.requires, second-in x c.args.q c.requires)

pub returns : goal.returns
returns c =
    let x = c.args.self.now in
    let q = c.args.q in
    let first : c.pair_first.result ≡ (pair_at (a x) (b x) q).first = c.pair_first.ensures.0 ∙ first-is x q c.requires in
    let second : c.pair_second.result ≡ (pair_at (a x) (b x) q).second = c.pair_second.ensures.0 ∙ second-is x q c.requires in
    let l : c.pair_first.result < x.first.sheet.links = omega (arith, first, first-in x q c.requires) in
    let k : c.pair_second.result < x.second.sheet.links = omega (arith, second, second-in x q c.requires) in
    let j = unit_by x in
    let unit = sym (second-unit x) in
    let fits = ap (weight_fits j) c.link_bits-a.ensures.part ∙ link-fits x.first c.pair_first.result l in
    let also = (λ i. weight_fits (unit i) (c.link_bits-b.ensures.part i)) ∙ link-fits x.second c.pair_second.result k in
    let v = ap (weight_of j) c.link_bits-a.ensures.word ∙ (machine-fields x.first).weight-at c.pair_first.result l ∙ ap (λ (n : ℕ). (link (a x) n).weight) first in
    let w = (λ i. weight_of (unit i) (c.link_bits-b.ensures.word i)) ∙ (machine-fields x.second).weight-at c.pair_second.result k ∙ ap (λ (n : ℕ). (link (b x) n).weight) second in
    c.sum_of.ensures j (unit-covered x) fits also ∙ (λ i. bits_of j (v i ⊗ w i)) ∙ sym (ap (λ k. bits_of j k.weight) (link-is x q c.requires))
