use mathlib.Core.Path.{◌≡◌, sym, ap, ◌∙◌}
use mathlib.Core.List.{[], ◌∷◌}
use Prim.Native.Nat.{ℕ, ◌+◌, ◌*◌, ◌<◌}
use native.Mathlib.Omega.{arith}
use Rattle.sheet.specs.declared.tr.Link.{Link}
use Rattle.sheet.specs.Machine.{bits_of, link_fields}
use Rattle.machine.specs.Readings.{link}
use Rattle.machine.proofs.Machines.{machine-fields}
use Rattle.product.specs.Halves.{pair_at}
use Rattle.two_probes.specs.Held.{unit_by}
use Rattle.two_probes.proofs.Kept.{a, b, first-is, second-is, first-in, second-in, second-nodes, link-is}
use Rattle.two_probes.proofs.both.Both.link.Goals as goal

pub link-a-requires : goal.link-a-requires
link-a-requires c = let x = c.args.self.now in omega (arith, c.pair_first.ensures.0, first-is x c.args.q c.requires, first-in x c.args.q c.requires)

pub next-b-requires : goal.next-b-requires
next-b-requires c = let x = c.args.self.now in omega (arith, c.pair_second.ensures.0, second-is x c.args.q c.requires, second-in x c.args.q c.requires)

pub node_for-requires : goal.node_for-requires
node_for-requires c =
    let x = c.args.self.now in
    let f = machine-fields x.first in
    let l : c.pair_first.result < x.first.sheet.links = omega (arith, c.pair_first.ensures.0, first-is x c.args.q c.requires, first-in x c.args.q c.requires) in
    (omega (arith, ap (λ (r : Link). r.nextstate) c.link-a.ensures, f.next-at c.pair_first.result l, f.next-in c.pair_first.result l), c.next-b.ensures.below)

pub returns : goal.returns
returns c =
    let x = c.args.self.now in
    let q = c.args.q in
    let f = machine-fields x.first in
    let g = machine-fields x.second in
    let first : c.pair_first.result ≡ (pair_at (a x) (b x) q).first = c.pair_first.ensures.0 ∙ first-is x q c.requires in
    let second : c.pair_second.result ≡ (pair_at (a x) (b x) q).second = c.pair_second.ensures.0 ∙ second-is x q c.requires in
    let l : c.pair_first.result < x.first.sheet.links = omega (arith, first, first-in x q c.requires) in
    let k : c.pair_second.result < x.second.sheet.links = omega (arith, second, second-in x q c.requires) in
    let i = ap (λ (r : Link). r.ilabel) c.link-a.ensures ∙ f.ilabel-at c.pair_first.result l ∙ ap (λ (n : ℕ). (link (a x) n).ilabel) first in
    let o = ap (λ (r : Link). r.olabel) c.link-a.ensures ∙ f.olabel-at c.pair_first.result l ∙ ap (λ (n : ℕ). (link (a x) n).olabel) first in
    let s = ap (λ (r : Link). r.nextstate) c.link-a.ensures ∙ f.next-at c.pair_first.result l ∙ ap (λ (n : ℕ). (link (a x) n).next) first in
    let t = c.next-b.ensures.word ∙ g.next-at c.pair_second.result k ∙ ap (λ (n : ℕ). (link (b x) n).next) second in
    let n = c.node_for.ensures.value ∙ λ j. s j * sym (second-nodes x) j + t j in
    let w = c.link_bits.ensures ∙ ap (λ k. bits_of (unit_by x) k.weight) (link-is x q c.requires) in
    (λ j. i j ∷ o j ∷ w j ∷ n j ∷ []) ∙ sym (ap (link_fields (unit_by x)) (link-is x q c.requires))
