use mathlib.Core.Path.{sym, ap, ◌∙◌}
use mathlib.Core.List.{[], ◌∷◌}
use Prim.Native.Nat.{ℕ, ◌+◌, ◌-◌}
use native.Mathlib.Omega.{arith}
use Rattle.sheet.specs.declared.tr.Link.{Link}
use Rattle.sheet.specs.Sheet.{unit_of}
use Rattle.sheet.specs.Machine.{link_fields}
use Rattle.machine.specs.Readings.{link}
use Rattle.narrowing.specs.Parts.{from_node}
use Rattle.narrowing.proofs.Seam.{above-seam, second-form, second-link}
use Rattle.preheat_bake.specs.Held.{whole}
use Rattle.preheat_bake.proofs.Whole.{fields, climbs, at-seam}
use Rattle.preheat_bake.proofs.parts.later_link.Goals as goal

-- c is at most the link's source, and that is below its next node
pub overflow_sub-result : goal.overflow_sub-result
overflow_sub-result c =
    let x = c.args.whole.now in
    let f = fields x in
    let l = x.before + c.args.i in
    let h = c.requires in
    omega (arith, ap (λ (r : Link). r.nextstate) c.link-link.ensures, f.next-at l h, (climbs x).rises l (omega (arith, h, f.links-are)), above-seam x.node (whole x) (climbs x) l (omega (arith, at-seam x)) (omega (arith, h, f.links-are)))

pub returns : goal.returns
returns c =
    let x = c.args.whole.now in
    let f = fields x in
    let l = x.before + c.args.i in
    let h = c.requires in
    let r = c.link-link.ensures in
    let i = ap (λ (r : Link). r.ilabel) r ∙ f.ilabel-at l h in
    let o = ap (λ (r : Link). r.olabel) r ∙ f.olabel-at l h in
    let w = c.link_bits-bits.ensures.word ∙ f.link-bits x.bytes l h in
    let n = ap (λ (r : Link). r.nextstate) r ∙ f.next-at l h in
    let is = second-link x.node (whole x) (climbs x) c.args.i (omega (arith, h, f.links-are, at-seam x)) ∙ ap (λ (k : ℕ). from_node x.node (link (whole x) (k + c.args.i))) (sym (at-seam x)) in
    (λ j. i j ∷ o j ∷ w j ∷ (n j - x.node) ∷ []) ∙ (λ j. link_fields (unit_of (sym (second-form x.node (whole x)) j)) (sym is j))
