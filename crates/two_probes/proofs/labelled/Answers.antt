use mathlib.Core.Path.{◌≡◌, refl, sym, ap, ◌∙◌}
use mathlib.Core.Bool.{not, ◌&&◌}
use Prim.Native.Nat.{ℕ, ◌<◌}
use native.Mathlib.Omega.{arith}
use lib.Dec.{eqb}
use Rattle.sheet.specs.Below.{all_below}
use Rattle.sheet.specs.declared.tr.Link.{Link}
use Rattle.sheet.specs.Records.{link_at}
use Rattle.sheet.specs.Machine.{machine}
use Rattle.sheet.proofs.Below.{all_below-more, all_below-fails}
use Rattle.machine.specs.declared.climbing.Machine.{Machine}
use Rattle.machine.proofs.Machines.{machine-fields}
use Rattle.product.specs.Refusals.{labelled}
use Rattle.two_probes.proofs.labelled.Invariants.{one_label}
use Rattle.two_probes.proofs.labelled.Goals as goal

-- what is tested of a link's record is said of the machine's link
same-labels : (m : Machine) (l : ℕ) → l < m.sheet.links → (r : Link) → r ≡ link_at m.sheet.bytes.now l → not (eqb r.ilabel 0) && eqb r.ilabel r.olabel ≡ one_label (machine m.sheet.bytes.now) l
same-labels m l h r e =
    let f = machine-fields m in
    let i = ap (λ (x : Link). x.ilabel) e ∙ f.ilabel-at l h in
    let o = ap (λ (x : Link). x.olabel) e ∙ f.olabel-at l h in
    λ j. not (eqb (i j) 0) && eqb (i j) (o j)

-- all links of the sheet are all of the machine
all-links : (m : Machine) → labelled (machine m.sheet.bytes.now) ≡ all_below m.sheet.links (one_label (machine m.sheet.bytes.now))
unfolding labelled
all-links m = ap (λ (n : ℕ). all_below n (one_label (machine m.sheet.bytes.now))) (machine-fields m).links-are

pub loop-l-init : goal.loop-l-init
unfolding all_below
loop-l-init c = refl

pub returns-then-not-is_labelled : goal.returns-then-not-is_labelled
returns-then-not-is_labelled c =
    let m = c.args.machine.now in
    let l = c.loop-l.l in
    sym (all-links m ∙ all_below-fails m.sheet.links (one_label (machine m.sheet.bytes.now)) l c.loop-l-test.true (sym (same-labels m l c.loop-l-test.true c.link.result c.link.ensures) ∙ sym c.is_labelled.ensures ∙ c.if-not-is_labelled.true))

pub loop-l-preserved : goal.loop-l-preserved
loop-l-preserved c =
    let m = c.args.machine.now in
    let l = c.loop-l.l in
    all_below-more l (one_label (machine m.sheet.bytes.now)) c.loop-l.invariant (sym (same-labels m l c.loop-l-test.true c.link.result c.link.ensures) ∙ sym c.is_labelled.ensures ∙ c.if-not-is_labelled.false)

pub returns : goal.returns
returns c =
    let m = c.args.machine.now in
    let all : c.loop-l.l ≡ m.sheet.links = omega arith in
    sym c.loop-l.invariant ∙ ap (λ (n : ℕ). all_below n (one_label (machine m.sheet.bytes.now))) all ∙ sym (all-links m)
