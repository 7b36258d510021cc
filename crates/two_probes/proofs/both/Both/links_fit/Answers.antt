use mathlib.Core.Path.{refl, sym, ap, ◌∙◌}
use Prim.Native.Nat.{ℕ}
use native.Mathlib.Omega.{arith}
use Rattle.tropical_weight.specs.Units.{places}
use Rattle.sheet.specs.Below.{all_below}
use Rattle.sheet.specs.Sheet.{weight_fits}
use Rattle.sheet.proofs.Below.{all_below-more, all_below-fails}
use Rattle.two_probes.specs.Held.{allowed_by, unit_by}
use Rattle.two_probes.proofs.Kept.{first-unit, many-links}
use Rattle.two_probes.proofs.both.Both.links_fit.Invariants.{fits}
use Rattle.two_probes.proofs.both.Both.links_fit.Goals as goal

pub loop-q-init : goal.loop-q-init
unfolding all_below
loop-q-init c = refl

pub returns-then-not-weight_fits : goal.returns-then-not-weight_fits
returns-then-not-weight_fits c =
    let x = c.args.self.now in
    let m = allowed_by x in
    sym (ap (λ (n : ℕ). all_below n (fits (unit_by x) m)) (sym (many-links x)) ∙ all_below-fails _ (fits (unit_by x) m) c.loop-q.q c.loop-q-test.true (sym (ap (weight_fits (unit_by x)) c.link_bits.ensures) ∙ ap (λ (j : ℕ). weight_fits j c.link_bits.result) (sym (ap places c.new-shifts.ensures ∙ c.unit.ensures ∙ first-unit x)) ∙ sym c.weight_fits.ensures ∙ c.if-not-weight_fits.true))

pub loop-q-preserved : goal.loop-q-preserved
loop-q-preserved c =
    let x = c.args.self.now in
    all_below-more c.loop-q.q (fits (unit_by x) (allowed_by x)) c.loop-q.invariant (sym (ap (weight_fits (unit_by x)) c.link_bits.ensures) ∙ ap (λ (j : ℕ). weight_fits j c.link_bits.result) (sym (ap places c.new-shifts.ensures ∙ c.unit.ensures ∙ first-unit x)) ∙ sym c.weight_fits.ensures ∙ c.if-not-weight_fits.false)

pub returns : goal.returns
returns c =
    let x = c.args.self.now in
    let all = c.loop-q.auto in
    sym c.loop-q.invariant ∙ ap (λ (n : ℕ). all_below n (fits (unit_by x) (allowed_by x))) (omega (arith, many-links x))
