use mathlib.Core.Path.{◌≡◌, refl, sym, ap, ◌∙◌}
use Prim.Native.Nat.{ℕ}
use native.Mathlib.Omega.{arith}
use Rattle.tropical_weight.specs.Units.{places}
use Rattle.sheet.specs.Below.{all_below}
use Rattle.sheet.specs.Sheet.{weight_fits}
use Rattle.sheet.proofs.Below.{all_below-more, all_below-fails}
use Rattle.machine.specs.Readings.{final}
use Rattle.two_probes.specs.Held.{allowed_by, unit_by}
use Rattle.two_probes.proofs.Kept.{first-unit, many-nodes}
use Rattle.two_probes.proofs.Records.{fits-none, fits-some}
use Rattle.two_probes.proofs.both.Both.finals_fit.Invariants.{fits}
use Rattle.two_probes.proofs.both.Both.finals_fit.Goals as goal

pub loop-v-init : goal.loop-v-init
unfolding all_below
loop-v-init c = refl

pub loop-v-preserved-in_default : goal.loop-v-preserved-in_default
loop-v-preserved-in_default c =
    let x = c.args.self.now in
    let m = allowed_by x in
    all_below-more c.loop-v.v (fits (unit_by x) m) c.loop-v.invariant (fits-none (unit_by x) (final m c.loop-v.v) (sym c.final_bits.ensures ∙ c.in_default.is))

pub returns-then-not-weight_fits : goal.returns-then-not-weight_fits
returns-then-not-weight_fits c =
    let x = c.args.self.now in
    let m = allowed_by x in
    sym (ap (λ (n : ℕ). all_below n (fits (unit_by x) m)) (many-nodes x ∙ sym c.nodes-v-end.ensures.value)
    ∙ all_below-fails _ (fits (unit_by x) m) c.loop-v.v c.loop-v-test.true (fits-some (unit_by x) (final m c.loop-v.v) c.in-Some.bits (sym c.final_bits.ensures ∙ c.in-Some.is) ∙ ap (λ (j : ℕ). weight_fits j c.in-Some.bits) (sym (ap places c.new-shifts.ensures ∙ c.unit.ensures ∙ first-unit x)) ∙ sym c.weight_fits.ensures ∙ c.if-not-weight_fits.true))

pub loop-v-preserved : goal.loop-v-preserved
loop-v-preserved c =
    let x = c.args.self.now in
    let m = allowed_by x in
    all_below-more c.loop-v.v (fits (unit_by x) m) c.loop-v.invariant (fits-some (unit_by x) (final m c.loop-v.v) c.in-Some.bits (sym c.final_bits.ensures ∙ c.in-Some.is) ∙ ap (λ (j : ℕ). weight_fits j c.in-Some.bits) (sym (ap places c.new-shifts.ensures ∙ c.unit.ensures ∙ first-unit x)) ∙ sym c.weight_fits.ensures ∙ c.if-not-weight_fits.false)

pub returns : goal.returns
returns c =
    let x = c.args.self.now in
    let m = allowed_by x in
    let all : c.loop-v.v ≡ c.nodes-v-end.result = omega arith in
    sym c.loop-v.invariant ∙ ap (λ (n : ℕ). all_below n (fits (unit_by x) m)) (all ∙ c.nodes-v-end.ensures.value ∙ sym (many-nodes x))
