use mathlib.Core.Path.{◌≡◌, ap, ◌∙◌, subst}
use Prim.Native.Nat.{ℕ}
use lib.ListN.{length, drop}
use native.Mathlib.Omega.{arith}
use lib.Ieee.{binary32, add, of_bits}
use mathlib.Core.List.{map}
use Rattle.tropical_weight.specs.Single.{add_all}
use Rattle.read_back.specs.Costs.{weight_at, run_sum}
use Rattle.read_back.proofs.RunCosts.{sum-next, sum-end}
use Rattle.read_back.proofs.cost.run_sum.Goals as goal

pub loop-l-preserved : goal.loop-l-preserved
loop-l-preserved c =
    let weight = c.from_bits-weight.ensures ∙ ap (of_bits binary32) c.link_bits.ensures.word in
    sum-next c.args.sheet.now.bytes.now c.args.run.now c.loop-l.sum _ c.loop-l.l-index (omega arith) (c.times-sum.ensures.same ∙ ap (add binary32 c.loop-l.sum) weight) c.loop-l.invariant

pub returns : goal.returns
returns c = sum-end c.args.sheet.now.bytes.now c.args.run.now c.loop-l.sum (subst (λ (i : ℕ). add_all c.loop-l.sum (map (weight_at c.args.sheet.now.bytes.now) (drop i c.args.run.now)) ≡ run_sum c.args.sheet.now.bytes.now c.args.run.now) (let z : c.loop-l.l-index ≡ length c.args.run.now = omega arith in z) c.loop-l.invariant)
