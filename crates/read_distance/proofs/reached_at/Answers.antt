use mathlib.Core.Path.{◌≡◌, sym, ap, ◌∙◌, subst}
use Prim.Native.Nat.{ℕ, ◌<◌, ◌≤◌}
use native.Mathlib.Omega.{arith}
use lib.IntN.{ℤ}
use lib.Ieee.{Float, binary32, of_bits, to_bits}
use mir.Syntax.{w32}
use mir.Val.{SFits, to_z, of_z}
use mir.ValLaws.{to_z-of_z}
use borrow.Author.Rules.{sfits_of}
use Rattle.tropical_weight.specs.Limits.{sum_limit}
use Rattle.tropical_weight.specs.Units.{places}
use Rattle.tropical_weight.proofs.Finer.{covered}
use Rattle.tropical_weight.specs.Single.{Costs}
use Rattle.read_distance.proofs.Patterns.{pattern-told, too_many, other-pattern}
use Rattle.read_distance.proofs.reached_at.Goals as goal

-- the cost as the code reads it is that of the value of the bits
is-cost : (unit bits : ℕ) (x : Float) (z : ℤ) → SFits w32 z → x ≡ of_bits binary32 bits → Costs unit x z → Costs unit (of_bits binary32 bits) (to_z w32 (of_z w32 z))
is-cost unit bits x z fits from costs = subst (λ (y : Float). Costs unit y (to_z w32 (of_z w32 z))) from (subst (λ (k : ℤ). Costs unit x k) (sym (to_z-of_z w32 z fits)) costs)

pub returns-then-magnitude-gt-SUM_LIMIT : goal.returns-then-magnitude-gt-SUM_LIMIT
returns-then-magnitude-gt-SUM_LIMIT c =
    let bits = c.args.bits in
    let unit = places c.args.unit in
    let cost = c.cost-units in
    too_many unit (covered c.args.unit) bits (omega arith) (to_z w32 (of_z w32 cost.result)) (is-cost unit bits c.from_bits.result cost.result (sfits_of cost.type_inv) c.from_bits.ensures cost.ensures) (subst (λ (n : ℕ). sum_limit < n) c.magnitude.ensures c.if-magnitude-gt-SUM_LIMIT.true)

pub returns-then-to_bits-bits : goal.returns-then-to_bits-bits
returns-then-to_bits-bits c =
    let bits = c.args.bits in
    let unit = places c.args.unit in
    let cost = c.cost-units in
    let pattern = c.to_bits.ensures ∙ ap (to_bits binary32) c.from_units.ensures in
    other-pattern unit (covered c.args.unit) bits (omega arith) (to_z w32 (of_z w32 cost.result)) (is-cost unit bits c.from_bits.result cost.result (sfits_of cost.type_inv) c.from_bits.ensures cost.ensures) (λ e. c.if-to_bits-bits.true (pattern ∙ e))

pub returns : goal.returns
returns c =
    let bits = c.args.bits in
    let unit = places c.args.unit in
    let pattern = c.to_bits.ensures ∙ ap (to_bits binary32) c.from_units.ensures in
    let few = subst (λ (n : ℕ). n ≤ sum_limit) c.magnitude.ensures c.if-magnitude-gt-SUM_LIMIT.false in
    pattern-told unit (covered c.args.unit) bits (omega arith) (to_z w32 (of_z w32 c.cost-units.result)) few (sym pattern ∙ c.if-to_bits-bits.false)
