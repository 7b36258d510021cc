use mathlib.Core.Path.{◌≡◌, ap, ◌∙◌}
use Prim.Native.Nat.{ℕ, ◌+◌, ◌*◌}
use native.Mathlib.Omega.{arith}
use borrow.Author.Rules.{rules}
use Rattle.tropical_weight.specs.declared.unit.Unit.{Unit}
use Rattle.tropical_weight.specs.Units.{places}
use Rattle.sheet.specs.Tests.{with_node, node_tests}
use Rattle.sheet.proofs.Passes.{node-turn, node-bound, node_tests-none}
use Rattle.sheet.proofs.tests.test_nodes.Goals as goal

pub loop-v-init : goal.loop-v-init
loop-v-init g c =
    let value = g.F.Fields.value c.args.fields.now in (
      node_tests-none (places c.args.unit) (λ v. value (3 * v)) (λ v. value (3 * v + 1)) (λ v. value (3 * v + 2)),
      search rules,
    )

pub loop-v-preserved : goal.loop-v-preserved
loop-v-preserved g c =
    let turn = c.loop-v in
    let value = g.F.Fields.value c.args.fields.now in
    let one =
    c.with_node-t.ensures
    ∙ ap (λ (u : Unit). with_node (places u) turn.t c.field.result c.field-in-loop-v.result c.field-in-loop-v-2.result) c.new-shifts.ensures in (
      node-turn (places c.args.unit) turn.v (λ v. value (3 * v)) (λ v. value (3 * v + 1)) (λ v. value (3 * v + 2)) turn.t c.with_node-t.result _ _ _ one turn.invariant.0 c.field.ensures c.field-in-loop-v.ensures c.field-in-loop-v-2.ensures,
      node-bound (places c.args.unit) turn.v turn.t c.with_node-t.result c.field.result c.field-in-loop-v.result c.field-in-loop-v-2.result one (search rules) turn.invariant.1,
    )

pub returns : goal.returns
returns g c =
    let value = g.F.Fields.value c.args.fields.now in
    let all : c.loop-v.v ≡ c.args.nodes = omega arith in
    c.loop-v.invariant.0 ∙ ap (λ (k : ℕ). node_tests (places c.args.unit) k (λ v. value (3 * v)) (λ v. value (3 * v + 1)) (λ v. value (3 * v + 2))) all
