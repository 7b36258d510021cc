use mathlib.Core.Path.{◌≡◌, ap, ◌∙◌}
use Prim.Native.Nat.{ℕ, ◌+◌, ◌*◌}
use native.Mathlib.Omega.{arith}
use Rattle.tropical_weight.specs.Units.{places}
use Rattle.tropical_weight.specs.declared.unit.Unit.{Unit}
use Rattle.sheet.specs.Tests.{with_link, link_tests}
use Rattle.sheet.proofs.Passes.{link-turn, link_tests-none}
use Rattle.sheet.proofs.tests.test_links.Goals as goal

pub loop-l-init : goal.loop-l-init
loop-l-init g c = let value = g.F.Fields.value c.args.fields.now in link_tests-none (places c.args.unit) c.args.nodes (λ l. value (4 * l + 2)) (λ l. value (4 * l + 3))

pub loop-l-preserved : goal.loop-l-preserved
loop-l-preserved g c =
    let turn = c.loop-l in
    let value = g.F.Fields.value c.args.fields.now in
    link-turn (places c.args.unit) turn.l c.args.nodes (λ l. value (4 * l + 2)) (λ l. value (4 * l + 3)) turn.t c.with_link-t.result _ _ (c.with_link-t.ensures ∙ ap (λ (u : Unit). with_link (places u) turn.t c.field.result c.field-in-loop-l.result c.args.nodes) c.new-shifts.ensures) turn.invariant c.field.ensures c.field-in-loop-l.ensures

pub returns : goal.returns
returns g c =
    let value = g.F.Fields.value c.args.fields.now in
    let all : c.loop-l.l ≡ c.args.links = omega arith in
    c.loop-l.invariant ∙ ap (λ (k : ℕ). link_tests (places c.args.unit) k c.args.nodes (λ l. value (4 * l + 2)) (λ l. value (4 * l + 3))) all
