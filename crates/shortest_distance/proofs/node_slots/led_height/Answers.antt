use mathlib.Core.Path.{sym, ap, ◌∙◌}
use Prim.Native.Nat.{ℕ}
use native.Mathlib.Omega.{arith}
use borrow.Author.Rules.{rules}
use Rattle.std.specs.Prelude.{true, false}
use Rattle.sheet.specs.Records.{count_at, first_link}
use Rattle.distance.specs.Held.{reached_in}
use Rattle.shortest_distance.specs.NodeSlots.{distance_at, led_from, led_height}
use Rattle.shortest_distance.proofs.Lengths.{led-height-next}
use Rattle.shortest_distance.proofs.node_slots.led_height.Goals as goal

pub loop-source-init : goal.loop-source-init
unfolding led_height
loop-source-init c = record { same = search rules; upto = search rules; raised = search rules }

pub loop-source-preserved-then-is_some : goal.loop-source-preserved-then-is_some
loop-source-preserved-then-is_some c =
    let args = c.args in
    let s = args.sheet.now in
    let turn = c.loop-source in
    let step = c.in-Some.ensures.steps in
    let source = c.in-Some.source in
    let sheet = step.0.1 ∙ turn.invariant.same in
    let first = source.begins ∙ λ i. first_link (sheet i).bytes.now (sheet i).links (step.0.2 i) in
    let told = ap (λ (v : ℕ). reached_in (distance_at args.work.now v)) (sym step.0.2) ∙ sym (c.is_some.ensures ∙ ap reached_in c.distance_at-own.ensures) ∙ c.if-is_some.true in
    record {
      same = step.0.4 ∙ turn.invariant.same;
      upto = omega (arith, step.1, step.0.5, turn.invariant.upto);
      raised = c.led_from-top.ensures
          ∙ (λ i. led_from (sheet i).bytes.now (first i) (count_at (sheet i).bytes.now (sheet i).links (step.0.2 i)) (turn.invariant.raised i))
          ∙ sym (led-height-next s.bytes.now s.links args.work.now _ _ args.reached true step.0.5 told);
    }

pub loop-source-preserved : goal.loop-source-preserved
loop-source-preserved c =
    let args = c.args in
    let s = args.sheet.now in
    let turn = c.loop-source in
    let step = c.in-Some.ensures.steps in
    let told = ap (λ (v : ℕ). reached_in (distance_at args.work.now v)) (sym step.0.2) ∙ sym (c.is_some.ensures ∙ ap reached_in c.distance_at-own.ensures) ∙ c.if-is_some.false in
    record {
      same = step.0.4 ∙ turn.invariant.same;
      upto = omega (arith, step.1, step.0.5, turn.invariant.upto);
      raised = turn.invariant.raised ∙ sym (led-height-next s.bytes.now s.links args.work.now _ _ args.reached false step.0.5 told);
    }
