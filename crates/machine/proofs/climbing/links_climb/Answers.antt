use mathlib.Core.Path.{◌≡◌, sym, ap, ◌∙◌}
use Prim.Native.Nat.{ℕ, ◌<◌}
use native.Mathlib.Omega.{arith}
use Rattle.sheet.specs.declared.accepted.Sheet.{Sheet}
use Rattle.sheet.specs.declared.source.Sources.{Sources}
use Rattle.sheet.specs.Below.{all_below}
use Rattle.sheet.proofs.Below.{all_below-more, all_below-fails}
use Rattle.machine.specs.Answers.{node_climbs}
use Rattle.machine.proofs.climbing.links_climb.Goals as goal

-- a node's links, by the sheet and the number that its source has
same-node : (s t : Sheet) (u v : ℕ) → t ≡ s → u ≡ v → node_climbs t.bytes.now t.links u ≡ node_climbs s.bytes.now s.links v
same-node s t u v e h i = node_climbs (e i).bytes.now (e i).links (h i)

pub loop-source-init : goal.loop-source-init
unfolding all_below
loop-source-init c =
    let s = c.args.sheet.now in
    let same = c.into_iter-source-iterator.ensures.into_iter_gives in
    let made = c.new-source-items.ensures in
    (ap (λ (t : Sources). t.sheet) same ∙ made.0, ap (λ (n : ℕ). all_below n (node_climbs s.bytes.now s.links)) (ap (λ (t : Sources). t.node) same ∙ made.1))

pub returns-then-not-node_climbs : goal.returns-then-not-node_climbs
returns-then-not-node_climbs c =
    let s = c.args.sheet.now in
    let it = c.loop-source.source-iterator in
    let r = c.in-Some.source in
    let steps = c.in-Some.ensures.steps in
    let inside : it.node < s.nodes = omega (arith, steps.0, ap (λ (t : Sheet). t.nodes) c.loop-source.invariant.0) in
    let low = sym (same-node s r.sheet r.node it.node (steps.1 ∙ c.loop-source.invariant.0) steps.2) ∙ sym c.node_climbs.ensures ∙ c.if-not-node_climbs.true in
    sym (all_below-fails s.nodes (node_climbs s.bytes.now s.links) it.node inside low)

pub loop-source-preserved : goal.loop-source-preserved
loop-source-preserved c =
    let s = c.args.sheet.now in
    let turn = c.loop-source in
    let it = turn.source-iterator in
    let r = c.in-Some.source in
    let steps = c.in-Some.ensures.steps in
    let high = sym (same-node s r.sheet r.node it.node (steps.1 ∙ turn.invariant.0) steps.2) ∙ sym c.node_climbs.ensures ∙ c.if-not-node_climbs.false in
    (steps.4 ∙ turn.invariant.0, ap (λ (n : ℕ). all_below n (node_climbs s.bytes.now s.links)) steps.5 ∙ all_below-more it.node (node_climbs s.bytes.now s.links) turn.invariant.1 high)
