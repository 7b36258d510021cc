use mathlib.Core.Path.{refl, sym, ◌∙◌}
use native.Mathlib.Omega.{arith}
use borrow.Author.Rules.{rules}
use borrow.Author.Tests.{lt-ltb, le-ltb}
use Rattle.sheet.specs.Below.{all_below}
use Rattle.sheet.proofs.Below.{all_below-more, all_below-fails}
use Rattle.machine.proofs.climbing.node_climbs.Invariants.{climbs}
use Rattle.machine.proofs.climbing.node_climbs.Goals as goal

pub loop-i-init : goal.loop-i-init
unfolding all_below
loop-i-init c = refl

pub returns-then-next-source : goal.returns-then-next-source
returns-then-next-source c =
    let s = c.args.source.now in
    sym (all_below-fails c.count-i-end.result (climbs s.sheet.bytes.now s.first s.node) c.loop-i.i (search rules) (le-ltb s.node _ (omega (arith, c.next.ensures.word))))
    ∙ λ i. all_below (c.count-i-end.ensures.word i) (climbs s.sheet.bytes.now (s.begins i) s.node)

pub loop-i-preserved : goal.loop-i-preserved
loop-i-preserved c =
    let s = c.args.source.now in
    all_below-more c.loop-i.i (climbs s.sheet.bytes.now s.first s.node) c.loop-i.invariant (lt-ltb s.node _ (omega (arith, c.next.ensures.word)))
