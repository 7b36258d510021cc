use mathlib.Core.Path.{◌≡◌, ap, ◌∙◌}
use Prim.Native.Nat.{ℕ, ◌<◌}
use native.Mathlib.Omega.{arith}
use Rattle.sheet.specs.declared.accepted.Sheet.{Sheet}
use Rattle.reversed_machine.specs.ReverseWords.{links_put}
use Rattle.reversed_machine.proofs.Passing.{links-again}
use Rattle.reversed_machine.proofs.reverse.Layout.reverse_node.Goals as goal

pub put_in_front-requires : goal.put_in_front-requires
put_in_front-requires c =
    let s = c.args.self.now in
    let nodes = ap (λ (t : Sheet). t.nodes) c.requires.own in
    let links = ap (λ (t : Sheet). t.links) c.requires.own in
    (omega (arith, c.next.ensures.below, nodes, s.apart, c.requires.room), omega (arith, c.count-i.ensures.within, links, c.requires.room))

pub loop-i-preserved : goal.loop-i-preserved
loop-i-preserved c =
    let turn = c.loop-i in
    let source = c.args.source in
    let at = c.args.self.now in
    let some : 0 < turn.i = omega arith in
    links-again source.sheet.bytes.now at.heads at.chains turn.part _ _ source.node source.first turn.i _ _ some c.next.ensures.word c.link_bits.ensures.word c.put_in_front.ensures turn.invariant

pub returns : goal.returns
unfolding links_put
returns c =
    let source = c.args.source in
    let at = c.args.self.now in
    let turn = c.loop-i in
    let none : 0 ≡ turn.i = omega arith in
    ap (λ (n : ℕ). links_put source.sheet.bytes.now at.heads at.chains source.node source.first n turn.part) none ∙ turn.invariant
