use mathlib.Core.Path.{◌≡◌, refl, sym, ap, ◌∙◌}
use Prim.Native.Nat.{ℕ, ◌+◌, ◌-◌, ◌≤◌, ◌<◌}
use native.Mathlib.Omega.{arith}
use Rattle.sheet.specs.Records.{count_at, first_link}
use Rattle.sheet.proofs.Below.{sum_mono}
use Rattle.machine.specs.declared.climbing.Machine.{Machine}
use Rattle.reversed_machine.specs.ReverseWords.{links_put, links_reversed}
use Rattle.reversed_machine.proofs.Passing.{first_below, nodes-again, machine-fields}
use Rattle.reversed_machine.proofs.reverse.Layout.reverse_links.Goals as goal

-- the links of a node are the last of those up to it, which are among all
among : (m : Machine) (v first count : ℕ) → let s = m.sheet in 0 < v → v ≤ s.nodes → first ≡ first_link s.bytes.now s.links v → count ≡ count_at s.bytes.now s.links (v - 1)
    → (first ≡ first_link s.bytes.now s.links (v - 1) + count) × (first ≤ s.links)
among m v first count h b e f =
    let s = m.sheet in
    (omega (arith, first_below s.bytes.now s.links v h), omega (arith, sum_mono (count_at s.bytes.now s.links) s.nodes v b, (machine-fields m).counted))

pub loop-node-init : goal.loop-node-init
loop-node-init c = record { before = sym (machine-fields c.args.self.now.counted.machine).counted; as_all = refl }

pub overflow_sub-first : goal.overflow_sub-first
overflow_sub-first c =
    let turn = c.loop-node in
    omega (arith, among c.args.self.now.counted.machine turn.node turn.first c.count-first.result (omega arith) (omega arith) turn.invariant.before c.count-first.ensures.word)

pub invariant_of-reverse_node : goal.invariant_of-reverse_node
invariant_of-reverse_node c =
    let turn = c.loop-node in record {
      inside = omega arith;
      begins = omega (arith, among c.args.self.now.counted.machine turn.node turn.first c.count-first.result (omega arith) (omega arith) turn.invariant.before c.count-first.ensures.word);
    }

pub loop-node-preserved : goal.loop-node-preserved
loop-node-preserved c =
    let turn = c.loop-node in
    let at = c.args.self.now in
    let sheet = at.counted.machine.sheet in
    let bytes = sheet.bytes.now in
    let source = turn.node - 1 in
    let some : 0 < turn.node = omega arith in
    let begins : turn.first - c.count-first.result ≡ first_link bytes sheet.links source = omega (arith, among at.counted.machine turn.node turn.first c.count-first.result some (omega arith) turn.invariant.before c.count-first.ensures.word) in
    let put = c.reverse_node.ensures ∙ λ i. links_put bytes at.heads at.chains source (begins i) (count_at bytes sheet.links source) turn.part in record {
      before = begins;
      as_all = nodes-again bytes at.heads at.chains turn.part _ _ sheet.links turn.node some put turn.invariant.as_all;
    }

pub returns : goal.returns
unfolding links_reversed
returns c =
    let at = c.args.self.now in
    let sheet = at.counted.machine.sheet in
    let turn = c.loop-node in
    let none : 0 ≡ turn.node = omega arith in
    ap (λ (n : ℕ). links_reversed sheet.bytes.now at.heads at.chains sheet.links n turn.part) none ∙ turn.invariant.as_all
