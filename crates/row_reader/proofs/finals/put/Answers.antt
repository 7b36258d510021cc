use mathlib.Core.Path.{◌≡◌, sym, ap, ◌∙◌}
use Prim.Native.Nat.{ℕ, suc, ◌+◌, ◌-◌}
use native.Mathlib.Omega.{arith}
use Rattle.row_reader.specs.FinalRows.{falling, has, put_in}
use Rattle.row_reader.proofs.Kept.{has_on, has_here, has-none, put_on, put-here, put_first}
use Rattle.row_reader.proofs.finals.put.Goals as goal

pub returns-then-before-node : goal.returns-then-before-node
returns-then-before-node c =
    let node = c.args.node in
    let turn = c.loop-j in
    let n = turn.j - 1 in
    let next : n + 1 ≡ suc n = omega arith in
    let here : n + 1 ≡ turn.j = omega arith in record {
      value = sym (has_here node turn.kept n (n + 1) next c.if-before-node.true) ∙ ap (λ (x : ℕ). has node (falling turn.kept x)) here ∙ turn.invariant.told;
      kept_after = put-here node turn.kept n (n + 1) next c.if-before-node.true ∙ ap (put_in node turn.kept) here ∙ turn.invariant.put;
    }

pub loop-j-preserved : goal.loop-j-preserved
loop-j-preserved c =
    let node = c.args.node in
    let turn = c.loop-j in
    let n = turn.j - 1 in
    let next : n + 1 ≡ suc n = omega arith in
    let here : n + 1 ≡ turn.j = omega arith in record {
      told = has_on node turn.kept n (n + 1) next c.if-before-node.false ∙ ap (λ (x : ℕ). has node (falling turn.kept x)) here ∙ turn.invariant.told;
      put = put_on node turn.kept n (n + 1) next c.if-before-node.false ∙ ap (put_in node turn.kept) here ∙ turn.invariant.put;
    }

pub returns : goal.returns
returns c =
    let node = c.args.node in
    let turn = c.loop-j in
    let is : turn.j ≡ 0 = omega arith in record {
      value = sym (has-none node turn.kept) ∙ sym (ap (λ (x : ℕ). has node (falling turn.kept x)) is) ∙ turn.invariant.told;
      kept_after = put_first node turn.kept ∙ sym (ap (put_in node turn.kept) is) ∙ turn.invariant.put;
    }
