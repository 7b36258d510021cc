use mathlib.Core.Path.{sym, ap, ◌∙◌}
use mathlib.Core.List.{List}
use Prim.Native.Nat.{ℕ, ◌-◌}
use native.Mathlib.Omega.{arith}
use Rattle.n_shortest.specs.HeapWords.{sift_down_w}
use Rattle.n_shortest.proofs.HeapSteps.{down-end, down_step, down-stop}
use Rattle.n_shortest.proofs.heap.+sift_down.Goals as goal

pub returns-then-n-i : goal.returns-then-n-i
returns-then-n-i t c = sym (down-end c.args.n c.args.part.now c.args.i c.if-n-i.true)

pub less-requires : goal.less-requires
less-requires t c =
    (c.requires.0.each c.args.i (omega arith), c.requires.0.each c.child-c.result c.child-c.ensures.upper_bound)

pub returns-then-less : goal.returns-then-less
returns-then-less t c =
    sym (down-stop c.args.n c.args.part.now c.args.i c.child-c.result c.child-c.ensures.value (sym c.less.ensures ∙ c.if-less.true))

pub returns : goal.returns
returns t c =
    let n = c.args.n in
    let child = c.child-c in
    c.sift_down.ensures
    ∙ ap (λ (part : List ℕ). sift_down_w (n - child.result) n part child.result) c.swap.ensures
    ∙ sym (down_step n c.args.part.now c.args.i child.result child.ensures.value c.if-n-i.false (sym c.less.ensures ∙ c.if-less.false))
