use mathlib.Core.Path.{sym, ap, ◌∙◌}
use mathlib.Core.List.{List}
use Prim.Native.Nat.{ℕ}
use Rattle.n_shortest.specs.HeapWords.{parent_of, sift_up_w}
use Rattle.n_shortest.proofs.HeapSteps.{up-zero, up_step, up-stop}
use Rattle.n_shortest.proofs.heap.+sift_up.Goals as goal

pub returns-then-i-eq0 : goal.returns-then-i-eq0
returns-then-i-eq0 t c = sym (up-zero c.args.part.now c.args.i c.if-i-eq0.true)

pub returns-then-less : goal.returns-then-less
returns-then-less t c =
    let i = c.args.i in
    c.sift_up.ensures
    ∙ ap (λ (part : List ℕ). sift_up_w (parent_of i) part (parent_of i)) c.swap.ensures
    ∙ sym (up_step c.args.part.now i c.if-i-eq0.false (sym c.less.ensures ∙ c.if-less.true))

pub returns-else-less : goal.returns-else-less
returns-else-less t c = sym (up-stop c.args.part.now c.args.i (sym c.less.ensures ∙ c.if-less.false))
