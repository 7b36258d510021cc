use mathlib.Core.Path.{◌≡◌, sym, ◌∙◌}
use Prim.Native.Nat.{suc, ◌+◌}
use native.Mathlib.Omega.{arith}
use borrow.Author.Rules.{rules}
use Rattle.machine.proofs.FinalCount.{count_none, count-plain, count-final}
use Rattle.machine.proofs.finals.count_finals.Goals as goal
use Rattle.machine.proofs.finals.count_finals.Goals.{then-word-ne0, else-word-ne0}

pub loop-v-init : goal.loop-v-init
loop-v-init c = (search rules, sym (count_none c.args.sheet.now c.args.links))

pub loop-v-preserved : goal.loop-v-preserved
loop-v-preserved c =
    let turn = c.loop-v in
    let bytes = c.args.sheet.now in
    let links = c.args.links in
    let read = c.word.ensures in
    let next : turn.v + 1 ≡ suc turn.v = omega arith in (
      elim c.if-word-ne0.branch [ then-word-ne0 w ↦ omega arith | else-word-ne0 w ↦ omega arith ],
      elim c.if-word-ne0.branch [
        | then-word-ne0 w ↦ omega (arith, count-final bytes links turn.v (turn.v + 1) next (λ e. w.if-word-ne0.true (read ∙ e)))
        | else-word-ne0 w ↦ omega (arith, count-plain bytes links turn.v (turn.v + 1) next (sym read ∙ w.if-word-ne0.false))
      ],
    )
