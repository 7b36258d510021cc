use mathlib.Core.List.{[], ◌∷◌, List}
use borrow.Author.Rules.{rules}
use mathlib.Core.Path.{sym, ap, ◌∙◌}
use Prim.Native.Nat.{ℕ, ◌+◌, ◌*◌}
use native.Mathlib.Omega.{arith}
use lib.Seq.{sets}
use Rattle.sheet.specs.Words.{bytes_of_all}
use Rattle.sheet.specs.Sheet.{node_length}
use Rattle.list_answer.specs.ListAnswer.{state_words}
use Rattle.sheet.proofs.Bytes.{stored_next}
use Rattle.list_answer.proofs.Stores.{states-next, length-states}
use Rattle.list_answer.proofs.put_states.Goals as goal

pub loop-k-init : goal.loop-k-init
unfolding state_words bytes_of_all
loop-k-init c = search rules

pub loop-k-preserved : goal.loop-k-preserved
loop-k-preserved c =
    let turn = c.loop-k in
    let args = c.args in
    let call = c.put_words in
    stored_next args.res.now turn.res call.new.bytes args.at (state_words turn.k) (1 ∷ 0 ∷ 0 ∷ []) (args.at + node_length * turn.k) turn.invariant call.ensures (omega (arith, length-states turn.k))
    ∙ ap (λ (l : List ℕ). sets args.res.now args.at (bytes_of_all l)) (sym (states-next turn.k))
