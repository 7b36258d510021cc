use mathlib.Core.List.{[], ◌∷◌, List}
use Rattle.search_slots.specs.Slots.{listed_word, state_word}
use borrow.Author.Rules.{rules}
use mathlib.Core.Path.{sym, ap, ◌∙◌}
use Prim.Native.Nat.{ℕ, ◌*◌}
use native.Mathlib.Omega.{arith}
use lib.Seq.{sets}
use Rattle.sheet.specs.Words.{bytes_of_all}
use Rattle.sheet.specs.Sheet.{link_length}
use Rattle.list_machine.specs.TrimWords.{start_words}
use Rattle.sheet.proofs.Bytes.{stored_next}
use Rattle.list_machine.proofs.Placing.{start-next, length-start}
use Rattle.list_machine.proofs.trim.Numbered.put_start_links.Goals as goal

pub loop-k-init : goal.loop-k-init
unfolding start_words bytes_of_all
loop-k-init c = search rules

pub loop-k-preserved : goal.loop-k-preserved
loop-k-preserved c =
    let turn = c.loop-k in
    let old = c.args.res.now in
    let part = c.args.self.now.part.now in
    let call = c.put_words in
    stored_next old turn.res call.new.bytes 0 (start_words part turn.k) (0 ∷ 0 ∷ 0 ∷ state_word part (listed_word part turn.k) ∷ []) (link_length * turn.k) turn.invariant call.ensures (omega (arith, length-start part turn.k))
    ∙ ap (λ (l : List ℕ). sets old 0 (bytes_of_all l)) (sym (start-next part turn.k))
