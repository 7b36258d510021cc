use mathlib.Core.Path.{ap, ◌∙◌}
use mathlib.Core.List.{List}
use Prim.Native.Nat.{ℕ, ◌+◌, ◌*◌}
use lib.ListN.{get_or}
use lib.Seq.{sets}
use borrow.Author.Rules.{rules}
use Rattle.sheet.specs.Words.{bytes_of, bytes_of_all}
use Rattle.sheet.proofs.Bytes.{sets_word}
use Rattle.sheet.proofs.words.put_words.Goals as goal

pub loop-i-init : goal.loop-i-init
unfolding bytes_of_all
loop-i-init c = search rules

pub loop-i-preserved : goal.loop-i-preserved
loop-i-preserved c =
    let turn = c.loop-i in
    let args = c.args in
    let ws = args.words.now in
    c.put_word.ensures ∙ ap (λ (l : List ℕ). sets l (args.at + 4 * turn.i) (bytes_of (get_or ws turn.i 0))) turn.invariant ∙ sets_word args.bytes.now args.at ws turn.i (search rules)
