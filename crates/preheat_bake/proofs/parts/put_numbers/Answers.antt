use mathlib.Core.Path.{◌≡◌, refl, sym, ap, ◌∙◌}
use mathlib.Core.List.{[], ◌∷◌}
use Prim.Native.Nat.{ℕ, ◌+◌, ◌*◌}
use native.Mathlib.Numerals.{add-one}
use lib.ListN.{length}
use lib.Seq.{sets}
use Rattle.sheet.specs.Below.{list_below}
use Rattle.sheet.specs.Words.{word_length, bytes_of_all}
use Rattle.sheet.proofs.Below.{length-list_below}
use Rattle.sheet.proofs.Bytes.{bytes_of_all-one, sets-words}
use Rattle.preheat_bake.proofs.parts.put_numbers.Goals as goal

pub loop-i-init : goal.loop-i-init
unfolding list_below bytes_of_all
loop-i-init c = refl

pub loop-i-preserved : goal.loop-i-preserved
unfolding list_below
loop-i-preserved c =
    let turn = c.loop-i in
    let at = c.args.at in
    let from = c.args.from in
    let f : ℕ → ℕ = λ i. from + i in
    let place : at + word_length * turn.i ≡ at + word_length * length (list_below turn.i f) = ap (λ (n : ℕ). at + word_length * n) (sym (length-list_below turn.i f)) in
    c.put_word.ensures
    ∙ (λ i. sets (turn.invariant i) (at + word_length * turn.i) (sym (bytes_of_all-one (from + turn.i)) i))
    ∙ sets-words c.args.res.now at (list_below turn.i f) ((from + turn.i) ∷ []) (at + word_length * turn.i) place
    ∙ ap (λ (n : ℕ). sets c.args.res.now at (bytes_of_all (list_below n f))) (sym (add-one turn.i))
