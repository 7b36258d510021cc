use mathlib.Core.Path.{sym, ap, ◌∙◌}
use mathlib.Core.List.{List}
use Prim.Native.Nat.{ℕ}
use lib.Seq.{sets}
use Rattle.sheet.specs.Words.{bytes_of_all}
use Rattle.sheet.proofs.Bytes.{bytes_of_all-one}
use Rattle.search_slots.specs.Slots.{input_word}
use Rattle.list_machine.proofs.Placing.{sets-none, repeat-off, repeat-on}
use Rattle.list_machine.proofs.trim.Numbered.put_input.Goals as goal

pub returns-then-self-i-eq0-clause-res_after : goal.returns-then-self-i-eq0-clause-res_after
returns-then-self-i-eq0-clause-res_after c =
    let args = c.args in
    let old = args.res.now in
    sym (ap (λ (l : List ℕ). sets old args.at (bytes_of_all l)) (repeat-off args.self.now.part.now args.i c.if-self-i-eq0.true) ∙ sets-none old args.at)

pub returns-clause-res_after : goal.returns-clause-res_after
returns-clause-res_after c =
    let args = c.args in
    let part = args.self.now.part.now in
    c.put_word.ensures ∙ ap (sets args.res.now args.at) (sym (ap bytes_of_all (repeat-on part args.i c.if-self-i-eq0.false) ∙ bytes_of_all-one (input_word part args.i)))
