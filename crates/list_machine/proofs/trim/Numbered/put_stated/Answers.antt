use Rattle.list_machine.proofs.Placing.{sets-none, stated-off}
use mathlib.Core.Path.{sym, ap, ◌∙◌}
use mathlib.Core.List.{List}
use Prim.Native.Nat.{ℕ}
use lib.Seq.{sets}
use Rattle.sheet.specs.Words.{bytes_of_all}
use Rattle.list_machine.proofs.trim.Numbered.put_stated.Goals as goal

pub returns-then-self-i-eq0-clause-res_after : goal.returns-then-self-i-eq0-clause-res_after
returns-then-self-i-eq0-clause-res_after c =
    let args = c.args in
    let old = args.res.now in
    sym (ap (λ (l : List ℕ). sets old args.at (bytes_of_all l)) (stated-off args.self.now.part.now args.i args.self.now.sheet.bytes.now args.self.now.sheet.links c.if-self-i-eq0.true) ∙ sets-none old args.at)
