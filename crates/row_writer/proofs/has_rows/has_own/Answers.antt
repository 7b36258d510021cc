use mathlib.Core.Path.{sym, ap, ◌∙◌}
use mathlib.Core.Bool.{Bool, not, ◌||◌}
use lib.Dec.{eqb}
use Rattle.std.proofs.Common.{is_some}
use borrow.Author.Tests.{eq-eqb}
use Rattle.sheet.specs.Sheet.{count, mark, parts_of}
use Rattle.row_writer.proofs.Accepted.{end-marked}
use Rattle.row_writer.proofs.has_rows.has_own.Goals as goal

pub returns-else-count-ne0 : goal.returns-else-count-ne0
returns-else-count-ne0 c =
    let s = c.args.sheet.now in
    let p = parts_of s.bytes.now in
    let v = c.args.v in
    c.is_some.ensures ∙ ap is_some c.final_bits.ensures.part ∙ end-marked s v c.requires
    ∙ sym (ap (λ (b : Bool). not b || eqb (mark p v) 1) (eq-eqb (count p v) 0 (sym c.count.ensures.part ∙ c.if-count-ne0.false)))
