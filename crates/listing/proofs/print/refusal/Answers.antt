use mathlib.Core.Path.{sym, ◌∙◌}
use Rattle.sheet.proofs.Refusals.{number-positive}
use Rattle.shortest_path.proofs.Outcomes.{tested-input, tested-seven, tested-last}
use Rattle.listing.proofs.print.refusal.Goals as goal

pub returns-in-Err : goal.returns-in-Err
returns-in-Err c =
    let number = c.in-Err.ensures.number in
    number ∙ sym (tested-input c.args.sheet.now c.args.n 20 (λ z. number-positive c.in-Err.refusal (number ∙ z)))

pub returns-then-n-gt-LIST_LIMIT : goal.returns-then-n-gt-LIST_LIMIT
returns-then-n-gt-LIST_LIMIT c = sym (tested-seven c.args.sheet.now c.args.n 20 (sym c.in-Ok.ensures.number) c.if-n-gt-LIST_LIMIT.true)

pub returns-else-n-gt-LIST_LIMIT : goal.returns-else-n-gt-LIST_LIMIT
returns-else-n-gt-LIST_LIMIT c = sym (tested-last c.args.sheet.now c.args.n 20 (sym c.in-Ok.ensures.number) c.if-n-gt-LIST_LIMIT.false)
