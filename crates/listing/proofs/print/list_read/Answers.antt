use mathlib.Core.Path.{sym, ap, ◌∙◌}
use Prim.Native.Nat.{ℕ}
use Rattle.listing.specs.Printed.{listing_number, printing_number}
use Rattle.listing.proofs.Printing.{long-number, large-number}
use Rattle.listing.proofs.print.list_read.Goals as goal

pub returns-then-sheet-gt-SHEET_MOST-clause-number : goal.returns-then-sheet-gt-SHEET_MOST-clause-number
returns-then-sheet-gt-SHEET_MOST-clause-number c = sym (ap printing_number c.in-Some.ensures.cases.0 ∙ long-number c.in-Some.first.now c.in-Some.sheet.now c.if-sheet-gt-SHEET_MOST.true)

pub returns-then-n-gt-LIST_MOST-clause-number : goal.returns-then-n-gt-LIST_MOST-clause-number
returns-then-n-gt-LIST_MOST-clause-number c =
    let sheet = c.in-Some.sheet.now in
    sym (ap printing_number c.in-Some.ensures.cases.0 ∙ ap (λ (n : ℕ). listing_number n sheet) (sym c.from-n.ensures) ∙ large-number c.from-n.result sheet c.if-sheet-gt-SHEET_MOST.false c.if-n-gt-LIST_MOST.true ∙ sym c.refusal.ensures)
