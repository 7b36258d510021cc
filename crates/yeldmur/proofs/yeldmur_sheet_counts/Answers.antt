use mathlib.Core.Path.{sym, ap, ◌∙◌}
use Rattle.std.specs.Prelude.{Result}
use Rattle.sheet.specs.declared.refusal.Refusal.{Refusal}
use Rattle.sheet.specs.Sheet.{read_number}
use Rattle.sheet.proofs.Refusals.{answer-some, refusal-told}
use Rattle.sheet.proofs.AcceptedSheet.{read-known}
use Rattle.sheet_fields.specs.declared.counts.SheetCounts.{SheetCounts}
use Rattle.yeldmur.specs.Told.{counts_told}
use Rattle.yeldmur.proofs.yeldmur_sheet_counts.Goals as goal

pub returns-in-Ok : goal.returns-in-Ok
returns-in-Ok c =
    let a = c.args in record {
      value = sym (answer-some _ (read_number a.sheet.now) c.in-Ok.counts c.in-Ok.ensures).0;
      start_after = ap (λ (x : Result SheetCounts Refusal). counts_told x a.nodes.now a.links.now a.finals.now a.start.now) c.in-Ok.ensures;
    }

pub returns-in-Err : goal.returns-in-Err
returns-in-Err c =
    let a = c.args in record {
      value = c.from.ensures ∙ sym (refusal-told _ (read_number a.sheet.now) (read-known a.sheet.now) c.in-Err.refusal c.in-Err.ensures);
      start_after = (λ i. (c.from.ensures i, a.nodes.now, a.links.now, a.finals.now, a.start.now)) ∙ ap (λ (x : Result SheetCounts Refusal). counts_told x a.nodes.now a.links.now a.finals.now a.start.now) c.in-Err.ensures;
    }
