use mathlib.Core.Path.{sym, ap, ◌∙◌, subst}
use lib.ListN.{length}
use Rattle.std.specs.Prelude.{Result}
use Rattle.sheet.specs.declared.refusal.Refusal.{Refusal}
use Rattle.sheet.proofs.Refusals.{answer-some, refusal-told, number-positive}
use Rattle.preheat_bake.specs.declared.counts.Counts.{Counts}
use Rattle.preheat_bake.specs.Outcome.{split_number}
use Rattle.preheat_bake.specs.Promise.{Reasons}
use Rattle.preheat_bake.proofs.Outcomes.{number-known}
use Rattle.yeldmur.specs.Told.{split_told}
use Rattle.yeldmur.proofs.Parts.{part-lists}
use Rattle.yeldmur.proofs.yeldmur_split.Goals as goal

pub returns-in-Ok : goal.returns-in-Ok
returns-in-Ok c =
    let a = c.args in
    let e = c.in-Ok.ensures in record {
      value = sym (answer-some _ (split_number a.sheet.now a.c (length a.res.now)) c.in-Ok.counts e.value).0;
      second_after = ap (λ (x : Result Counts Refusal). split_told x a.first.now a.second.now) e.value;
      res_after = e.res_after;
      parted = λ z. e.promised.made;
      listed = λ z. part-lists a.sheet.now a.c c.in-Ok.counts _ e.promised.made;
      why = e.promised.why;
    }

pub returns-in-Err : goal.returns-in-Err
returns-in-Err c =
    let a = c.args in
    let e = c.in-Err.ensures in
    let room = length a.res.now in record {
      value = c.from.ensures ∙ sym (refusal-told _ (split_number a.sheet.now a.c room) (number-known a.sheet.now a.c room) c.in-Err.refusal e.value);
      second_after = (λ i. (c.from.ensures i, a.first.now, a.second.now)) ∙ ap (λ (x : Result Counts Refusal). split_told x a.first.now a.second.now) e.value;
      res_after = e.res_after;
      parted = λ z. absurd (number-positive c.in-Err.refusal (sym c.from.ensures ∙ z));
      listed = λ z. absurd (number-positive c.in-Err.refusal (sym c.from.ensures ∙ z));
      why = λ i. subst (Reasons a.sheet.now a.c room) (sym c.from.ensures) (e.promised.why i);
    }
