use mathlib.Core.Path.{sym, ap, ◌∙◌}
use native.Mathlib.Omega.{arith}
use lib.ListN.{length}
use Rattle.std.specs.Prelude.{Result}
use Rattle.sheet.specs.declared.refusal.Refusal.{Refusal}
use Rattle.sheet.proofs.Refusals.{answer-some, refusal-told, number-positive}
use Rattle.list_answer.specs.declared.Listed.{Listed}
use Rattle.shortest_path.specs.Outcome.{list_number}
use Rattle.nested_costs.proofs.NestedCosts.{shorter-lists}
use Rattle.yeldmur.specs.Told.{listed_told}
use Rattle.yeldmur.proofs.Telling.{list-known}
use Rattle.yeldmur.proofs.yeldmur_shortest_path.Goals as goal

pub returns-in-Ok : goal.returns-in-Ok
returns-in-Ok c =
    let a = c.args in
    let e = c.in-Ok.ensures in record {
      value = sym (answer-some _ (list_number a.sheet.now a.n (length a.work.now) (length a.res.now)) c.in-Ok.made e.value).0;
      taken_after = ap (λ (l : Result Listed Refusal). listed_told l a.states.now a.links.now a.taken.now) e.value;
      work_new = e.work_new;
      res_after = e.res_after;
      keeps = λ z. e.promised;
      shorter = λ z. shorter-lists a.sheet.now (λ i. omega (arith, c.type_inv.sheet i)) a.n (length a.work.now) a.res.now (record { told = c.in-Ok.made; answers = sym e.value }) _ e.promised;
    }

pub returns-in-Err : goal.returns-in-Err
returns-in-Err c =
    let a = c.args in
    let e = c.in-Err.ensures in
    let k = list_number a.sheet.now a.n (length a.work.now) (length a.res.now) in record {
      value = c.from.ensures ∙ sym (refusal-told _ k (list-known a.sheet.now a.n (length a.work.now) (length a.res.now)) c.in-Err.refusal e.value);
      taken_after = (λ i. (c.from.ensures i, a.states.now, a.links.now, a.taken.now)) ∙ ap (λ (l : Result Listed Refusal). listed_told l a.states.now a.links.now a.taken.now) e.value;
      work_new = e.work_new;
      res_after = e.res_after;
      keeps = λ z. absurd (number-positive c.in-Err.refusal (sym c.from.ensures ∙ z));
      shorter = λ z. absurd (number-positive c.in-Err.refusal (sym c.from.ensures ∙ z));
    }
