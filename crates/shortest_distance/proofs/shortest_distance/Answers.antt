use mathlib.Core.Path.{◌≡◌, sym, ap, ◌∙◌, subst}
use mathlib.Core.List.{List}
use Prim.Native.Nat.{ℕ, ◌≤◌}
use lib.ListN.{length}
use borrow.Author.Rules.{rules}
use Rattle.std.specs.Prelude.{Result, Err}
use Rattle.sheet.specs.declared.refusal.Refusal.{Refusal}
use Rattle.machine.proofs.Testing.{input-most}
use Rattle.shortest_distance.specs.Outcome.{distance_answer, result_after}
use Rattle.shortest_distance.specs.Promise.{Promised}
use Rattle.shortest_distance.proofs.Outcomes.{outcome-input}
use Rattle.shortest_distance.proofs.Promises.{promised-by}
use Rattle.shortest_distance.proofs.shortest_distance.Goals as goal

pub returns-in_err-m : goal.returns-in_err-m
returns-in_err-m c =
    let a = c.args in
    let bytes = a.sheet.now in
    let refused = sym c.in_err-m.ensures.number in
    let o = outcome-input bytes a.work.now a.res.now c.in_err-m.field-0.0 refused (subst (λ (n : ℕ). n ≤ 14) refused (input-most bytes)) in
    let made : c.from_residual.result ≡ Err c.in_err-m.field-0.0 = search rules in record {
      value = made ∙ o.answer-is;
      work_new = o.work-is;
      res_after = o.result-is;
      promised = subst (λ (x : Result ℕ Refusal). Promised bytes x a.res.now) (sym made) tt;
    }

pub returns-clause-promised : goal.returns-clause-promised
returns-clause-promised c =
    let a = c.args in
    let e = c.distances_of.ensures in
    let same : c.in_ok-m.m.sheet.bytes.now ≡ a.sheet.now = search rules in
    promised-by a.sheet.now (length a.work.now) a.res.now _ _
    (e.value ∙ ap (λ (bytes : List ℕ). distance_answer bytes (length a.work.now) (length a.res.now)) same)
    (e.res_after ∙ ap (λ (bytes : List ℕ). result_after bytes (length a.work.now) a.res.now) same)
