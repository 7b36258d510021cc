use mathlib.Core.Path.{◌≡◌, sym, ap, ◌∙◌, subst}
use mathlib.Core.List.{List}
use Prim.Native.Nat.{ℕ, ◌≤◌}
use native.Mathlib.Omega.{arith}
use lib.ListN.{length}
use borrow.Author.Rules.{rules}
use Rattle.std.specs.Prelude.{Result, Err}
use Rattle.sheet.specs.declared.refusal.Refusal.{Refusal}
use Rattle.list_answer.specs.declared.Listed.{Listed}
use Rattle.machine.proofs.Testing.{input-most}
use Rattle.shortest_path.specs.Outcome.{list_answer, result_after}
use Rattle.shortest_path.specs.Promise.{Promised}
use Rattle.shortest_path.proofs.Outcomes.{outcome-input}
use Rattle.shortest_path.proofs.Promises.{promised-by}
use Rattle.shortest_path.proofs.shortest_path.Goals as goal

pub returns-in_err-machine : goal.returns-in_err-machine
returns-in_err-machine c =
    let a = c.args in
    let bytes = a.sheet.now in
    let refused = sym c.in_err-machine.ensures.number in
    let o = outcome-input bytes a.n a.work.now a.res.now c.in_err-machine.field-0.0 refused (subst (λ (n : ℕ). n ≤ 14) refused (input-most bytes)) in
    let made : c.from_residual.result ≡ Err c.in_err-machine.field-0.0 = search rules in record {
      value = made ∙ o.answer-is;
      work_new = o.work-is;
      res_after = o.result-is;
      promised = subst (λ (x : Result Listed Refusal). Promised bytes a.n x a.res.now) (sym made) tt;
    }

pub returns-clause-promised : goal.returns-clause-promised
returns-clause-promised c =
    let a = c.args in
    let e = c.lists_of.ensures in
    let same : c.in_ok-machine.machine.sheet.bytes.now ≡ a.sheet.now = search rules in
    promised-by a.sheet.now (λ i. omega (arith, c.type_inv.sheet i)) a.n (length a.work.now) a.res.now _ _
    (e.value ∙ ap (λ (bytes : List ℕ). list_answer bytes a.n (length a.work.now) (length a.res.now)) same)
    (e.res_after ∙ ap (λ (bytes : List ℕ). result_after bytes a.n (length a.work.now) a.res.now) same)
