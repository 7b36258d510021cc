use mathlib.Core.Path.{◌≡◌, sym, ap, ◌∙◌, subst}
use Prim.Native.Nat.{ℕ}
use lib.ListN.{length}
use Rattle.std.proofs.Common.{rules}
use Rattle.std.specs.Prelude.{Result, IfOk}
use Rattle.sheet.specs.declared.refusal.Refusal.{Refusal}
use Rattle.sheet.specs.Refusals.{number_in}
use Rattle.sheet.proofs.Refusals.{number-told}
use Rattle.two_probes.specs.Outcome.{answer_of, both_number}
use Rattle.two_probes.specs.Promise.{Allowed, Reasons}
use Rattle.two_probes.proofs.Outcomes.{number-known}
use Rattle.yeldmur.specs.Told.{value_told}
use Rattle.yeldmur.proofs.Telling.{value-number, length-told, widened}
use Rattle.yeldmur.proofs.yeldmur_two_probes.Goals as goal

pub returns : goal.returns
returns c =
    let a = c.args in
    let first = a.first.now in
    let second = a.second.now in
    let room = length a.res.now in
    let call = c.two_probes-made in
    let same : c.map.result ≡ call.result = widened _ call.result c.map.result c.map.ensures.cases (λ x y p. search rules) in
    let told = c.tell.ensures ∙ ap (λ (x : Result ℕ Refusal). value_told x a.size.now) (same ∙ call.ensures.value) in
    let number = value-number (length (answer_of first second)) (both_number first second room) a.size.now (number-known first second room) told in
    let answered = ap number_in call.ensures.value ∙ number-told (length (answer_of first second)) (both_number first second room) (number-known first second room) in record {
      value = number;
      size_after = told;
      res_after = call.ensures.res_after;
      allowed = λ z. subst (λ (r : Result ℕ Refusal). IfOk r (λ size. Allowed first second size c.two_probes-made.new.res)) (sym same ∙ length-told c.map.result a.size.now c.tell.ensures z) call.ensures.promised.made;
      why = λ i j. subst (Reasons first second room) (answered ∙ sym number) (call.ensures.promised.why i j);
    }
