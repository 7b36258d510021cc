use mathlib.Core.Path.{ap, ◌∙◌, subst}
use Prim.Native.Nat.{ℕ}
use lib.ListN.{length}
use Rattle.std.specs.Prelude.{Result}
use Rattle.sheet.specs.declared.refusal.Refusal.{Refusal}
use Rattle.sheet.specs.Machine.{machine}
use Rattle.machine.specs.Distance.{distances}
use Rattle.shortest_distance.specs.Outcome.{distance_number}
use Rattle.shortest_distance.specs.Promise.{Promised}
use Rattle.yeldmur.specs.Told.{value_told}
use Rattle.yeldmur.proofs.Telling.{distance-known, value-number, length-told}
use Rattle.yeldmur.proofs.yeldmur_shortest_distance.Goals as goal

pub returns : goal.returns
returns c =
    let a = c.args in
    let call = c.shortest_distance-made in
    let told = c.tell.ensures ∙ ap (λ (x : Result ℕ Refusal). value_told x a.values.now) call.ensures.value in record {
      value = value-number (length (distances (machine a.sheet.now))) (distance_number a.sheet.now (length a.work.now) (length a.res.now)) a.values.now (distance-known a.sheet.now (length a.work.now) (length a.res.now)) told;
      values_after = told;
      work_new = call.ensures.work_new;
      res_after = call.ensures.res_after;
      least = λ z. subst (λ (d : Result ℕ Refusal). Promised a.sheet.now d call.new.res) (length-told call.result a.values.now c.tell.ensures z) call.ensures.promised;
    }
