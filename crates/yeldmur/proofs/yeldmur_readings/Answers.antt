use Rattle.yeldmur.proofs.ReadBack.{counted-all}
use Rattle.yeldmur.proofs.yeldmur_readings.Goals as goal

pub returns : goal.returns
returns c =
    let a = c.args in
    let call = c.count_readings-readings in
    let told = counted-all a.res.now a.n a.states a.links call.result _ _ a.count.now call.ensures.value call.ensures.counts_list c.tell.ensures in
    record { value = told.0; count_after = told.1.0; count_told = told.1.1 }
