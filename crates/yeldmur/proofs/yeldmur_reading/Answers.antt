use mathlib.Core.Path.{ap}
use Prim.Native.Nat.{ℕ}
use lib.IntN.{ℤ}
use mir.Syntax.{w32}
use mir.Val.{SFits}
use mir.ValLaws.{to_z-of_z}
use borrow.Author.Rules.{rules}
use Rattle.yeldmur.proofs.ReadBack.{reading-all}
use Rattle.yeldmur.proofs.yeldmur_reading.Goals as goal

pub returns-in-Ok : goal.returns-in-Ok
returns-in-Ok c =
    let a = c.args in
    let e = c.in-Ok.ensures in
    let given = c.in-Ok.told in
    let fits : SFits w32 given.cost = search rules in
    let numbers = ap {B = ℕ × ℕ × ℤ × ℕ} (λ (z : ℤ). (0, given.links, z, given.end)) (to_z-of_z w32 given.cost fits) in
    let told = reading-all a.sheet.now a.n a.res.now a.states a.links a.k a.run.now _ _ e.reads_list e.tells_true _ _ _ _ a.count.now a.cost.now a.end.now e.value e.run_new numbers in
    record { value = told.0; end_after = told.1.0; run_new = told.1.1.0; succeeds = told.1.1.1.0; reading_told_is = told.1.1.1.1 }

pub returns-in-Err : goal.returns-in-Err
returns-in-Err c =
    let a = c.args in
    let e = c.in-Err.ensures in
    let told = reading-all a.sheet.now a.n a.res.now a.states a.links a.k a.run.now _ _ e.reads_list e.tells_true _ _ _ _ a.count.now a.cost.now a.end.now e.value e.run_new (λ i. (c.from.ensures i, a.count.now, a.cost.now, a.end.now)) in
    record { value = told.0; end_after = told.1.0; run_new = told.1.1.0; succeeds = told.1.1.1.0; reading_told_is = told.1.1.1.1 }
