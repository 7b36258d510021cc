use mathlib.Core.Path.{sym, ap, ◌∙◌}
use mathlib.Core.Bool.{Bool, cond}
use Prim.Native.Nat.{ℕ}
use Rattle.std.specs.Prelude.{Err}
use Rattle.sheet.specs.declared.form.Form.{Form}
use Rattle.sheet.specs.declared.refusal.Refusal.TheVariants as Refusal
use Rattle.sheet.specs.Sheet.{unit_of, unit_fits}
use Rattle.sheet.specs.Machine.{machine}
use Rattle.sheet.proofs.Apart.{not-both}
use Rattle.read_distance.specs.Told.{Told, distance_told}
use Rattle.yeldmur.specs.Told.{node_distance_told}
use Rattle.yeldmur.proofs.InUnit.{unit-again}
use Rattle.yeldmur.proofs.yeldmur_distance_in.Goals as goal

pub returns-then-not-fits : goal.returns-then-not-fits
returns-then-not-fits c =
    let a = c.args in
    let no = sym c.fits.ensures ∙ c.if-not-fits.true in record {
      cost_after =
          (λ i. (c.from.ensures i, a.reached.now, a.cost.now))
          ∙ sym (ap (λ (b : Bool). node_distance_told (cond b (distance_told (unit_of (Form.Long a.unit)) a.res.now a.values a.node) (Err Refusal.Unit)) a.reached.now a.cost.now) no);
      by_index = λ sheet holds same below. absurd (not-both (ap (λ (u : ℕ). unit_fits (Form.Long u)) same ∙ (unit-again (machine sheet).form).0) no);
    }

pub returns : goal.returns
returns c =
    let a = c.args in
    let yes = sym c.fits.ensures ∙ c.if-not-fits.false in
    let told = c.tell_distance.ensures in record {
      cost_after =
          told ∙ ap (λ (t : Told). node_distance_told t a.reached.now a.cost.now) (c.distance_at.ensures.value ∙ ap (λ (j : ℕ). distance_told j a.res.now a.values a.node) c.unit.ensures)
          ∙ sym (ap (λ (b : Bool). node_distance_told (cond b (distance_told (unit_of (Form.Long a.unit)) a.res.now a.values a.node) (Err Refusal.Unit)) a.reached.now a.cost.now) yes);
      by_index = λ sheet holds same below.
          let unit = c.unit.ensures ∙ ap (λ (u : ℕ). unit_of (Form.Long u)) same ∙ (unit-again (machine sheet).form).1 in
          told ∙ ap (λ (t : Told). node_distance_told t a.reached.now a.cost.now) (c.distance_at.ensures.read_back sheet holds unit below);
    }
