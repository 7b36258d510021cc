use mathlib.Core.Path.{◌≡◌, sym, ap, ◌∙◌}
use mathlib.Core.Bool.{cond}
use mathlib.Core.List.{List}
use Prim.Native.Nat.{ℕ}
use native.Mathlib.Nat.{le_of_eq}
use native.Mathlib.Omega.{arith}
use lib.Dec.{eqb}
use Rattle.sheet.proofs.Round.{Below}
use Rattle.sheet.proofs.Refusals.{number-positive}
use Rattle.shortest_path.specs.Outcome.{slots_needed, tested_number}
use Rattle.shortest_path.proofs.Outcomes.{tested-input}
use Rattle.yeldmur.specs.Areas.{bytes_enough}
use Rattle.yeldmur.proofs.Telling.{kept}
use Rattle.yeldmur.proofs.Room.{enough, number_same, slots-told, bytes-told}
use Rattle.yeldmur.proofs.yeldmur_areas.Goals as goal

pub returns-in-Err : goal.returns-in-Err
returns-in-Err c =
    let a = c.args in
    let bytes = a.sheet.now in
    let r = c.in-Err.refusal in
    let number = c.in-Err.ensures.number in
    let k = c.from.result in
    let is = c.from.ensures in
    let positive : k ≡ 0 → ⊥ = λ z. number-positive r (sym is ∙ z) in record {
      value = is ∙ number ∙ sym (tested-input bytes a.n 0 (λ z. number-positive r (number ∙ z)));
      slots_after = kept k (slots_needed bytes a.n) a.slots.now positive;
      bytes_after = kept k (bytes_enough bytes a.n) a.bytes.now positive;
      enough = λ z. absurd (positive z);
    }

pub returns-in-Ok : goal.returns-in-Ok
returns-in-Ok c =
    let a = c.args in
    let sheet = a.sheet.now in
    let below : Below 256 sheet = λ i. omega (arith, c.type_inv.sheet i) in
    let m = c.in-Ok.m in
    let same : m.sheet.bytes.now ≡ sheet = λ i. (c.in-Ok.ensures.same i).now in
    let counted = c.new-finals.ensures.finals in
    let f = c.new-finals.result.finals in
    let told = c.areas_by.ensures in
    let r = c.areas_by.result in
    let slots = told.slots_after ∙ ap {B = ℕ} (λ s. cond (eqb r 0) s a.slots.now) (slots-told m f counted a.n ∙ ap (λ (s : List ℕ). slots_needed s a.n) same) in
    let bytes = told.bytes_after ∙ ap {B = ℕ} (λ b. cond (eqb r 0) b a.bytes.now) (bytes-told m f counted a.n _ c.trailer-trailer.ensures ∙ ap (λ (s : List ℕ). bytes_enough s a.n) same) in record {
      value = told.value ∙ number_same m f counted a.n ∙ ap (λ (s : List ℕ). tested_number s a.n 0) same;
      slots_after = slots;
      bytes_after = bytes;
      enough = λ z.
          let first : eqb r 0 ≡ eqb 0 0 = ap (λ (j : ℕ). eqb j 0) z in
          enough sheet below a.n _ _ (sym c.in-Ok.ensures.number) (told.few z)
          (le_of_eq (sym (slots ∙ ap {B = ℕ} (λ b. cond b (slots_needed sheet a.n) a.slots.now) first)))
          (le_of_eq (sym (bytes ∙ ap {B = ℕ} (λ b. cond b (bytes_enough sheet a.n) a.bytes.now) first)));
    }
