use mathlib.Core.Path.{◌≡◌, ap, ◌∙◌}
use mathlib.Core.Bool.{cond}
use Prim.Native.Nat.{ℕ}
use lib.Dec.{eqb}
use Rattle.sheet.specs.Sheet.{long_trailer}
use Rattle.list_answer.specs.ListAnswer.{slots_of}
use Rattle.yeldmur.specs.Areas.{bytes_of, finals_of}
use Rattle.yeldmur.proofs.Room.{serves}
use Rattle.yeldmur.proofs.yeldmur_areas_of.Goals as goal

pub returns : goal.returns
returns c =
    let a = c.args in
    let k = c.areas_by.result in
    let told = c.areas_by.ensures in
    let marked : c.finals_of-marked.result ≡ finals_of a.nodes a.finals = c.finals_of-marked.ensures.0 in
    let slots = told.slots_after ∙ ap (λ f. cond (eqb k 0) (slots_of a.nodes a.links f a.n) a.slots.now) marked in
    let bytes = told.bytes_after ∙ ap (λ f. cond (eqb k 0) (bytes_of long_trailer a.nodes a.links f a.n) a.bytes.now) marked in record {
      value = told.value;
      slots_after = slots;
      bytes_after = bytes;
      serves = λ z.
          let first : eqb k 0 ≡ eqb 0 0 = ap (λ (j : ℕ). eqb j 0) z in
          serves a.nodes a.links a.finals a.n _ _ (told.few z) (slots ∙ ap (λ b. cond b (slots_of a.nodes a.links (finals_of a.nodes a.finals) a.n) a.slots.now) first)
          (bytes ∙ ap (λ b. cond b (bytes_of long_trailer a.nodes a.links (finals_of a.nodes a.finals) a.n) a.bytes.now) first);
    }
