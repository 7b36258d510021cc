use mathlib.Core.Path.{◌≡◌, sym, ap, ◌∙◌}
use Prim.Native.Nat.{ℕ}
use lib.ListN.{length}
use Rattle.std.proofs.Common.{rules}
use Rattle.std.specs.Prelude.{Result}
use Rattle.sheet.specs.declared.refusal.Refusal.{Refusal}
use Rattle.sheet.specs.Sheet.{parts_of}
use Rattle.text_rows.specs.Written.{text_of, text_number}
use Rattle.yeldmur.specs.Told.{value_told}
use Rattle.yeldmur.proofs.Telling.{text-known, value-number, length-told, told-refused, widened}
use Rattle.yeldmur.proofs.yeldmur_sheet_to_rows.Goals as goal

pub returns : goal.returns
returns c =
    let a = c.args in
    let call = c.sheet_to_rows-answer in
    let same : c.map.result ≡ call.result = widened _ call.result c.map.result c.map.ensures.cases (λ x y p. search rules) in
    let told = c.tell.ensures ∙ ap (λ (x : Result ℕ Refusal). value_told x a.size.now) (same ∙ call.ensures.value) in record {
      value = value-number (length (text_of (parts_of a.sheet.now))) (text_number a.sheet.now (length a.res.now)) a.size.now (text-known a.sheet.now (length a.res.now)) told;
      size_after = told;
      res_after = call.ensures.res_after;
      returned = λ z. call.ensures.by_index c.tell.new.value (sym same ∙ length-told c.map.result a.size.now c.tell.ensures z);
      no_text = λ z. call.ensures.no_text (sym same ∙ told-refused c.map.result a.size.now Refusal.NoRows c.tell.ensures z);
    }
