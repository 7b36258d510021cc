use mathlib.Core.Path.{◌≡◌, sym, ap, ◌∙◌}
use Prim.Native.Nat.{ℕ}
use lib.ListN.{length}
use Rattle.std.proofs.Common.{rules}
use Rattle.std.specs.Prelude.{Result}
use Rattle.sheet.specs.declared.refusal.Refusal.{Refusal}
use Rattle.text_rows.specs.Convert.{rows_in, length_of, rows_number}
use Rattle.yeldmur.specs.Told.{value_told}
use Rattle.yeldmur.proofs.Telling.{rows-known, value-number, length-told, widened}
use Rattle.yeldmur.proofs.yeldmur_rows_to_sheet.Goals as goal

pub returns : goal.returns
returns c =
    let a = c.args in
    let call = c.rows_to_sheet-answer in
    let same : c.map.result ≡ call.result = widened _ call.result c.map.result c.map.ensures.cases (λ x y p. search rules) in
    let told = c.tell.ensures ∙ ap (λ (x : Result ℕ Refusal). value_told x a.size.now) (same ∙ call.ensures.value) in record {
      value = value-number (length_of (rows_in a.text.now)) (rows_number a.text.now (length a.res.now)) a.size.now (rows-known a.text.now (length a.res.now)) told;
      size_after = told;
      res_after = call.ensures.res_after;
      made = λ z. call.ensures.by_index c.tell.new.value (sym same ∙ length-told c.map.result a.size.now c.tell.ensures z);
    }
