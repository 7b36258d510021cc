use mathlib.Core.Path.{◌≡◌, sym, ap, ◌∙◌}
use Prim.Native.Nat.{ℕ}
use lib.ListN.{length}
use Rattle.std.proofs.Common.{rules}
use Rattle.std.specs.Prelude.{Result}
use Rattle.sheet.specs.declared.form.Form.TheVariants as Form
use Rattle.sheet.specs.declared.refusal.Refusal.{Refusal}
use Rattle.sheet.specs.Sheet.{sheet_length, write_number}
use Rattle.sheet.specs.Answers.{parts}
use Rattle.yeldmur.specs.Told.{value_told}
use Rattle.yeldmur.proofs.Telling.{write-known, value-number, length-told, widened}
use Rattle.yeldmur.proofs.yeldmur_write_sheet.Goals as goal

pub returns : goal.returns
returns c =
    let a = c.args in
    let p = parts a.links.now a.nodes.now a.start Form.Short in
    let call = c.write-written in
    let same : c.map.result ≡ call.result = widened _ call.result c.map.result c.map.ensures.cases (λ x y p. search rules) in
    let told = c.tell.ensures ∙ ap (λ (x : Result ℕ Refusal). value_told x a.size.now) (same ∙ call.ensures.value) in record {
      value = value-number (sheet_length p) (write_number p (length a.res.now)) a.size.now (write-known p (length a.res.now)) told;
      size_after = told;
      res_after = call.ensures.res_after;
      read_back = λ z. call.ensures.by_index c.tell.new.value (sym same ∙ length-told c.map.result a.size.now c.tell.ensures z);
    }
