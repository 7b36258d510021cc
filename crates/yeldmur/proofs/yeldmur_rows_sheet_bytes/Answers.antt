use mathlib.Core.Path.{◌≡◌, ap, ◌∙◌}
use Prim.Native.Nat.{ℕ}
use Rattle.std.proofs.Common.{rules}
use Rattle.std.specs.Prelude.{Result}
use Rattle.sheet.specs.declared.refusal.Refusal.{Refusal}
use Rattle.text_rows.specs.Convert.{rows_number, length_of, rows_in}
use Rattle.text_rows.proofs.Measuring.{rows-in-room}
use Rattle.yeldmur.specs.Told.{value_told}
use Rattle.yeldmur.proofs.Telling.{rows-known, told-in-room, widened}
use Rattle.yeldmur.proofs.yeldmur_rows_sheet_bytes.Goals as goal

pub returns : goal.returns
returns c =
    let text = c.args.text.now in
    let old = c.args.bytes.now in
    let size = length_of (rows_in text) in
    let same : c.map.result ≡ c.sheet_bytes-answer.result = widened _ c.sheet_bytes-answer.result c.map.result c.map.ensures.cases (λ x y p. search rules) in
    let told = c.tell.ensures ∙ ap (λ (a : Result ℕ Refusal). value_told a old) (same ∙ c.sheet_bytes-answer.ensures) in
    record { bytes_after = told; by_index = λ room. rows-in-room text room ∙ told-in-room (rows_number text size) size old (rows-known text size) told room }
