use mathlib.Core.Path.{◌≡◌, ap, ◌∙◌}
use Prim.Native.Nat.{ℕ}
use lib.ListN.{length}
use Rattle.std.proofs.Common.{rules}
use Rattle.std.specs.Prelude.{Result}
use Rattle.sheet.specs.declared.refusal.Refusal.{Refusal}
use Rattle.sheet.specs.Sheet.{parts_of}
use Rattle.text_rows.specs.Written.{text_of, text_number}
use Rattle.text_rows.proofs.Measuring.{text_in-room}
use Rattle.yeldmur.specs.Told.{value_told}
use Rattle.yeldmur.proofs.Telling.{text-known, told-in-room, widened}
use Rattle.yeldmur.proofs.yeldmur_sheet_rows_bytes.Goals as goal

pub returns : goal.returns
returns c =
    let sheet = c.args.sheet.now in
    let old = c.args.bytes.now in
    let size = length (text_of (parts_of sheet)) in
    let same : c.map.result ≡ c.rows_bytes-answer.result = widened _ c.rows_bytes-answer.result c.map.result c.map.ensures.cases (λ x y p. search rules) in
    let told = c.tell.ensures ∙ ap (λ (a : Result ℕ Refusal). value_told a old) (same ∙ c.rows_bytes-answer.ensures) in
    record { bytes_after = told; by_index = λ room. text_in-room sheet room ∙ told-in-room (text_number sheet size) size old (text-known sheet size) told room }
