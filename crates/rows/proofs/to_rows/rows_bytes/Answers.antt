use mathlib.Core.Path.{◌≡◌, sym, ap, ◌∙◌}
use mathlib.Core.List.{List}
use Prim.Native.Nat.{ℕ}
use native.Mathlib.Omega.{arith}
use lib.ListN.{length}
use Rattle.std.specs.Prelude.{Ok}
use Rattle.sheet.specs.Sheet.{read_number, parts_of}
use Rattle.sheet.proofs.Refusals.{answer-ok}
use Rattle.text_rows.specs.Written.{text_of, text_number}
use Rattle.rows.proofs.TextAnswers.{number-fits}
use Rattle.rows.proofs.to_rows.rows_bytes.Goals as goal

pub returns : goal.returns
returns c =
    let bytes = c.args.sheet.now in
    let size = length (text_of (parts_of bytes)) in
    let same = c.in_ok-read.ensures.0 in
    let read : read_number bytes ≡ 0 = ap read_number (sym same) ∙ c.in_ok-read.read.accepted in
    ap (λ (n : ℕ). Ok n) (c.text_length.ensures ∙ ap (λ (b : List ℕ). length (text_of (parts_of b))) same)
    ∙ sym (answer-ok size (text_number bytes size) (number-fits bytes size read c.in_ok-read.ensures.1 (omega arith)))
