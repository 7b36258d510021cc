use mathlib.Core.Path.{◌≡◌, ap, ◌∙◌}
use Prim.Native.Nat.{ℕ}
use native.Mathlib.Omega.{arith}
use borrow.Author.Rules.{rules}
use Rattle.std.specs.Prelude.{Ok, Err}
use Rattle.text_rows.specs.Convert.{length_of, rows_in}
use Rattle.row_reader.specs.declared.survey.Survey.{Survey}
use Rattle.rows.proofs.Judging.{passed, size_is, rows_are, answer-refused, answer-long}
use Rattle.rows.proofs.Making.{few}
use Rattle.rows.proofs.to_sheet.sheet_bytes.Goals as goal

pub length_of-requires : goal.length_of-requires
length_of-requires c =
    let s = c.in_ok-s.s in
    let text = c.args.text.now in
    let g = passed text s c.in_ok-s.ensures in
    omega (arith, (few text s g).1, ap (λ (x : Survey). x.links) g.is)

pub returns-in_err-s : goal.returns-in_err-s
returns-in_err-s c =
    let text = c.args.text.now in
    let r = c.in_err-s.field-0.0 in
    let made : c.from_residual.result ≡ Err r = search rules in
    made ∙ answer-refused (length_of (rows_in text)) text r c.in_err-s.ensures

pub returns : goal.returns
returns c =
    let s = c.in_ok-s.s in
    let text = c.args.text.now in
    let g = passed text s c.in_ok-s.ensures in
    ap (λ (n : ℕ). Ok n) (c.length_of.ensures ∙ size_is text s g) ∙ answer-long (length_of (rows_in text)) text s g (omega (arith, ap length_of (rows_are 0 text s g)))
