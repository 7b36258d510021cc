use mathlib.Core.Path.{◌≡◌, sym, ap, ◌∙◌, subst}
use mathlib.Core.Bool.{true}
use mathlib.Core.List.{List}
use Prim.Native.Nat.{ℕ}
use borrow.Author.Rules.{rules}
use Rattle.std.specs.Prelude.{Result, Err, MatchResult}
use Rattle.sheet.specs.declared.accepted.Sheet.{Sheet}
use Rattle.sheet.specs.declared.refusal.Refusal.{Refusal}
use Rattle.sheet.specs.Sheet.{parts_of}
use Rattle.sheet.specs.Refusals.{number_of}
use Rattle.text_rows.specs.Written.{has_rows, text_number}
use Rattle.rows.proofs.TextAnswers.{number-refused, number-none}
use Rattle.rows.proofs.to_rows.with_rows.Goals as goal

pub returns-in_err-sheet : goal.returns-in_err-sheet
returns-in_err-sheet c =
    let r = c.in_err-sheet.field-0.0 in
    let bytes = c.args.bytes.now in
    let made : c.from_residual.result ≡ Err r = search rules in
    subst (λ (x : Result Sheet Refusal). MatchResult x (λ s. (s.bytes.now ≡ bytes) × (has_rows (parts_of bytes) ≡ true)) (λ r. (room : ℕ) → text_number bytes room ≡ number_of r)) (sym made)
    (λ room. number-refused bytes room r c.in_err-sheet.ensures.number)

pub returns-then-not-has_rows : goal.returns-then-not-has_rows
returns-then-not-has_rows c =
    let same : c.in_ok-sheet.sheet.bytes.now ≡ c.args.bytes.now = search rules in
    λ room. number-none c.args.bytes.now room (sym c.in_ok-sheet.ensures.number)
    (ap (λ (b : List ℕ). has_rows (parts_of b)) (sym same) ∙ sym c.has_rows.ensures ∙ c.if-not-has_rows.true)
