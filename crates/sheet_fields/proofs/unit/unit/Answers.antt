use mathlib.Core.Path.{◌≡◌, ap, ◌∙◌}
use Prim.Native.Nat.{ℕ, ◌^◌}
use borrow.Author.Rules.{rules}
use Rattle.std.specs.Prelude.{Err}
use Rattle.sheet_fields.specs.Units.{unit_told}
use Rattle.sheet_fields.proofs.Counting.{unit-refused, unit-told}
use Rattle.sheet_fields.proofs.unit.unit.Goals as goal

pub returns-in_err-read : goal.returns-in_err-read
returns-in_err-read c =
    let r = c.in_err-read.field-0.0 in
    let bytes = c.args.sheet.now in
    let made : c.from_residual.result ≡ Err r = search rules in
    made ∙ unit-refused bytes r c.in_err-read.ensures.number

pub returns : goal.returns
returns c =
    let same : c.in_ok-read.read.bytes.now ≡ c.args.sheet.now = search rules in
    unit-told c.in_ok-read.read c.count.result (c.count.ensures ∙ ap (λ (j : ℕ). 2 ^ j) c.unit.ensures) ∙ ap unit_told same
