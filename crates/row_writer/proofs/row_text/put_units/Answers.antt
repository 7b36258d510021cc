use mathlib.Core.Path.{◌≡◌, ap, ◌∙◌}
use mathlib.Core.List.{List, ◌++◌}
use Rattle.std.proofs.lemmas.List.{append_assoc}
use Prim.Native.Nat.{ℕ}
use lib.IntN.{nat_abs}
use mir.Syntax.{w32}
use mir.ValLaws.{to_z-of_z}
use Rattle.decimals.specs.Decimal.{sign_text}
use Rattle.text_rows.specs.Written.{magnitude_text}
use Rattle.row_writer.proofs.Weights.{weight-signed}
use Rattle.row_writer.proofs.row_text.put_units.Goals as goal

pub returns-clause-text : goal.returns-clause-text
returns-clause-text c =
    let units = c.args.units in
    let row = c.args.row.now in
    let read = to_z-of_z w32 units c.ranges.units in
    let size : c.magnitude.result ≡ nat_abs units = c.magnitude.ensures ∙ ap nat_abs read in
    c.put_magnitude.ensures.text
    ∙ (λ i. (c.put_sign.ensures.value ∙ ap (λ z. row ++ sign_text z) read) i ++ magnitude_text (size i))
    ∙ append_assoc row (sign_text units) (magnitude_text (nat_abs units))
    ∙ ap (λ (t : List ℕ). row ++ t) (weight-signed units)
