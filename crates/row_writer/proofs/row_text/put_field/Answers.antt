use mathlib.Core.Path.{sym, ap, ◌∙◌}
use mathlib.Core.Bool.{Bool, cond}
use mathlib.Core.List.{List, ◌++◌}
use Prim.Native.Nat.{ℕ}
use lib.Ieee.{binary32, of_bits}
use borrow.Author.Tests.{eq-eqb, ne_eqb}
use Rattle.tropical_weight.specs.Limits.{unit}
use Rattle.tropical_weight.specs.Grid as Grid
use Rattle.sheet.specs.Sheet.{barred_bits}
use Rattle.text_rows.specs.Fields.{infinity_text}
use Rattle.text_rows.specs.Written.{weight_text}
use Rattle.row_writer.proofs.Weights.{on-grid, units-held}
use Rattle.row_writer.proofs.row_text.put_field.Goals as goal

pub returns-then-bits-eq-BARRED-clause-text : goal.returns-then-bits-eq-BARRED-clause-text
unfolding infinity_text
returns-then-bits-eq-BARRED-clause-text c =
    let args = c.args in
    let is = ap (λ (b : Bool). cond b infinity_text (weight_text (Grid.units_of unit (of_bits binary32 args.bits)))) (sym (eq-eqb args.bits barred_bits c.if-bits-eq-BARRED.true)) in
    c.put_text.ensures ∙ ap (λ (t : List ℕ). args.row.now ++ t) is

pub put_units-requires-clause-units_bound : goal.put_units-requires-clause-units_bound
put_units-requires-clause-units_bound c =
    let bits = c.args.bits in
    (units-held bits (on-grid bits c.requires.bits_value c.if-bits-eq-BARRED.false) c.from_bits.result c.cost.result c.from_bits.ensures c.cost.ensures).1

pub returns-clause-text : goal.returns-clause-text
returns-clause-text c =
    let bits = c.args.bits in
    let left = c.if-bits-eq-BARRED.false in
    let held = units-held bits (on-grid bits c.requires.bits_value left) c.from_bits.result c.cost.result c.from_bits.ensures c.cost.ensures in
    let is = ap (λ (b : Bool). cond b infinity_text (weight_text (Grid.units_of unit (of_bits binary32 bits)))) (sym (ne_eqb bits barred_bits left)) in
    c.put_units.ensures.text ∙ ap (λ (t : List ℕ). c.args.row.now ++ t) (ap weight_text held.0 ∙ is)
