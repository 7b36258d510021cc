use mathlib.Core.Path.{◌≡◌, sym, ap, ◌∙◌}
use mathlib.Core.Bool.{cond}
use mathlib.Core.List.{List, [], ◌∷◌, ◌++◌}
use Prim.Native.Nat.{ℕ}
use native.Mathlib.Omega.{arith}
use lib.ListN.{length, length-append}
use Rattle.sheet.specs.Sheet.{parts_of}
use Rattle.decimals.specs.Decimal.{decimal}
use Rattle.text_rows.specs.Written.{and_weight, final_row}
use Rattle.row_writer.proofs.Accepted.{ended, final-on}
use Rattle.row_writer.proofs.row_text.final_length.Goals as goal

pub put_weight-requires-clause-bits_value : goal.put_weight-requires-clause-bits_value
put_weight-requires-clause-bits_value c = final-on c.args.sheet.now c.requires.short c.args.v c.in-Some.bits c.requires.within (sym c.final_bits.ensures.part ∙ c.in-Some.is)

pub returns-clause-value : goal.returns-clause-value
returns-clause-value c =
    let v = c.args.v in
    let p = parts_of c.args.sheet.now.bytes.now in
    let bits = c.in-Some.bits in
    let held = ended p v bits (sym c.final_bits.ensures.part ∙ c.in-Some.is) in
    let weight : c.put_weight.new.row ≡ and_weight bits = c.put_weight.ensures.text ∙ ap (λ (t : List ℕ). t ++ and_weight bits) c.new-weight.ensures in
    let row : decimal v ++ and_weight bits ++ (10 ∷ []) ≡ final_row p v = λ i. cond (sym held.0 i) [] (decimal v ++ and_weight (held.1 i) ++ (10 ∷ [])) in
    omega (arith, c.decimal_length.ensures.value, c.len.ensures, ap length weight, ap length row, length-append (decimal v) (and_weight bits), length-append (decimal v ++ and_weight bits) (10 ∷ []))
