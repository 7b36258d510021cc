use mathlib.Core.Path.{sym, ap, ◌∙◌}
use mathlib.Core.Bool.{cond}
use mathlib.Core.List.{List, [], ◌∷◌, ◌++◌}
use Prim.Native.Nat.{ℕ}
use Rattle.sheet.specs.Sheet.{parts_of}
use Rattle.decimals.specs.Decimal.{decimal}
use Rattle.text_rows.specs.Written.{and_weight}
use Rattle.row_writer.proofs.Accepted.{ended, final-on}
use Rattle.row_writer.proofs.row_text.final_row.Goals as goal

pub put_weight-requires-clause-bits_value : goal.put_weight-requires-clause-bits_value
put_weight-requires-clause-bits_value c = final-on c.args.sheet.now c.requires.short c.args.v c.in-Some.bits c.requires.within (sym c.final_bits.ensures.part ∙ c.in-Some.is)

pub returns-clause-text : goal.returns-clause-text
returns-clause-text c =
    let v = c.args.v in
    let held = ended (parts_of c.args.sheet.now.bytes.now) v c.in-Some.bits (sym c.final_bits.ensures.part ∙ c.in-Some.is) in
    let node = c.put_decimal.ensures.value ∙ ap (λ (t : List ℕ). t ++ decimal v) c.new-row.ensures in
    let weighed = c.put_weight.ensures.text ∙ (λ i. node i ++ and_weight (held.1 i)) in
    c.put_byte.ensures ∙ (λ i. cond (sym held.0 i) [] (weighed i ++ (10 ∷ [])))
