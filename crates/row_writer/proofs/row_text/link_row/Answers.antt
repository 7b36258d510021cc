use mathlib.Core.Path.{◌≡◌, ap, ◌∙◌}
use mathlib.Core.List.{List, [], ◌∷◌, ◌++◌}
use Prim.Native.Nat.{ℕ}
use Rattle.decimals.specs.Decimal.{decimal}
use Rattle.text_rows.specs.Written.{and_number, and_weight}
use Rattle.tropical_weight.specs.Limits.{unit}
use Rattle.sheet.specs.declared.tr.Link.{Link}
use Rattle.sheet.specs.Sheet.{weight_fits, parts_of, next, ilabel, olabel}
use Rattle.row_writer.proofs.Accepted.{link_on, next_at, ilabel-at, olabel-at}
use Rattle.row_writer.proofs.row_text.link_row.Goals as goal

pub put_weight-requires-clause-bits_value : goal.put_weight-requires-clause-bits_value
put_weight-requires-clause-bits_value c = ap (weight_fits unit) c.link_bits.ensures.part ∙ link_on c.args.sheet.now c.requires.short c.args.l c.requires.within

pub returns-clause-text : goal.returns-clause-text
returns-clause-text c =
    let s = c.args.sheet.now in
    let p = parts_of s.bytes.now in
    let l = c.args.l in
    let link = c.link-k in
    let to : link.result.nextstate ≡ next p l = ap (λ (k : Link). k.nextstate) link.ensures ∙ next_at s l c.requires.within in
    let input : link.result.ilabel ≡ ilabel p l = ap (λ (k : Link). k.ilabel) link.ensures ∙ ilabel-at s l c.requires.within in
    let output : link.result.olabel ≡ olabel p l = ap (λ (k : Link). k.olabel) link.ensures ∙ olabel-at s l c.requires.within in
    let source = c.put_decimal.ensures.value ∙ ap (λ (t : List ℕ). t ++ decimal c.args.v) c.new-row.ensures in
    let one = c.put_number.ensures.text ∙ (λ i. source i ++ and_number (to i)) in
    let two = c.put_number-2.ensures.text ∙ (λ i. one i ++ and_number (input i)) in
    let three = c.put_number-3.ensures.text ∙ (λ i. two i ++ and_number (output i)) in
    let weighed = c.put_weight.ensures.text ∙ (λ i. three i ++ and_weight (c.link_bits.ensures.part i)) in
    c.put_byte.ensures ∙ ap (λ (t : List ℕ). t ++ (10 ∷ [])) weighed
