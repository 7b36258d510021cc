use mathlib.Core.Path.{◌≡◌, sym, ap, ◌∙◌}
use mathlib.Core.List.{List, [], ◌∷◌, ◌++◌}
use Prim.Native.Nat.{ℕ, ◌+◌}
use native.Mathlib.Omega.{arith}
use lib.ListN.{length, length-append}
use Rattle.decimals.specs.Decimal.{decimal}
use Rattle.text_rows.specs.Written.{and_number, and_weight, link_row}
use Rattle.tropical_weight.specs.Limits.{unit}
use Rattle.sheet.specs.declared.tr.Link.{Link}
use Rattle.sheet.specs.Sheet.{weight_fits, parts_of, next, ilabel, olabel, link_bits}
use Rattle.row_writer.proofs.Accepted.{link_on, next_at, ilabel-at, olabel-at}
use Rattle.row_writer.proofs.row_text.link_length.Goals as goal

-- a row's length is that of its parts
parts : (v to input output : ℕ) (weight : List ℕ) → length (decimal v ++ and_number to ++ and_number input ++ and_number output ++ weight ++ (10 ∷ [])) ≡ length (decimal v) + length (decimal to) + length (decimal input) + length (decimal output) + 3 + length weight + 1
parts v to input output weight =
    let a = length-append (decimal v) (and_number to) in
    let b = length-append (decimal v ++ and_number to) (and_number input) in
    let d = length-append (decimal v ++ and_number to ++ and_number input) (and_number output) in
    let e = length-append (decimal v ++ and_number to ++ and_number input ++ and_number output) weight in
    let f = length-append (decimal v ++ and_number to ++ and_number input ++ and_number output ++ weight) (10 ∷ []) in
    omega (arith, a, b, d, e, f)

pub put_weight-requires-clause-bits_value : goal.put_weight-requires-clause-bits_value
put_weight-requires-clause-bits_value c = ap (weight_fits unit) c.link_bits.ensures.part ∙ link_on c.args.sheet.now c.requires.short c.args.l c.requires.within

pub returns-clause-value : goal.returns-clause-value
returns-clause-value c =
    let s = c.args.sheet.now in
    let p = parts_of s.bytes.now in
    let l = c.args.l in
    let link = c.link-k in
    let to : link.result.nextstate ≡ next p l = ap (λ (k : Link). k.nextstate) link.ensures ∙ next_at s l c.requires.within in
    let input : link.result.ilabel ≡ ilabel p l = ap (λ (k : Link). k.ilabel) link.ensures ∙ ilabel-at s l c.requires.within in
    let output : link.result.olabel ≡ olabel p l = ap (λ (k : Link). k.olabel) link.ensures ∙ olabel-at s l c.requires.within in
    let weight : c.put_weight.new.row ≡ and_weight (link_bits p l) = c.put_weight.ensures.text ∙ (λ i. c.new-weight.ensures i ++ and_weight (c.link_bits.ensures.part i)) in
    omega (
      arith,
      c.decimal_length.ensures.value,
      c.decimal_length-2.ensures.value,
      c.decimal_length-3.ensures.value,
      c.decimal_length-4.ensures.value,
      c.len.ensures,
      ap (λ (n : ℕ). length (decimal n)) to,
      ap (λ (n : ℕ). length (decimal n)) input,
      ap (λ (n : ℕ). length (decimal n)) output,
      ap length weight,
      parts c.args.v (next p l) (ilabel p l) (olabel p l) (and_weight (link_bits p l)),
    )
