use mathlib.Core.Path.{◌≡◌, sym, ap, ◌∙◌}
use mathlib.Core.List.{◌++◌}
use Prim.Native.Nat.{ℕ}
use native.Mathlib.Omega.{arith}
use lib.ListN.{length, replicate, length-replicate}
use borrow.Author.Rules.{rules}
use Rattle.std.specs.Prelude.{Err}
use Rattle.sheet.specs.Refusals.{number_in}
use Rattle.sheet.specs.Machine.{machine}
use Rattle.sheet.proofs.Round.{Below}
use Rattle.sheet.proofs.Refusals.{number-positive}
use Rattle.shortest_path.proofs.Outcomes.{tested-input, tested-last}
use Rattle.listing.specs.Text.{first_line}
use Rattle.listing.specs.Printed.{list_for, reading_lines}
use Rattle.listing.proofs.Printing.{result_bytes_most, few-number, refused-input, made-input, held, text-is}
use Rattle.listing.proofs.print.list_few.Goals as goal

pub returns-in_err-made-clause-number : goal.returns-in_err-made-clause-number
returns-in_err-made-clause-number c =
    let a = c.args in
    let r = c.in_err-made.field-0.0 in
    let made : c.from_residual.result ≡ Err r = search rules in
    let input = refused-input a.sheet.now (λ i. omega (arith, c.type_inv.sheet i)) a.n c.requires.few.1 c.requires.few.0 _ r c.in_err-made.ensures.value in
    ap number_in made ∙ sym (few-number a.n a.sheet.now c.requires.few.1 c.requires.few.0 ∙ tested-input a.sheet.now a.n 0 (λ z. number-positive r (input ∙ z)) ∙ sym input)

pub invariant_of-list : goal.invariant_of-list
invariant_of-list c =
    let a = c.args in
    let below : Below 256 a.sheet.now = λ i. omega (arith, c.type_inv.sheet i) in
    let made = made-input a.sheet.now below a.n c.requires.few.1 c.requires.few.0 c.in_ok-made.made c.in_ok-made.ensures.value in record {
      bytes = below;
      answer = held a.sheet.now below a.n c.requires.few.1 c.requires.few.0 _ _ _ made (replicate result_bytes_most 0) _ (length-replicate {A = ℕ} result_bytes_most 0) c.shortest_path.ensures.res_after;
      short = c.requires.few.1;
      few = c.requires.few.0;
    }

pub returns : goal.returns
returns c =
    let a = c.args in
    let m = machine a.sheet.now in
    let made = made-input a.sheet.now (λ i. omega (arith, c.type_inv.sheet i)) a.n c.requires.few.1 c.requires.few.0 c.in_ok-made.made c.in_ok-made.ensures.value in
    let number = few-number a.n a.sheet.now c.requires.few.1 c.requires.few.0 ∙ tested-last a.sheet.now a.n 0 made.passed (omega (arith, c.requires.few.0)) in record {
      number = sym number;
      text = c.put_text.ensures ∙ ap (λ (k : ℕ). first_line (length (list_for m a.n)) k ++ reading_lines m 1 (list_for m a.n)) made.taken_is ∙ text-is a.n a.sheet.now number;
    }
