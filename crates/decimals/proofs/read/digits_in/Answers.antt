use mathlib.Core.Path.{◌≡◌, sym, ap, ◌∙◌}
use mathlib.Core.Bool.{true, false}
use Prim.Native.Nat.{ℕ, ◌+◌, ◌^◌, min}
use native.Mathlib.Omega.{arith}
use lib.ListN.{get_or, drop, drop_of_length-le}
use borrow.Author.Rules.{rules}
use Rattle.std.proofs.Common.{Some}
use Rattle.decimals.specs.Decimal.{is_digit, with_digit, digits_onto}
use Rattle.decimals.specs.Held.{digits_held}
use Rattle.decimals.proofs.Holding.{onto-on, onto-stops, onto-ends, held-onto}
use Rattle.decimals.proofs.read.digits_in.Goals as goal

pub returns-then-not-is_ascii_digit : goal.returns-then-not-is_ascii_digit
returns-then-not-is_ascii_digit c =
    let turn = c.loop-c in
    let field = c.args.field.now in
    let other : is_digit (get_or field turn.c-index 0) ≡ false = search rules in
    sym (ap digits_held (onto-stops field turn.c-index turn.value (search rules) other)) ∙ turn.invariant.rest

pub loop-c-preserved : goal.loop-c-preserved
loop-c-preserved c =
    let turn = c.loop-c in
    let field = c.args.field.now in
    let i = turn.c-index in
    let digit : is_digit (get_or field i 0) ≡ true = search rules in
    let on = onto-on field i turn.value (search rules) digit in
    let next = with_digit turn.value (get_or field i 0) in record {
      held = omega (arith, c.with_digit-value.ensures);
      rest = ap (λ (v : ℕ). digits_held (digits_onto v (drop (i + 1) field))) c.with_digit-value.ensures ∙ held-onto (drop (i + 1) field) next ∙ sym (ap digits_held on) ∙ turn.invariant.rest;
    }

pub returns : goal.returns
returns c =
    let turn = c.loop-c in
    let field = c.args.field.now in
    let least : min turn.value (2 ^ 32) ≡ turn.value = omega (arith, turn.invariant.held) in
    sym (ap Some least) ∙ sym (ap digits_held (onto-ends field turn.c-index turn.value (drop_of_length-le field {i = turn.c-index} (search rules)))) ∙ turn.invariant.rest
