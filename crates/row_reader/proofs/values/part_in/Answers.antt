use mathlib.Core.Path.{◌≡◌, sym, ap, ◌∙◌}
use Prim.Native.Nat.{ℕ, ◌*◌}
use borrow.Author.Rules.{rules}
use Rattle.std.proofs.Common.{None, Some}
use Rattle.row_reader.proofs.Weighing.{part-long, part_none, part-is}
use Rattle.row_reader.proofs.values.part_in.Goals as goal

pub returns-then-n-gt-DECIMALS : goal.returns-then-n-gt-DECIMALS
returns-then-n-gt-DECIMALS c = sym (part-long c.args.decimals.now c.if-n-gt-DECIMALS.true)

pub returns-in_err-value : goal.returns-in_err-value
returns-in_err-value c =
    let made : c.from_residual.result ≡ None = search rules in
    made ∙ sym (part_none c.args.decimals.now (sym c.digits_in.ensures ∙ c.in_err-value.was))

pub returns : goal.returns
returns c =
    ap (λ (x : ℕ). Some (c.in_ok-value.value * x)) c.pow.ensures
    ∙ sym (part-is c.args.decimals.now c.in_ok-value.value (sym c.digits_in.ensures ∙ c.in_ok-value.was) c.if-n-gt-DECIMALS.false)
