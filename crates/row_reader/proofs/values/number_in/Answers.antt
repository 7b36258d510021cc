use mathlib.Core.Path.{◌≡◌, sym, ◌∙◌}
use mathlib.Core.Bool.{cond}
use Prim.Native.Nat.{◌^◌}
use lib.Dec.{ltb}
use borrow.Author.Rules.{rules}
use Rattle.std.proofs.Common.{None, Some}
use Rattle.row_reader.proofs.Weighing.{number-none, number_is}
use Rattle.row_reader.proofs.values.number_in.Goals as goal

pub returns-in_err-value : goal.returns-in_err-value
returns-in_err-value c =
    let made : c.from_residual.result ≡ None = search rules in
    made ∙ sym (number-none c.args.field.now (sym c.digits_in.ensures ∙ c.in_err-value.was))

pub returns : goal.returns
returns c =
    let v = c.in_ok-value.value in
    let fits : c.ok.result ≡ cond (ltb v (2 ^ 32)) (Some v) None = search rules in
    fits ∙ sym (number_is c.args.field.now v (sym c.digits_in.ensures ∙ c.in_ok-value.was))
