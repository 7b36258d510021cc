use Rattle.std.proofs.Common.{T, sym, subst, ◌∙◌}
use Rattle.tropical_weight.proofs.Numbers.{number-nan, number-bits}
use Rattle.tropical_weight.proofs.to_number_bits.Goals as goal

pub returns-then-is_nan : goal.returns-then-is_nan
returns-then-is_nan c = sym (number-nan c.args.value (subst T (sym c.well_formed.0.1) tt) (sym c.is_nan.ensures.value ∙ c.if-is_nan.true))

pub returns : goal.returns
returns c = c.to_bits.ensures ∙ sym (number-bits c.args.value (subst T (sym c.well_formed.0.1) tt) (sym c.is_nan.ensures.value ∙ c.if-is_nan.false))
