use Rattle.std.proofs.Common.{sym, ap, ◌∙◌}
use lib.Ieee.{binary32, to_bits}
use Rattle.tropical_weight.proofs.Numbers.{nan-alone}
use Rattle.tropical_weight.proofs.to_bits.Goals as goal

pub returns-then-is_nan : goal.returns-then-is_nan
unfolding to_bits
returns-then-is_nan c = ap (to_bits binary32) (nan-alone c.args.value (sym c.is_nan.ensures.value ∙ c.if-is_nan.true))
