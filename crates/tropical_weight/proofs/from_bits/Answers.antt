use Rattle.std.proofs.Common.{Bool, not, T, sym, ◌∙◌, subst, le-ltb, lt-ltb}
use lib.Ieee.{binary32, of_bits, div}
use lib.Ieee.Bits.{nan_bits_is, nan_bits_above}
use Rattle.tropical_weight.proofs.Numbers.{nan-alone}
use Rattle.tropical_weight.proofs.from_bits.Goals as goal

pub returns-then-bits-gt-INFINITY : goal.returns-then-bits-gt-INFINITY
unfolding of_bits div
returns-then-bits-gt-INFINITY c = nan-alone (of_bits binary32 c.args.bits) (sym (nan_bits_is binary32 c.args.bits) ∙ nan_bits_above binary32 c.args.bits ∙ lt-ltb _ _ c.if-bits-gt-INFINITY.true)

pub float_from_bits-result : goal.float_from_bits-result
float_from_bits-result c = subst (λ (t : Bool). T (not t)) (sym (nan_bits_above binary32 c.args.bits ∙ le-ltb _ _ c.if-bits-gt-INFINITY.false)) tt
