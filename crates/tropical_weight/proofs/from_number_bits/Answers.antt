use Rattle.std.proofs.Common.{Bool, not, T, sym, ◌∙◌, subst, le-ltb}
use lib.Ieee.{binary32}
use lib.Ieee.Bits.{nan_bits_above}
use Rattle.tropical_weight.proofs.from_number_bits.Goals as goal

pub float_from_bits-result : goal.float_from_bits-result
float_from_bits-result c = subst (λ (t : Bool). T (not t)) (sym (nan_bits_above binary32 c.args.bits ∙ le-ltb _ _ c.requires)) tt
