use Rattle.std.proofs.Common.{refl}
use lib.Ieee.{of_bits, nan_bits}
use Rattle.tropical_weight.proofs.zero.Goals as goal

pub float_from_bits-result : goal.float_from_bits-result
unfolding nan_bits
float_from_bits-result c = tt

pub returns : goal.returns
unfolding of_bits
returns c = λ j h. refl
