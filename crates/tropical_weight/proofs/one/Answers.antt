use lib.Ieee.{of_bits}
use Rattle.tropical_weight.proofs.Exact.{one-of_t}
use Rattle.tropical_weight.proofs.one.Goals as goal

pub returns : goal.returns
unfolding of_bits
returns c = λ j h. one-of_t j h
