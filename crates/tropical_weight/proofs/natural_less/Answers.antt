use lib.Ieee.{lt}
use Rattle.tropical_weight.specs.Tropical.{lt_t}
use Rattle.tropical_weight.proofs.Exact.{decides, lt-of_t}
use Rattle.tropical_weight.proofs.natural_less.Goals as goal

pub returns : goal.returns
returns c = decides lt lt_t lt-of_t c.args.a c.args.b
