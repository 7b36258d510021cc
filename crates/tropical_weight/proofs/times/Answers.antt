use lib.Ieee.{binary32, add}
use Rattle.tropical_weight.specs.Tropical.{◌⊗◌}
use Rattle.tropical_weight.proofs.Exact.{computes, times-of_t}
use Rattle.tropical_weight.proofs.times.Goals as goal

pub returns : goal.returns
returns c = computes (add binary32) ◌⊗◌ times-of_t c.args.a c.args.b
