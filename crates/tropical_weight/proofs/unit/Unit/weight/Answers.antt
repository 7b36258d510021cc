use Rattle.std.proofs.Common.{pos, sym, ap}
use lib.Ieee.{of_bits, round}
use Rattle.tropical_weight.specs.Grid.{of_k}
use Rattle.tropical_weight.specs.Units.{places}
use Rattle.tropical_weight.specs.declared.unit.Unit.{Unit}
use Rattle.tropical_weight.proofs.unit.Unit.weight.Goals as goal

pub returns-in-Of64 : goal.returns-in-Of64
unfolding of_bits of_k round
returns-in-Of64 c = ap (λ (u : Unit). of_k (places u) (pos 1)) (sym c.in-Of64.is)

pub returns-in-Of256 : goal.returns-in-Of256
unfolding of_bits of_k round
returns-in-Of256 c = ap (λ (u : Unit). of_k (places u) (pos 1)) (sym c.in-Of256.is)
