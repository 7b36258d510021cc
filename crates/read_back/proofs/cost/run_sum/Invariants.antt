use mathlib.Core.Path.{◌≡◌}
use mathlib.Core.List.{map}
use lib.ListN.{drop}
use Rattle.tropical_weight.specs.Single.{add_all}
use Rattle.read_back.specs.Costs.{weight_at, run_sum}
use Rattle.read_back.proofs.cost.run_sum.Given as goal

abbrev pub invariant-loop-l : goal.invariant-loop-l
invariant-loop-l l = add_all l.sum (map (weight_at l.sheet.bytes.now) (drop l.l-index l.run)) ≡ run_sum l.sheet.bytes.now l.run
