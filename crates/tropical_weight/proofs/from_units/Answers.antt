use Rattle.std.proofs.Common.{◌≤◌, T, ℤ, pos, negsuc, nat_abs, ap, ◌∙◌, le→leb, lt→ltb, rules}
use lib.Ieee.{binary32, mul, of_int, in_float}
use Rattle.tropical_weight.specs.Limits.{sum_limit}
use Rattle.tropical_weight.specs.Units.{places}
use Rattle.tropical_weight.proofs.Finer.{covered}
use Rattle.tropical_weight.proofs.Units.{of-units}
use Rattle.tropical_weight.proofs.from_units.Goals as goal

-- so many units are a whole number that single precision has
has : (k : ℤ) → nat_abs k ≤ sum_limit → T (in_float binary32 k)
unfolding in_float
has (pos n) l = le→leb n sum_limit l
has (negsuc n) l = lt→ltb n sum_limit l

pub int_to_float-result : goal.int_to_float-result
int_to_float-result c = search (rules, has c.args.units c.requires)

pub returns : goal.returns
returns c =
    let u = c.args.unit in
    search (rules, ap (mul binary32 (of_int binary32 c.args.units)) c.weight.ensures ∙ of-units (places u) (covered u) c.args.units c.requires)
