use mathlib.Core.Path.{sym}
use Prim.Native.Nat.{ℕ, ◌+◌, ◌*◌, ◌≤◌}
use native.Mathlib.Nat.{mul-le-mul_right}
use native.Mathlib.Omega.{arith}
use Rattle.tropical_weight.specs.Limits.{list_limit}
use Rattle.list_answer.proofs.SlotsNeeded.{slots-many}
use Rattle.list_answer.proofs.slots_needed.Goals as goal

-- the product, at its largest
most : (n links : ℕ) → n ≤ list_limit → n * (links + 1) ≤ list_limit * (links + 1)
most n links h = mul-le-mul_right (links + 1) h

pub overflow_mul-result-in_default : goal.overflow_mul-result-in_default
overflow_mul-result-in_default c = let a = c.args in omega (arith, c.requires, most a.n a.links c.requires.3)

pub overflow_add-result-in_default-4 : goal.overflow_add-result-in_default-4
overflow_add-result-in_default-4 c = let a = c.args in omega (arith, c.requires, most a.n a.links c.requires.3)

pub returns-in_default : goal.returns-in_default
returns-in_default c = let a = c.args in sym (slots-many a.nodes a.links a.finals a.n (omega arith))
