use mathlib.Core.Path.{◌≡◌}
use Prim.Native.Nat.{◌≤◌}
use Rattle.machine.specs.Finals.{final_count}
use Rattle.machine.proofs.finals.count_finals.Given as goal

abbrev pub invariant-loop-v : goal.invariant-loop-v
invariant-loop-v l = (l.count ≤ l.v) × (l.count ≡ final_count l.sheet l.links l.v)
