use mathlib.Core.Path.{◌≡◌}
use Prim.Native.Nat.{◌-◌}
use Rattle.state_order_queue.specs.Queues.{first_set}
use Rattle.state_order_queue.proofs.first_set.Given as goal

abbrev pub invariant-loop-v : goal.invariant-loop-v
invariant-loop-v l = first_set (l.end - l.from) l.from l.flags ≡ first_set (l.end - l.v) l.v l.flags
