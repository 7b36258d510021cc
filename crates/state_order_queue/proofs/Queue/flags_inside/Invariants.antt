use mathlib.Core.Bool.{true, false, not, ◌||◌}
use mathlib.Core.Path.{◌≡◌}
use lib.ListN.{get_or}
use Rattle.state_order_queue.specs.Queues.{is_inside}
use Rattle.sheet.specs.Below.{all_below}
use Rattle.state_order_queue.proofs.Queue.flags_inside.Given as goal

abbrev pub invariant-loop-v : goal.invariant-loop-v
invariant-loop-v l = all_below l.v (λ x. not (get_or l.self.flags x false) || is_inside l.self.front l.self.back x) ≡ true
