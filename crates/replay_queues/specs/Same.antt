-- What the program that replays calls on queues compares of two records. Definitions only.
use Rattle.std.specs.Prelude.{◌≡◌, false, ℕ, ◌<◌, get_or}
use Rattle.tropical_weight.specs.Limits.{node_limit}
use Rattle.state_order_queue.specs.declared.Queue.{Queue}

-- both ends and every flag are the same
pub record Same (a b : Queue) : Type 0 where
  pub front : a.front ≡ b.front
  pub back : a.back ≡ b.back
  pub flags : (v : ℕ) → v < node_limit → get_or a.flags v false ≡ get_or b.flags v false
