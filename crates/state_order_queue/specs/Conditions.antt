-- The conditions of refusal 22 on a record, one by one: a record that breaks none is accepted. Definitions only.
use Rattle.std.specs.Prelude.{◌≡◌, None, Some, true, false, ℕ, ◌≤◌, ◌<◌}
use Rattle.tropical_weight.specs.Limits.{node_limit}
use Rattle.state_order_queue.specs.declared.Queue.{Queue}
use Rattle.state_order_queue.specs.Queues.{holds}

pub record Accepted (q : Queue) : Type 0 where
  -- front is not above the limit on nodes, and back is below it
  pub front_fits : q.front ≤ node_limit
  pub back_fits : (b : ℕ) → q.back ≡ Some b → b < node_limit
  -- no flag is set outside front to back
  pub inside : (b v : ℕ) → q.back ≡ Some b → v < node_limit → holds q v ≡ true → (q.front ≤ v) × (v ≤ b)
  pub none-set : (v : ℕ) → q.back ≡ None → v < node_limit → holds q v ≡ false
  -- no flag is clear at front or back of a queue not empty
  pub first-set : (b : ℕ) → q.back ≡ Some b → q.front ≤ b → holds q q.front ≡ true
  pub last_set : (b : ℕ) → q.back ≡ Some b → q.front ≤ b → holds q b ≡ true
  -- where back is none front is 0
  pub none-at-0 : q.back ≡ None → q.front ≡ 0
