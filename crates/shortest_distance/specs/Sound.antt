-- Mirrors the code: what holds while heads are relaxed, and afterwards. A reader need not believe it: laws tie it to Distance and Parents of crate machine (proofs/Making).
-- Definitions only.
use Rattle.std.specs.Prelude.{ℕ, ◌+◌, ◌*◌, ◌≤◌, ◌<◌, ◌≡◌, true, List, length, drop}
use Rattle.tropical_weight.specs.Limits.{node_limit}
use Rattle.sheet.specs.Below.{sum_below}
use Rattle.sheet.specs.Words.{word_length, word}
use Rattle.sheet.specs.Sheet.{link_length, node_length}
use Rattle.machine.specs.Distance.{distance}
use Rattle.machine.specs.Parents.{parent}
use Rattle.state_order_queue.specs.declared.Queue.{Queue}
use Rattle.state_order_queue.specs.Queues.{holds, is_valid}
use Rattle.sheet.specs.Records.{count_at}
use Rattle.sheet.specs.Machine.{unit_in, machine}
use Rattle.slots.specs.Slots.{slot_length}
use Rattle.distance.specs.Held.{held}
use Rattle.shortest_distance.specs.ParentWords.{parent_at, parent_from}
use Rattle.shortest_distance.specs.NodeSlots.{distance_at, first_word}
use Rattle.shortest_distance.specs.Outcome.{slots_needed}

pub record Sound (bytes : List ℕ) (links nodes : ℕ) (work : List ℕ) (queue : Queue) : Type 0 where
  -- the sheet has the links and the nodes, and the area a slot a node
  pub laid_out : link_length * links + node_length * nodes ≤ length bytes
  pub slots : slot_length * nodes ≤ length work
  pub few : nodes ≤ node_limit
  -- the links of the nodes are among those of the sheet, and lead to nodes
  pub counted : sum_below nodes (count_at bytes links) ≤ links
  pub inside : (l : ℕ) → l < links → word bytes (link_length * l + 3 * word_length) < nodes
  -- each slot names its node's first link
  pub firsts : (v : ℕ) → v < nodes → first_word work v ≡ sum_below v (count_at bytes links)
  -- the queue is valid, with a flag for each node there can be, and holds nodes alone
  pub full : length queue.flags ≡ node_limit
  pub valid : is_valid queue ≡ true
  pub held : (v : ℕ) → holds queue v ≡ true → v < nodes

-- the slots hold the distances and the parents of a sheet's nodes, and beyond them the area is as it was
pub record Made (bytes old work : List ℕ) : Type 0 where
  pub each : (v : ℕ) → v < slots_needed bytes → distance_at work v ≡ held (unit_in (machine bytes)) (distance (machine bytes) v)
  pub parents : (v : ℕ) → v < slots_needed bytes → parent_at work v ≡ parent_from (machine bytes) (parent (machine bytes) v)
  pub size : length work ≡ length old
  pub beyond : drop (slot_length * slots_needed bytes) work ≡ drop (slot_length * slots_needed bytes) old
