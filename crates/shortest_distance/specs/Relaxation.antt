-- Mirrors the code: relaxation on the slots, through the queue, link by link. A reader need not believe it: laws tie it to Distance of crate machine (proofs/Rows).
-- Definitions only.
use Rattle.std.specs.Prelude.{ℕ, zero, suc, ◌+◌, ◌*◌, cond, List, Float, Some}
use Rattle.std.specs.Float.{binary32}
use Rattle.std.specs.Float.Ieee.{add}
use Rattle.sheet.specs.declared.tr.Link.{Link}
use Rattle.sheet.specs.Records.{link_at, count_at}
use Rattle.slots.specs.Slots.{slot_length}
use Rattle.state_order_queue.specs.declared.Queue.{Queue}
use Rattle.state_order_queue.specs.Queues.{is_empty, enqueued, dequeued}
use Rattle.distance.specs.Held.{weight_in, with_distance}
use Rattle.distance.specs.Offer.{improves, reaches}
use Rattle.shortest_distance.specs.ParentWords.{by, parent_stored}
use Rattle.shortest_distance.specs.NodeSlots.{distance_at, first_word}

-- the area after an offer is taken: the distance of its node, and link l of node v as its parent
abbrev pub taken_words : ℕ → Float → ℕ → ℕ → List ℕ → List ℕ
taken_words next offer l v work = parent_stored (with_distance work (slot_length * next) (Some offer)) next (by l v)

-- the area after link l of node v, which has a distance, is relaxed
abbrev pub relaxed_words : Link → ℕ → ℕ → Float → List ℕ → List ℕ
relaxed_words k l v distance work =
    cond (improves (distance_at work k.nextstate) distance k.weight) (taken_words k.nextstate (add binary32 distance k.weight) l v work) work

-- the area and the queue
pub record State : Type 0 where
  pub work : List ℕ
  pub queue : Queue

-- a link relaxed, and its next node put in where the offer is the first
abbrev pub relax_link : Link → ℕ → ℕ → Float → State → State
relax_link k l v distance s = record {
  work = relaxed_words k l v distance s.work;
  queue = cond (reaches (distance_at s.work k.nextstate) distance k.weight) (enqueued s.queue k.nextstate) s.queue;
}

-- n links of node v from a number on
unfoldable pub relax_links : List ℕ → ℕ → ℕ → Float → ℕ → State → State
relax_links bytes first v distance zero s = s
relax_links bytes first v distance (suc n) s = relax_link (link_at bytes (first + n)) (first + n) v distance (relax_links bytes first v distance n s)

-- the links of a node
abbrev pub relax_node : List ℕ → ℕ → ℕ → State → State
relax_node bytes links v s = relax_links bytes (first_word s.work v) v (weight_in (distance_at s.work v)) (count_at bytes links v) s

-- the queue's head taken, and its links relaxed
abbrev pub relax_head : List ℕ → ℕ → State → State
relax_head bytes links s = relax_node bytes links s.queue.front (record { work = s.work; queue = dequeued s.queue })

-- so many heads, or until the queue is empty
unfoldable pub relax_heads : List ℕ → ℕ → ℕ → State → State
relax_heads bytes links zero s = s
relax_heads bytes links (suc n) s = let later = relax_heads bytes links n (relax_head bytes links s) in cond (is_empty s.queue) s later
