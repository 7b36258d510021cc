-- The queue record of document 01: what is valid, and what the Rust's calls make of it. Definitions only.
use Rattle.std.specs.Prelude.{Option, None, Some, Bool, true, false, not, ◌&&◌, ◌||◌, cond, List, ℕ, zero, suc, ◌+◌, ◌-◌, ltb, leb, eqb, get_or, set, replicate}
use Rattle.tropical_weight.specs.Limits.{node_limit}
use Rattle.sheet.specs.Below.{all_below}
use Rattle.state_order_queue.specs.declared.Queue.{Queue}

-- the first of k nodes from v on that has a flag, or v + k
unfoldable pub first_set : ℕ → ℕ → List Bool → ℕ
first_set zero v flags = v
first_set (suc k) v flags = let later = first_set k (v + 1) flags in cond (get_or flags v false) v later

-- whether the queue holds a node
abbrev pub holds : Queue → ℕ → Bool
holds q v = get_or q.flags v false

-- ---- the record

-- empty: back is none, or front is above it
abbrev pub empty_from : ℕ → Option ℕ → Bool
empty_from front None = true
empty_from front (Some back) = ltb back front

abbrev pub is_empty : Queue → Bool
is_empty q = empty_from q.front q.back

-- front is at most the limit on nodes and back below it; front is 0 where back is none
abbrev pub ends_fit : ℕ → Option ℕ → Bool
ends_fit front None = eqb front 0
ends_fit front (Some back) = leb front node_limit && ltb back node_limit

-- a queue not empty has a flag at front and at back
abbrev pub ends_set : ℕ → Option ℕ → List Bool → Bool
ends_set front None flags = true
ends_set front (Some back) flags = ltb back front || (get_or flags front false && get_or flags back false)

-- whether a node is one of front to back
abbrev pub is_inside : ℕ → Option ℕ → ℕ → Bool
is_inside front None v = false
is_inside front (Some back) v = leb front v && leb v back

-- no flag is set outside front to back
unfoldable pub flags_inside : ℕ → Option ℕ → List Bool → Bool
flags_inside front back flags = all_below node_limit (λ v. not (get_or flags v false) || is_inside front back v)

unfoldable pub is_valid : Queue → Bool
is_valid q = ends_fit q.front q.back && ends_set q.front q.back q.flags && flags_inside q.front q.back q.flags

-- ---- what the calls make of it

-- no node
abbrev pub emptied : Queue
emptied = record { front = 0; back = None; flags = replicate node_limit false }

-- a node put in below front, or into an empty queue, is the new front
abbrev pub front_with : ℕ → Option ℕ → ℕ → ℕ
front_with front None v = v
front_with front (Some back) v = cond (ltb back front || ltb v front) v front

-- a node put in above back, or into an empty queue, is the new back
abbrev pub back_with : ℕ → Option ℕ → ℕ → ℕ
back_with front None v = v
back_with front (Some back) v = cond (ltb back front || ltb back v) v back

abbrev pub enqueued : Queue → ℕ → Queue
enqueued q v = record { front = front_with q.front q.back v; back = Some (back_with q.front q.back v); flags = set q.flags v true }

-- the first node with a flag from front to back, or the one past back
abbrev pub next_front : ℕ → Option ℕ → List Bool → ℕ
next_front front None flags = front
next_front front (Some back) flags = first_set (back + 1 - front) front flags

-- front taken out of a queue not empty: front moves up to the next flag, or past back
abbrev pub without_front : ℕ → Option ℕ → List Bool → Queue
without_front front None flags = record { front = front; back = None; flags = flags }
without_front front (Some back) flags = let rest = set flags front false in record { front = first_set (back + 1 - front) front rest; back = Some back; flags = rest }

unfoldable pub dequeued : Queue → Queue
dequeued q = cond (is_empty q) q (without_front q.front q.back q.flags)

-- the flags of k nodes from v on cleared
unfoldable pub cleared_from : ℕ → ℕ → List Bool → List Bool
cleared_from zero v flags = flags
cleared_from (suc k) v flags = cleared_from k (v + 1) (set flags v false)

-- the flags of front to back cleared
abbrev pub cleared_inside : ℕ → Option ℕ → List Bool → List Bool
cleared_inside front None flags = flags
cleared_inside front (Some back) flags = cleared_from (back + 1 - front) front flags

-- the Rust's `clear`: of a valid record it leaves `emptied`, as is proved
abbrev pub cleared : Queue → Queue
cleared q = record { front = 0; back = None; flags = cleared_inside q.front q.back q.flags }
