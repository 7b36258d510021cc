-- Mirrors the code: the heap on the words of the part. A reader need not believe it: laws tie it to Heap of crate search (proofs/HeapPlaces).
-- Place i is word slot_length * i + 5 and holds the number of an entry. Definitions only.
use Rattle.std.specs.Prelude.{Bool, true, false, not, ◌&&◌, ◌||◌, cond, List, ℕ, zero, suc, ◌+◌, ◌-◌, ◌*◌, ◌/◌, ◌≤◌, ◌<◌, eqb, leb, ltb, length, set}
use Rattle.std.specs.Float.Ieee.{lt}
use Rattle.tropical_weight.specs.Single.{Number}
use Rattle.slots.specs.Slots.{slot_length}
use Rattle.search_slots.specs.Slots.{rank_word, heap_word}
use Rattle.n_shortest.specs.declared.entry.Entry.{Entry}
use Rattle.n_shortest.specs.declared.entry.Entry.TheVariants.{Half, Finished}
use Rattle.n_shortest.specs.EntryWords.{entry_w, rank_of}

-- the slot of entry a lies in the part, and its rank is a number
pub record Comparable (part : List ℕ) (a : ℕ) : Type 0 where
  pub inside : slot_length * a + 5 < length part
  pub number : Number (rank_word part a)

-- the heap lies in the part, and holds entries that can be compared
pub record HeapFits (part : List ℕ) (len : ℕ) : Type 0 where
  pub room : slot_length * len ≤ length part
  pub each : (i : ℕ) → i < len → Comparable part (heap_word part i)

-- ---- the order of entries
-- half-built before finished
abbrev pub half_first : Entry → Entry → Bool
half_first (Half v c) (Half w d) = false
half_first (Half v c) (Finished d) = true
half_first (Finished c) e = false

-- by rank, and where neither rank is less half-built before finished
unfoldable pub less_w : List ℕ → ℕ → ℕ → Bool
unfolding entry_w
less_w part a b =
    lt (rank_of part a) (rank_of part b)
    || (not (lt (rank_of part b) (rank_of part a)) && half_first (entry_w part a) (entry_w part b))

-- ---- places
abbrev pub store_w : List ℕ → ℕ → ℕ → List ℕ
store_w part i x = set part (slot_length * i + 5) x

abbrev pub swap_w : List ℕ → ℕ → ℕ → List ℕ
swap_w part i j = store_w (store_w part i (heap_word part j)) j (heap_word part i)

-- whether what stands at place i comes strictly before what stands at place j
abbrev pub place_less : List ℕ → ℕ → ℕ → Bool
place_less part i j = less_w part (heap_word part i) (heap_word part j)

abbrev pub parent_of : ℕ → ℕ
parent_of i = (i - 1) / 2

-- up from place i; the first argument is at least i
unfoldable pub sift_up_w : ℕ → List ℕ → ℕ → List ℕ
sift_up_w zero part i = part
sift_up_w (suc steps) part i =
    let up = sift_up_w steps (swap_w part i (parent_of i)) (parent_of i) in
    cond (eqb i 0) part (cond (place_less part i (parent_of i)) up part)

-- the child to go down to in a heap of n
unfoldable pub child_w : List ℕ → ℕ → ℕ → ℕ
child_w part n i = cond (ltb (2 * i + 2) n && place_less part (2 * i + 2) (2 * i + 1)) (2 * i + 2) (2 * i + 1)

-- down from place i in a heap of n; the first argument is at least n - i
unfoldable pub sift_down_w : ℕ → ℕ → List ℕ → ℕ → List ℕ
unfolding child_w
sift_down_w zero n part i = part
sift_down_w (suc steps) n part i =
    let down = sift_down_w steps n (swap_w part i (child_w part n i)) (child_w part n i) in
    cond (leb n (2 * i + 1)) part (cond (place_less part i (child_w part n i)) part down)

-- x put into a heap of len
unfoldable pub push_w : List ℕ → ℕ → ℕ → List ℕ
unfolding sift_up_w
push_w part len x = sift_up_w len (store_w part len x) len

-- the head of a heap of len removed: the last goes to the root, and then down
unfoldable pub pop_w : List ℕ → ℕ → List ℕ
unfolding sift_down_w
pop_w part len = let n = len - 1 in sift_down_w n n (store_w part 0 (heap_word part n)) 0
