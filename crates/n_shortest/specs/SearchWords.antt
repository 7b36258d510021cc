-- Mirrors the code: the search on the words of its part. A reader need not believe it: laws tie it to Search of crate search (proofs/Running). Definitions only.
use Rattle.std.specs.Prelude.{◌≡◌, Bool, false, ◌||◌, cond, List, ℕ, zero, suc, ◌+◌, ◌-◌, ◌*◌, ◌≤◌, ◌<◌, eqb, leb, ltb, Float, length, set}
use Rattle.std.specs.Float.Ieee as Ieee
use Rattle.std.specs.Float.{binary32}
use Rattle.std.specs.Float.Ieee.{add, lt, of_bits}
use Rattle.n_shortest.specs.declared.n_best.Counts.{Counts}
use Rattle.n_shortest.specs.declared.n_best.Places.{Places}
use Rattle.n_shortest.specs.declared.entry.Entry.{Entry}
use Rattle.n_shortest.specs.declared.entry.Entry.TheVariants.{Half, Finished}
use Rattle.tropical_weight.specs.Single.{Number}
use Rattle.slots.specs.Slots.{slot_length, nothing}
use Rattle.search_slots.specs.Slots.{rank_word, heap_word, head_word, visits_word, next_word, weight_word, chain_word}
use Rattle.n_shortest.specs.EntryWords.{entry_w, stored}
use Rattle.n_shortest.specs.HeapWords.{push_w, pop_w}

-- ---- the part, and how many entries, places of the heap, listed and taken there are
pub record Words : Type 0 where
  pub part : List ℕ
  pub counts : Counts

abbrev pub words : List ℕ → Counts → Words
words part c = record { part = part; counts = c }

-- an entry put in
unfoldable pub put_w : ℕ → Entry → ℕ → ℕ → Words → Words
unfolding push_w
put_w nodes e from input s =
    let c = s.counts in
    record {
      part = push_w (stored s.part nodes c.entries e from input) c.heap c.entries;
      counts = record { entries = c.entries + 1; heap = c.heap + 1; listed = c.listed; taken = c.taken };
    }

-- the input link that reversed link k repeats, or nothing
abbrev pub repeated : ℕ → ℕ → ℕ
repeated inputs k = cond (ltb k inputs) k nothing

-- by reversed link k, from entry x at a cost
abbrev pub link_w : Places → ℕ → Float → ℕ → Words → Words
link_w p x cost k s =
    put_w p.nodes (Half (next_word s.part p.links k) (add binary32 cost (of_bits binary32 (weight_word s.part p.links k)))) x (repeated p.inputs k) s

-- so many reversed links from k on, along their chain, or until it ends
unfoldable pub links_w : Places → ℕ → Float → ℕ → ℕ → Words → Words
unfolding put_w
links_w p x cost zero k s = s
links_w p x cost (suc n) k s = let on = links_w p x cost n (chain_word s.part p.links k) (link_w p x cost k s) in cond (eqb k nothing) s on

-- entry x, at node v and a cost, expanded: a finished entry where its node is the old start
unfoldable pub expand_w : Places → ℕ → ℕ → ℕ → Float → Words → Words
unfolding links_w
expand_w p most x v cost s =
    let t = links_w p x cost most (head_word s.part p.nodes v) s in
    let u = put_w p.nodes (Finished cost) x nothing t in
    cond (eqb v p.end) u t

-- ---- one removal
-- number x listed next
abbrev pub listed_w : ℕ → Words → Words
listed_w x s =
    let c = s.counts in
    record {
      part = set s.part (slot_length * c.listed + 6) x;
      counts = record { entries = c.entries; heap = c.heap; listed = c.listed + 1; taken = c.taken };
    }

-- a finished entry is listed if its cost is finite
unfoldable pub finished_w : ℕ → Float → Words → Words
finished_w x cost s = cond (lt cost (Ieee.inf false)) (listed_w x s) s

-- the head taken, where the part is without it: a finished one is listed next if its cost is finite; a half-built one visits its node, and is expanded unless that has now been taken more than n times
unfoldable pub taken_w : Places → ℕ → ℕ → ℕ → Entry → Words → Words
unfolding expand_w finished_w
taken_w p n most x (Finished cost) s = finished_w x cost s
taken_w p n most x (Half v cost) s =
    let visits = visits_word s.part p.nodes v + 1 in
    let t : Words = record { part = set s.part (p.nodes + slot_length * v + 3) visits; counts = s.counts } in
    let u = expand_w p most x v cost t in
    cond (ltb n visits) t u

-- the heap's head removed
abbrev pub without : Words → Words
without s =
    let c = s.counts in
    record {
      part = pop_w s.part c.heap;
      counts = record { entries = c.entries; heap = c.heap - 1; listed = c.listed; taken = c.taken + 1 };
    }

unfoldable pub step_w : Places → ℕ → ℕ → Words → Words
unfolding pop_w taken_w entry_w
step_w p n most s = let x = heap_word s.part 0 in taken_w p n most x (entry_w s.part x) (without s)

-- at the n-th listed entry, or when the heap is empty
abbrev pub stopped_w : ℕ → Words → Bool
stopped_w n s = eqb s.counts.heap 0 || leb n s.counts.listed

-- after so many removals, or where it has stopped before
unfoldable pub after_w : Places → ℕ → ℕ → ℕ → Words → Words
unfolding step_w
after_w p n most zero s = s
after_w p n most (suc k) s = let on = after_w p n most k (step_w p n most s) in cond (stopped_w n s) s on

-- no entry yet
abbrev pub none_w : List ℕ → Words
none_w part = record { part = part; counts = record { entries = 0; heap = 0; listed = 0; taken = 0 } }

-- the first entry put in: half-built, node 0, cost 0
unfoldable pub begun_w : Places → List ℕ → Words
unfolding put_w
begun_w p part = put_w p.nodes (Half 0 (of_bits binary32 0)) 0 nothing (none_w part)

-- ---- what the functions ask
-- the slots of the entries lie before those of the nodes, and these before those of the links; the heap holds entries, and their ranks are numbers
pub record Sized (p : Places) (s : Words) : Type 0 where
  pub heap-few : s.counts.heap ≤ s.counts.entries
  pub room : slot_length * s.counts.entries ≤ p.nodes
  pub after : p.nodes ≤ p.links
  pub inside : p.links ≤ length s.part
  pub small : p.nodes < 4294967296
  pub each : (i : ℕ) → i < s.counts.heap → heap_word s.part i < s.counts.entries
  pub numbers : (i : ℕ) → i < s.counts.entries → Number (rank_word s.part i)

-- a chain of so many reversed links from k on, each in its slot, to nodes that have slots
unfoldable pub Chain : Places → List ℕ → ℕ → ℕ → Type 0
Chain p part zero k = k ≡ nothing
Chain p part (suc n) k = (p.links + slot_length * k + 2 < length part) × (p.nodes + slot_length * next_word part p.links k + 1 < length part) × Chain p part n (chain_word part p.links k)

-- what an expansion at node v asks: a chain, and slots for what it puts in
pub record Expands (p : Places) (s : Words) (v : ℕ) : Type 0 where
  pub fan : ℕ
  pub slot : p.nodes + slot_length * v + 3 < p.links
  pub chain : Chain p s.part fan (head_word s.part p.nodes v)
  pub free : slot_length * (s.counts.entries + fan + cond (eqb v p.end) 1 0) ≤ p.nodes

-- what taking an entry asks: a slot for the list; or one of its node, and an expansion unless that has been taken n times
abbrev pub Takes : Places → ℕ → Words → Entry → Type 0
Takes p n s (Finished c) = (slot_length * s.counts.listed + 6 < p.nodes) × (s.counts.listed + 1 < 4294967296)
Takes p n s (Half v c) =
    let visits = visits_word s.part p.nodes v + 1 in
    (p.nodes + slot_length * v + 3 < p.links) × (visits < 4294967296) × (visits ≤ n → Expands p s v)

-- what a removal asks
pub record Ready (p : Places) (n : ℕ) (s : Words) : Type 0 where
  pub sized : Sized p s
  pub few-taken : s.counts.taken + 1 < 4294967296
  pub takes : Takes p n s (entry_w s.part (heap_word s.part 0))

-- each removal of a search from its first entry on has what it asks
abbrev pub Runs : Places → ℕ → ℕ → List ℕ → Type 0
Runs p n most part = (k : ℕ) → stopped_w n (after_w p n most k (begun_w p part)) ≡ false → Ready p n (after_w p n most k (begun_w p part))

-- what the first entry asks: a slot, and one for node 0
pub record Begins (p : Places) (part : List ℕ) : Type 0 where
  pub sized : Sized p (none_w part)
  pub free : slot_length ≤ p.nodes
  pub node : p.nodes + 1 < length part
