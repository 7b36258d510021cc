-- The search for the n cheapest readings over a reversed machine, step by step. Definitions only.
use Rattle.std.specs.Prelude.{Bool, not, ◌&&◌, ◌||◌, cond, List, [], ◌∷◌, ◌++◌, map, eqb, leb, length, set, replicate}
use Rattle.std.proofs.Math.Bool.{true, false}
use Rattle.std.proofs.Math.Option.{Option, none, some}
use Prim.Native.Nat.{ℕ, zero, suc, ◌+◌, ◌*◌}
use Rattle.std.proofs.Math.ListN.{get_or}
use Rattle.tropical_weight.specs.Tropical.{Tropical, inf, one, eq_t, lt_t, ◌⊗◌}
use Rattle.sheet.specs.Machine.{Machine}
use Rattle.machine.specs.Readings.{marked}
use Rattle.machine.specs.Distance.{as_weight}
use Rattle.search.specs.Heap.{pushed, popped}
use Rattle.search.specs.Reversed.{Reversed, reversed}

-- An entry is half-built, with a node and a cost, or finished, with a cost.
pub data Entry : Type 0 where
  half : ℕ → Tropical → Entry
  finished : Tropical → Entry

abbrev pub cost_of : Entry → Tropical
cost_of (half v c) = c
cost_of (finished c) = c

abbrev pub is_half : Entry → Bool
is_half (half v c) = true
is_half (finished c) = false

-- An entry as it was put in: the number of the entry it came from, and the input link by which it was put in, or none.
pub record Put : Type 0 where
  pub from : ℕ
  pub input : Option ℕ
  pub entry : Entry

-- the first: half-built, node 0, cost 0
abbrev pub first : Put
first = record { from = 0; input = none; entry = half 0 one }

-- Entries are numbered in the order they were put in; the heap and the list hold numbers.
pub record Search : Type 0 where
  pub entries : List Put
  pub heap : List ℕ
  -- how often each node has been taken
  pub visits : List ℕ
  -- the finished ones taken, in order
  pub listed : List ℕ
  pub taken : ℕ

module _ (r : Reversed) where
  -- ---- rank and order: infinity where the node is unreached
  abbrev pub rank : Entry → Tropical
  rank (half v c) = as_weight (r.to_go v) ⊗ c
  rank (finished c) = c

  -- by rank, and on equal rank half-built before finished
  abbrev pub precedes : Entry → Entry → Bool
  precedes a b = lt_t (rank a) (rank b) || (eq_t (rank a) (rank b) && (is_half a && not (is_half b)))

  abbrev pub before : List Put → ℕ → ℕ → Bool
  before es i j = precedes (get_or es i first).entry (get_or es j first).entry

  -- ---- one removal
  abbrev pub put : Put → Search → Search
  put e s =
      let es = s.entries ++ (e ∷ []) in
      record { entries = es; heap = pushed (before es) (length s.entries) s.heap; visits = s.visits; listed = s.listed; taken = s.taken }

  abbrev pub put_all : List Put → Search → Search
  put_all [] s = s
  put_all (e ∷ es) s = put_all es (put e s)

  -- what entry number x puts in, at node v with cost c: an entry for each link out of v, then a finished one where v is the old start
  abbrev pub expansion : ℕ → ℕ → Tropical → List Put
  expansion x v c =
      map (λ b. record { from = x; input = b.input; entry = half b.next (c ⊗ b.weight) }) (r.out v)
      ++ cond (r.ends v) (record { from = x; input = none; entry = finished c } ∷ []) []

  -- number x taken, where h is the heap without it: a finished one is listed next if its cost is finite, a half-built one expanded unless its node has now been taken more than n times
  abbrev pub taken_by : ℕ → ℕ → List ℕ → Entry → Search → Search
  taken_by n x h (finished c) s = record { entries = s.entries; heap = h; visits = s.visits; listed = cond (lt_t c inf) (s.listed ++ (x ∷ [])) s.listed; taken = suc s.taken }
  taken_by n x h (half v c) s =
      let k = suc (get_or s.visits v 0) in
      let t : Search = record { entries = s.entries; heap = h; visits = set s.visits v k; listed = s.listed; taken = suc s.taken } in
      cond (leb k n) (put_all (expansion x v c) t) t

  unfoldable pub step : ℕ → Search → Search
  unfolding pushed popped
  step n s = let x = get_or s.heap 0 0 in taken_by n x (popped (before s.entries) s.heap) (get_or s.entries x first).entry s

  -- at the n-th listed entry, or when the heap is empty
  abbrev pub stopped : ℕ → Search → Bool
  stopped n s = eqb (length s.heap) 0 || leb n (length s.listed)

  -- the search after k removals, or where it has stopped before
  unfoldable pub after : ℕ → ℕ → Search → Search
  unfolding step
  after zero n s = s
  after (suc k) n s = elim (stopped n s) [ true ↦ s | false ↦ after k n (step n s) ]

-- one entry in the heap, and no node taken of so many
abbrev pub begun : ℕ → Search
begun nodes = record { entries = first ∷ []; heap = 0 ∷ []; visits = replicate nodes 0; listed = []; taken = 0 }

-- ---- of a machine
-- 1 + F + n × (T + 1)
abbrev pub most_taken : Machine → ℕ → ℕ
most_taken m n = 1 + marked m.finals + n * (length m.links + 1)

-- The removals that a search is given. The search of document 01 has no such number: that these are enough, so that it stops by itself, is promised.
abbrev pub allowed : Machine → ℕ → ℕ
allowed m n = most_taken m n

-- the search for n
unfoldable pub search : Machine → ℕ → Search
unfolding after
search m n = after (reversed m) (allowed m n) n (begun (suc (length m.finals)))

-- the costs of what is listed, in order
abbrev pub costs : Search → List Tropical
costs s = map (λ i. cost_of (get_or s.entries i first).entry) s.listed

-- ---- the readings
abbrev pub with_input : Option ℕ → List ℕ → List ℕ
with_input none run = run
with_input (some l) run = l ∷ run

-- the input links by which entry i and those it came from were put in, the latest first; the second argument is at least i
unfoldable pub run_of : List Put → ℕ → ℕ → List ℕ
run_of es zero i = []
run_of es (suc k) i = with_input (get_or es i first).input (run_of es k (get_or es i first).from)

unfoldable pub runs : Search → List (List ℕ)
unfolding run_of
runs s = map (λ i. run_of s.entries (length s.entries) i) s.listed
