-- Mirrors the code: the part of the work area that a search runs on. A reader need not believe it: laws tie it to the entries of crate search (n_shortest/proofs/Storing).
-- A slot of eight words an entry, then one a node of the reversed machine, then one a link of it. Definitions only.
use Rattle.std.specs.Prelude.{◌≡◌, List, ℕ, ◌+◌, ◌*◌, ◌<◌, length, get_or}
use Rattle.std.proofs.Math.Option.{Option, none, some}
use Rattle.sheet.specs.Below.{list_below}
use Rattle.sheet.specs.Machine.{bits_of}
use Rattle.slots.specs.Slots.{slot_length, nothing}
use Rattle.search.specs.Search.{Entry, half, finished, cost_of, Put, first}

module _ (part : List ℕ) (i : ℕ) where
  -- ---- the slot of entry i
  -- its node, or nothing where it is finished
  abbrev pub node_word : ℕ
  node_word = get_or part (slot_length * i) 0

  abbrev pub cost_word : ℕ
  cost_word = get_or part (slot_length * i + 1) 0

  -- the entry it came from, and the input link by which it was put in, or nothing
  abbrev pub from_word : ℕ
  from_word = get_or part (slot_length * i + 2) 0

  abbrev pub input_word : ℕ
  input_word = get_or part (slot_length * i + 3) 0

  abbrev pub rank_word : ℕ
  rank_word = get_or part (slot_length * i + 4) 0

  -- ---- lists that lie along the entries' slots
  -- place i of the heap
  abbrev pub heap_word : ℕ
  heap_word = get_or part (slot_length * i + 5) 0

  -- the entry that was listed as number i
  abbrev pub listed_word : ℕ
  listed_word = get_or part (slot_length * i + 6) 0

  -- the state of entry i in the list machine, or 0 where it is on no way
  abbrev pub state_word : ℕ
  state_word = get_or part (slot_length * i + 7) 0

abbrev pub heap_of : List ℕ → ℕ → List ℕ
heap_of part n = list_below n (heap_word part)

abbrev pub listed_of : List ℕ → ℕ → List ℕ
listed_of part n = list_below n (listed_word part)

-- ---- node q of the reversed machine, whose slots begin at word `nodes`
-- its slot begins with two words for its distance
module _ (part : List ℕ) (nodes q : ℕ) where
  -- the first reversed link out of it, or nothing
  abbrev pub head_word : ℕ
  head_word = get_or part (nodes + slot_length * q + 2) 0

  abbrev pub visits_word : ℕ
  visits_word = get_or part (nodes + slot_length * q + 3) 0

-- ---- link k of the reversed machine, whose slots begin at word `links`: input link k, or, from T on, a link to a final node
module _ (part : List ℕ) (links k : ℕ) where
  abbrev pub next_word : ℕ
  next_word = get_or part (links + slot_length * k) 0

  abbrev pub weight_word : ℕ
  weight_word = get_or part (links + slot_length * k + 1) 0

  -- the one after it out of the same node, or nothing
  abbrev pub chain_word : ℕ
  chain_word = get_or part (links + slot_length * k + 2) 0

-- ---- entries as words
abbrev pub node_field : Entry → ℕ
node_field (half v c) = v
node_field (finished c) = nothing

abbrev pub input_field : Option ℕ → ℕ
input_field none = nothing
input_field (some l) = l

-- slot i holds entry e but for its rank, with costs in units of 1 / 2 ^ j
pub record Slot (j : ℕ) (part : List ℕ) (i : ℕ) (e : Put) : Type 0 where
  pub node : node_word part i ≡ node_field e.entry
  pub cost : cost_word part i ≡ bits_of j (cost_of e.entry)
  pub from : from_word part i ≡ e.from
  pub input : input_word part i ≡ input_field e.input

-- the slots hold these entries
abbrev pub Entries : ℕ → List ℕ → List Put → Type 0
Entries j part es = (i : ℕ) → i < length es → Slot j part i (get_or es i first)
