-- Mirrors the code: entries in the slots of the part. A reader need not believe it: laws tie it to the entries of crate search (proofs/Storing). Definitions only.
use Rattle.std.specs.Prelude.{cond, List, ℕ, ◌+◌, ◌*◌, ◌<◌, eqb, Float, length, set}
use Rattle.std.specs.Float.{binary32}
use Rattle.std.specs.Float.Ieee.{add, of_bits, to_bits}
use Rattle.tropical_weight.specs.Single.{number_bits}
use Rattle.slots.specs.Slots.{slot_length, nothing}
use Rattle.distance.specs.Held.{weight_in, distance_in}
use Rattle.search_slots.specs.Slots.{node_word, cost_word, rank_word}
use Rattle.n_shortest.specs.declared.entry.Entry.{Entry}
use Rattle.n_shortest.specs.declared.entry.Entry.TheVariants.{Half, Finished}

abbrev pub node_of : Entry → ℕ
node_of (Half v c) = v
node_of (Finished c) = nothing

abbrev pub cost_of : Entry → Float
cost_of (Half v c) = c
cost_of (Finished c) = c

-- distance plus cost: what an unreached one adds is infinity
abbrev pub rank_by : Float → Entry → Float
rank_by d (Half v c) = add binary32 d c
rank_by d (Finished c) = c

abbrev pub rank_w : List ℕ → ℕ → Entry → Float
rank_w part nodes e = rank_by (weight_in (distance_in part (nodes + slot_length * node_of e))) e

-- the node of a half-built one has a slot
abbrev pub Inside : List ℕ → ℕ → Entry → Type 0
Inside part nodes (Half v c) = nodes + slot_length * v + 1 < length part
Inside part nodes (Finished c) = Unit

-- the entry in slot x
unfoldable pub entry_w : List ℕ → ℕ → Entry
entry_w part x =
    let c = of_bits binary32 (cost_word part x) in
    cond (eqb (node_word part x) nothing) (Finished c) (Half (node_word part x) c)

-- the rank stored in slot x
abbrev pub rank_of : List ℕ → ℕ → Float
rank_of part x = of_bits binary32 (rank_word part x)

-- slot i with an entry stored
abbrev pub stored : List ℕ → ℕ → ℕ → Entry → ℕ → ℕ → List ℕ
stored part nodes i e from input =
    let rank = number_bits (rank_w part nodes e) in
    set (set (set (set (set part (slot_length * i) (node_of e)) (slot_length * i + 1) (to_bits binary32 (cost_of e))) (slot_length * i + 2) from) (slot_length * i + 3) input) (slot_length * i + 4) rank
