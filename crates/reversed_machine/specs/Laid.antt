-- Mirrors the code: a reversed machine laid out in the slots, as a search reads it. A reader need not believe it: its fields tie it to Reversed of crate search.
-- Definitions only.
use Rattle.std.specs.Prelude.{◌≡◌, ◌⊎◌, List, map, ℕ, ◌+◌, ◌*◌, ◌≤◌, ◌<◌, length, take, drop}
use Rattle.std.specs.Float.{binary32}
use Rattle.std.specs.Float.Ieee.{of_bits}
use Rattle.tropical_weight.specs.Grid.{of_t}
use Rattle.sheet.specs.Sheet.{parts_of}
use Rattle.sheet.specs.Machine.{Machine, unit_in, machine_of, weight_of}
use Rattle.machine.specs.Distance.{distance}
use Rattle.distance.specs.Held.{held, distance_in}
use Rattle.search.specs.Reversed.{out_of, distance_to}
use Rattle.machine.specs.Readings.{marked}
use Rattle.slots.specs.Slots.{slot_length, nothing}
use Rattle.search_slots.specs.Slots.{head_word, visits_word, next_word, weight_word, chain_word}
use Rattle.reversed_machine.specs.ReverseWords.{chain_of, back_of}

-- the links of the reversed machine: those of the input, and one to each final node
abbrev pub back_count : Machine → ℕ
back_count m = length m.links + marked m.finals

-- the slots of the old nodes hold their distances
abbrev pub Measured : Machine → ℕ → List ℕ → Type 0
Measured m nodes part = (v : ℕ) → v < length m.finals → distance_in part (nodes + slot_length * (v + 1)) ≡ held (unit_in m) (distance m v)

-- the same of the part after they are made, which is as it was up to the slot of node 1, and beyond the nodes' slots
pub record MeasuredIn (bytes : List ℕ) (nodes : ℕ) (old part : List ℕ) : Type 0 where
  pub measured : Measured (machine_of (parts_of bytes)) nodes part
  pub size : length part ≡ length old
  pub before : take (nodes + slot_length) part ≡ take (nodes + slot_length) old
  pub beyond : drop (nodes + slot_length * (length (machine_of (parts_of bytes)).finals + 1)) part ≡ drop (nodes + slot_length * (length (machine_of (parts_of bytes)).finals + 1)) old

-- the slots of nodes and of links begin at these words
pub record Laid (m : Machine) (nodes links : ℕ) (part : List ℕ) : Type 0 where
  pub apart : nodes + slot_length * (length m.finals + 1) ≤ links
  pub room : links + slot_length * back_count m ≤ length part
  -- a chain begins at a link, each leads on to a higher one, and it ends at nothing, which is no link
  pub few : back_count m < nothing
  pub heads : (q : ℕ) → q ≤ length m.finals → (head_word part nodes q ≡ nothing) ⊎ (head_word part nodes q < back_count m)
  pub rises : (k : ℕ) → k < back_count m → (chain_word part links k ≡ nothing) ⊎ ((k < chain_word part links k) × (chain_word part links k < back_count m))
  -- a link leads to the slot of an old node, and its weight's field is its value in single precision
  pub inside : (k : ℕ) → k < back_count m → (0 < next_word part links k) × (next_word part links k ≤ length m.finals)
  pub valued : (k : ℕ) → k < back_count m → of_bits binary32 (weight_word part links k) ≡ of_t (unit_in m) (weight_of (unit_in m) (weight_word part links k))
  -- the chain of a node lists the links out of it, and its slot holds its distance
  pub out : (q : ℕ) → q ≤ length m.finals → (n : ℕ) → back_count m ≤ n → map (back_of (unit_in m) part links (length m.links)) (chain_of part links (head_word part nodes q) n) ≡ out_of m q
  pub distances : (q : ℕ) → q ≤ length m.finals → distance_in part (nodes + slot_length * q) ≡ held (unit_in m) (distance_to m q)

-- the part after the reversal: laid out, no node taken, and beside the slots of nodes and links as it was
pub record Reversal (m : Machine) (nodes links : ℕ) (old part : List ℕ) : Type 0 where
  pub laid : Laid m nodes links part
  pub fresh : (q : ℕ) → q ≤ length m.finals → visits_word part nodes q ≡ 0
  pub size : length part ≡ length old
  pub before : take nodes part ≡ take nodes old
  pub beyond : drop (links + slot_length * back_count m) part ≡ drop (links + slot_length * back_count m) old
