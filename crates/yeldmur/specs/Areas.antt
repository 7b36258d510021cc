-- Areas with which a call is never refused for want of room: of a list, and of distances, the slots that are needed and a bound on the bytes, of a conversion the bytes. Definitions only.
use Rattle.std.specs.Prelude.{◌≡◌, not, ◌&&◌, cond, List, ℕ, zero, suc, ◌+◌, ◌*◌, ◌≤◌, ◌<◌, leb, ltb, eqb, length, get_or}
use Rattle.tropical_weight.specs.Limits.{node_limit, link_limit, list_limit}
use Rattle.sheet.specs.Words.{word_length}
use Rattle.sheet.specs.Sheet.{link_length, node_length, trailer_length}
use Rattle.sheet.specs.Machine.{Machine, machine}
use Rattle.machine.specs.Readings.{marked}
use Rattle.machine.specs.Input.{input_number}
use Rattle.slots.specs.Slots.{slot_length}
use Rattle.shortest_distance.specs.Outcome.{distance_number}
use Rattle.shortest_path.specs.Outcome.{list_number}

-- the bytes of a result with so many states and links and a trailer of so many bytes; a word stands beside each link
abbrev pub result_bytes_of : ℕ → ℕ → ℕ → ℕ
result_bytes_of trailer states links = node_length * states + (link_length + word_length) * links + trailer

-- with at most so many entries: a state each and the start; a link each, and n to those that are listed
abbrev pub entries_bytes : ℕ → ℕ → ℕ → ℕ
entries_bytes trailer entries n = result_bytes_of trailer (entries + 1) (entries + n)

-- for N nodes, T links and F final nodes: the empty machine for n = 0; a run has fewer links than there are nodes; from n = 2 the
-- entries are at most 1 + F + n × (T + 1)
abbrev pub bytes_of : ℕ → ℕ → ℕ → ℕ → ℕ → ℕ
bytes_of trailer nodes links finals zero = result_bytes_of trailer 0 0
bytes_of trailer nodes links finals (suc zero) = result_bytes_of trailer nodes nodes
bytes_of trailer nodes links finals (suc (suc k)) = entries_bytes trailer (1 + finals + suc (suc k) * (links + 1)) (suc (suc k))

-- with the trailer of the machine's form
abbrev pub bytes_for : Machine → ℕ → ℕ
bytes_for m n = bytes_of (trailer_length m.form) (length m.finals) (length m.links) (marked m.finals) n

-- of a sheet
abbrev pub bytes_enough : List ℕ → ℕ → ℕ
bytes_enough sheet n = bytes_for (machine sheet) n

-- Areas of so many slots of eight words, and bytes, or longer ones.
pub record Enough (sheet : List ℕ) (n slots bytes : ℕ) : Type 0 where
  -- no list for n is refused in them
  pub list : (words room : ℕ) → slot_length * slots ≤ words → bytes ≤ room → list_number sheet n words room ≡ 0
  -- nor, where n is 1, are the distances
  pub distances : n ≡ 1 → (words room : ℕ) → slot_length * slots ≤ words → bytes ≤ room → distance_number sheet words room ≡ 0

-- ---- for counts in place of a sheet
-- the first number of 5 and 7 whose test fails, or 0
abbrev pub counts_number : ℕ → ℕ → ℕ → ℕ
counts_number nodes links n = cond (not (leb nodes node_limit && leb links link_limit)) 5 (cond (ltb list_limit n) 7 0)

-- final nodes are no more than nodes
abbrev pub finals_of : ℕ → ℕ → ℕ
finals_of nodes finals = cond (ltb nodes finals) nodes finals

-- such areas are enough for any accepted sheet with at most so many nodes, links and final nodes
abbrev pub Serves : ℕ → ℕ → ℕ → ℕ → ℕ → ℕ → Type 0
Serves nodes links finals n slots bytes =
    (sheet : List ℕ)
    → ((i : ℕ) → get_or sheet i 0 < 256)
    → input_number sheet ≡ 0
    → length (machine sheet).finals ≤ nodes
    → length (machine sheet).links ≤ links
    → marked (machine sheet).finals ≤ finals
    → Enough sheet n slots bytes

-- ---- of a conversion
-- its number in an area of so many bytes, by the number and the bytes that measuring it told
abbrev pub measured_number : ℕ → ℕ → ℕ → ℕ
measured_number k bytes room = cond (eqb k 0) (cond (ltb room bytes) 21 0) k
