-- Mirrors the code: a list machine marked, numbered and written. A reader need not believe it: laws tie it to ListMachine of crate search (proofs/Writings).
-- Definitions only.
use Rattle.std.specs.Prelude.{◌≡◌, cond, List, [], ◌∷◌, ◌++◌, ℕ, zero, suc, ◌+◌, ◌-◌, ◌*◌, ◌^◌, ◌≤◌, ◌<◌, eqb, ltb, length, get_or, set, replicate, drop, Option, None, Some, Result}
use Rattle.std.proofs.Math.Option as Math
use Rattle.tropical_weight.specs.Tropical.{Tropical}
use Rattle.sheet.specs.declared.form.Form.{Form}
use Rattle.sheet.specs.Words.{word_length, word, bytes_of_all}
use Rattle.sheet.specs.Sheet.{link_length, node_length, trailer_length}
use Rattle.sheet.specs.Accepted.{trailer_in, trailer_fields}
use Rattle.sheet.specs.Machine.{Machine}
use Rattle.machine.specs.Readings.{final}
use Rattle.search.specs.Search.{half, first, Search}
use Rattle.sheet.specs.declared.refusal.Refusal.{Refusal}
use Rattle.list_answer.specs.declared.Listed.{Listed}
use Rattle.list_answer.specs.ListAnswer.{listed_by, link_to, state_words}
use Rattle.slots.specs.Slots.{slot_length, nothing, number_in}
use Rattle.search_slots.specs.Slots.{node_word, from_word, input_word, listed_word, state_word, Entries}

-- ---- marks, in the words of states: 0, or another word
-- the entries below n have none
unfoldable pub unmarked : ℕ → List ℕ → List ℕ
unmarked zero part = part
unmarked (suc i) part = set (unmarked i part) (slot_length * i + 7) 0

-- the first k of the listed get one
unfoldable pub mark_listed : ℕ → List ℕ → List ℕ
mark_listed zero part = part
mark_listed (suc k) part = set (mark_listed k part) (slot_length * listed_word (mark_listed k part) k + 7) 1

-- where entry i has one, the entry it came from gets one
abbrev pub mark_from : ℕ → List ℕ → List ℕ
mark_from i part = cond (eqb (state_word part i) 0) part (set part (slot_length * from_word part i + 7) 1)

-- from entry k down to entry 1
unfoldable pub mark_back : ℕ → List ℕ → List ℕ
mark_back zero part = part
mark_back (suc k) part = mark_back k (mark_from (suc k) part)

abbrev pub marks : ℕ → ℕ → List ℕ → List ℕ
marks entries listed part = mark_back (entries - 1) (mark_listed listed (unmarked entries part))

-- ---- states
-- whether entry i has a mark, as a number, and how many of 1 to k have one
abbrev pub mark_of : List ℕ → ℕ → ℕ
mark_of part i = cond (eqb (state_word part i) 0) 0 1

unfoldable pub mark_count : List ℕ → ℕ → ℕ
mark_count part zero = 0
mark_count part (suc k) = mark_count part k + mark_of part (suc k)

-- a mark becomes a state
abbrev pub number_one : ℕ → ℕ → List ℕ → List ℕ
number_one i count part = cond (eqb (state_word part i) 0) part (set part (slot_length * i + 7) (2 + count))

-- those of 1 to k with a mark count from 2
unfoldable pub numbered : ℕ → List ℕ → List ℕ
unfolding mark_count
numbered zero part = part
numbered (suc k) part = number_one (suc k) (mark_count part k) (numbered k part)

-- and entry 0 is state 1
abbrev pub states : ℕ → List ℕ → List ℕ
states entries part = set (numbered (entries - 1) part) 7 1

-- the part once the states are numbered, and how many are from 2 on
abbrev pub stated : ℕ → ℕ → List ℕ → List ℕ
stated entries listed part = states entries (marks entries listed part)

abbrev pub kept_count : ℕ → ℕ → List ℕ → ℕ
kept_count entries listed part = mark_count (marks entries listed part) (entries - 1)

-- ---- the words of the result, by a part whose states are numbered
-- the start's links to the first k listed
unfoldable pub start_words : List ℕ → ℕ → List ℕ
start_words part zero = []
start_words part (suc k) = start_words part k ++ (0 ∷ 0 ∷ 0 ∷ state_word part (listed_word part k) ∷ [])

-- the old node of entry i, and the input link that it repeats, or none
abbrev pub node_of : List ℕ → ℕ → Option ℕ
node_of part i = number_in (node_word part i)

abbrev pub input_of : List ℕ → ℕ → Option ℕ
input_of part i = number_in (input_word part i)

-- the final weight of old node v, or of none
abbrev pub blank_bits : List ℕ → ℕ → Option ℕ → ℕ
blank_bits bytes links None = 0
blank_bits bytes links (Some v) = word bytes (link_length * links + node_length * (v - 1) + 2 * word_length)

-- the labels, the weight and the next state of an entry, by its input link and its old node
abbrev pub words_by : List ℕ → ℕ → Option ℕ → Option ℕ → ℕ → List ℕ
words_by bytes links (Some l) v to = link_to bytes l to
words_by bytes links None v to = 0 ∷ 0 ∷ blank_bits bytes links v ∷ to ∷ []

abbrev pub entry_words : List ℕ → ℕ → List ℕ → ℕ → List ℕ
entry_words bytes links part i = words_by bytes links (input_of part i) (node_of part i) (state_word part (from_word part i))

-- of those with a state
abbrev pub stated_words : List ℕ → ℕ → List ℕ → ℕ → List ℕ
stated_words bytes links part i = cond (eqb (state_word part i) 0) [] (entry_words bytes links part i)

-- of 1 to k
unfoldable pub link_words : List ℕ → ℕ → List ℕ → ℕ → List ℕ
link_words bytes links part zero = []
link_words bytes links part (suc k) = link_words bytes links part k ++ stated_words bytes links part (suc k)

-- the start and the final state
abbrev pub head_words : ℕ → List ℕ
head_words listed = listed ∷ 0 ∷ 0 ∷ 0 ∷ 1 ∷ 0 ∷ []

-- the trailer of the form of the sheet
abbrev pub trailer_words : Form → ℕ → ℕ → List ℕ
trailer_words form links nodes = trailer_fields (trailer_in links nodes 0 form)

-- the input links of those of 1 to k with a state
abbrev pub repeat_words : List ℕ → ℕ → List ℕ
repeat_words part i = cond (eqb (state_word part i) 0) [] (input_word part i ∷ [])

unfoldable pub input_words : List ℕ → ℕ → List ℕ
input_words part zero = []
input_words part (suc k) = input_words part k ++ repeat_words part (suc k)

-- links, nodes and trailer, and the words of the links
abbrev pub links_part : List ℕ → ℕ → List ℕ → ℕ → ℕ → List ℕ
links_part bytes links part entries listed = start_words part listed ++ link_words bytes links part (entries - 1)

abbrev pub nodes_part : Form → ℕ → ℕ → List ℕ
nodes_part form listed kept = head_words listed ++ state_words kept ++ trailer_words form (listed + kept) (2 + kept)

abbrev pub words_part : List ℕ → ℕ → ℕ → List ℕ
words_part part entries listed = replicate listed nothing ++ input_words part (entries - 1)

abbrev pub list_words : List ℕ → ℕ → Form → List ℕ → ℕ → ℕ → ℕ → List ℕ
list_words bytes links form part entries listed kept = links_part bytes links part entries listed ++ nodes_part form listed kept ++ words_part part entries listed

-- its bytes
abbrev pub list_length : Form → ℕ → ℕ → ℕ
list_length form listed kept = link_length * (listed + kept) + node_length * (2 + kept) + trailer_length form + word_length * (listed + kept)

-- ---- what writing answers and leaves
-- into an area of so many bytes
abbrev pub list_answer : Form → ℕ → ℕ → ℕ → ℕ → Result Listed Refusal
list_answer form listed kept taken room = listed_by (ltb room (list_length form listed kept)) (2 + kept) (listed + kept) taken

-- the area afterwards: the words and then the bytes that were there, or just those where it is too short
abbrev pub list_over : ℕ → List ℕ → List ℕ → List ℕ
list_over size ws old = cond (ltb (length old) size) old (bytes_of_all ws ++ drop size old)

abbrev pub list_after : List ℕ → ℕ → Form → List ℕ → ℕ → ℕ → List ℕ → List ℕ
list_after bytes links form part entries listed old =
    let kept = kept_count entries listed part in
    list_over (list_length form listed kept) (list_words bytes links form (stated entries listed part) entries listed kept) old

-- ---- a search in the part, its weights in units of 1 / 2 ^ j
pub record Holding (j : ℕ) (part : List ℕ) (s : Search) : Type 0 where
  pub slots : slot_length * length s.entries ≤ length part
  pub listed-slots : slot_length * length s.listed ≤ length part
  pub held : Entries j part s.entries
  pub held-listed : (k : ℕ) → k < length s.listed → listed_word part k ≡ get_or s.listed k 0

-- Entries were put in by links of the machine, or by links from node 0 to final nodes; the fields of the result hold its counts.
pub record Sourced (m : Machine) (s : Search) : Type 0 where
  pub few : length s.listed + length s.entries ≤ 2 ^ 28
  pub inputs_in : (i l : ℕ) → i < length s.entries → (get_or s.entries i first).input ≡ Math.some l → l < length m.links
  pub finals-in : (i v : ℕ) (c : Tropical) → 0 < i → i < length s.entries → (get_or s.entries i first).input ≡ Math.none → (get_or s.entries i first).entry ≡ half v c → (u : ℕ) × (w : Tropical) × (v ≡ suc u) × (final m u ≡ Math.some w)

-- ---- bounds
-- what is read to write the link of entry i
pub record Readable (bytes : List ℕ) (links : ℕ) (part : List ℕ) (i : ℕ) : Type 0 where
  pub slot : slot_length * i + slot_length ≤ length part
  pub from_in : slot_length * from_word part i + slot_length ≤ length part
  pub input-in : (input_word part i ≡ nothing → ⊥) → link_length * input_word part i + link_length ≤ length bytes
  pub node_in : input_word part i ≡ nothing → (node_word part i ≡ nothing → ⊥) → (0 < node_word part i) × (link_length * links + node_length * node_word part i ≤ length bytes)

-- the slots of the entries, those they came from, and those listed
pub record Linked (part : List ℕ) (entries listed : ℕ) : Type 0 where
  pub some_in : 0 < entries
  pub slots : slot_length * entries ≤ length part
  pub listed-slots : slot_length * listed ≤ length part
  pub few : listed + entries ≤ 2 ^ 28
  pub came-in : (i : ℕ) → 0 < i → i < entries → from_word part i < entries
  pub listed_in_lem : (k : ℕ) → k < listed → listed_word part k < entries

-- and what is read of the sheet
pub record Listable (bytes : List ℕ) (links : ℕ) (part : List ℕ) (entries listed : ℕ) : Type 0 where
  pub linked : Linked part entries listed
  pub readable : (i : ℕ) → 0 < i → i < entries → Readable bytes links part i
