-- What the answer means to the user, in the words of request (g). Definitions only.
use Rattle.std.specs.Prelude.{◌≡◌, ◌↔◌, ℕ, ◌+◌, ◌-◌, ◌*◌, ◌<◌, List, map, length, take, drop, Result, IfOk}
use Rattle.sheet.specs.declared.refusal.Refusal.{Refusal}
use Rattle.sheet.specs.Refusals.{number_in}
use Rattle.sheet.specs.Words.{word_length, word}
use Rattle.sheet.specs.Sheet.{sheet_size, link_length, node_length, trailer_length}
use Rattle.sheet.specs.Machine.{Machine, machine}
use Rattle.machine.specs.Input.{input_number}
use Rattle.machine.specs.Readings.{Reading, link, reading_cost}
use Rattle.machine.specs.Demand.{Demand}
use Rattle.narrowing.specs.Sums.{least_sums}
use Rattle.narrowing.specs.Parts.{from_node, preheat, bake}
use Rattle.narrowing.specs.Refused.{Wide}
use Rattle.narrowing.specs.Joins.{joined, Joins}
use Rattle.preheat_bake.specs.declared.counts.Counts.{Counts}

-- the bytes of a link and of its number in the whole
abbrev pub numbered_length : ℕ
numbered_length = link_length + word_length

-- the bytes of both parts and of their numbers, whatever the node
abbrev pub parted_size : Machine → ℕ
parted_size m = numbered_length * length m.links + node_length * (length m.finals + 1) + 2 * trailer_length m.form

-- Of a machine m: the costs of a list for n are the n least sums of one cost from the list for n of each part, or all of them where there are fewer.
abbrev pub ListsJoin : Machine → Machine → Machine → Type 0
ListsJoin m first second =
    (n : ℕ) (whole low high : List Reading)
    → Demand m n whole
    → Demand first n low
    → Demand second n high
    → map (reading_cost m) whole ≡ least_sums n (map (reading_cost first) low) (map (reading_cost second) high)

-- A byte string is the sheet of a machine: it passes tests 1, 14 and 2 to 6, and its nodes, links, weights, start and form are the machine's.
pub record IsSheetOf (m : Machine) (bytes : List ℕ) : Type 0 where
  pub accepted : input_number bytes ≡ 0
  pub same : machine bytes ≡ m

module _ (bytes : List ℕ) (c : ℕ) (told : Counts) (area : List ℕ) where
  -- where the words of the first part stand, the second part, and its words
  abbrev pub first_numbers_at : ℕ
  first_numbers_at = sheet_size (machine bytes).form told.first (c + 1)

  abbrev pub second_at : ℕ
  second_at = first_numbers_at + word_length * told.first

  abbrev pub second_size : ℕ
  second_size = sheet_size (machine bytes).form told.second (length (machine bytes).finals - c)

  -- the sheets, and the number of link l of each in the whole
  abbrev pub first_sheet : List ℕ
  first_sheet = take first_numbers_at area

  abbrev pub second_sheet : List ℕ
  second_sheet = take second_size (drop second_at area)

  abbrev pub first_number : ℕ → ℕ
  first_number l = word area (first_numbers_at + word_length * l)

  abbrev pub second_number : ℕ → ℕ
  second_number l = word area (second_at + second_size + word_length * l)

  -- The area holds the first part, then the second, each in the sheet's own form and followed by the numbers of its links.
  pub record Parted : Type 0 where
    pub first-part : IsSheetOf (preheat c (machine bytes)) first_sheet
    pub second-part : IsSheetOf (bake c (machine bytes)) second_sheet
    -- each link of the whole is one of them
    pub first-links : length (machine first_sheet).links ≡ told.first
    pub second-links : length (machine second_sheet).links ≡ told.second
    pub all-links : told.first + told.second ≡ length (machine bytes).links
    pub first-numbers : (l : ℕ) → l < told.first → (first_number l ≡ l) × (link (machine first_sheet) l ≡ link (machine bytes) (first_number l))
    pub second-numbers : (l : ℕ) → l < told.second → (second_number l ≡ told.first + l) × (link (machine second_sheet) l ≡ from_node c (link (machine bytes) (second_number l)))
    -- and so is what they read: a reading of the whole is one of each part, joined by these numbers, at the sum of their costs
    pub readings : Joins (machine bytes) (machine first_sheet) (machine second_sheet) (joined c first_number second_number)
    -- the request's sentence
    pub lists : ListsJoin (machine bytes) (machine first_sheet) (machine second_sheet)

-- Why a sheet that passes tests 1, 14 and 2 to 6 is refused, with an area of so many bytes: each number in its condition, and in no other.
pub record Reasons (bytes : List ℕ) (c room number : ℕ) : Type 0 where
  pub wide : number ≡ 13 ↔ Wide c (machine bytes)
  -- 21: not for that, and since the area is shorter than both parts are
  pub short : number ≡ 21 ↔ ((Wide c (machine bytes) → ⊥) × (room < parted_size (machine bytes)))

-- Of an answer, with an area of so many bytes, and the area afterwards.
pub record Promised (bytes : List ℕ) (c room : ℕ) (r : Result Counts Refusal) (area : List ℕ) : Type 0 where
  pub made : IfOk r (λ told. Parted bytes c told area)
  pub why : input_number bytes ≡ 0 → Reasons bytes c room (number_in r)
