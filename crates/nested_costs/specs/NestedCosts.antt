-- Short lists and long lists of one sheet. Their costs are nested; of readings that cost the same, a short list may hold others than the front of a long one, or in another order. Definitions only.
use Rattle.std.specs.Prelude.{◌≡◌, ℕ, ◌≤◌, ◌<◌, List, [], map, take, drop, length, get_or, Ok}
use mathlib.Core.Logic.{◌⊎◌}
use Rattle.tropical_weight.specs.Tropical.{Tropical, ◌≼◌}
use Rattle.sheet.specs.Machine.{Machine, machine}
use Rattle.machine.specs.Readings.{Reading, IsReading, reading_of, reading_cost}
use Rattle.machine.specs.Parents.{best}
use Rattle.machine.specs.Demand.{◌∈◌, NoDup}
use Rattle.search.specs.Listed.{list_of}
use Rattle.list_answer.specs.declared.Listed.{Listed}
use Rattle.shortest_path.specs.Outcome.{list_answer, result_after}
use Rattle.shortest_path.specs.Promise.{if_any, Keeps}

-- ---- of two lists of a machine's readings
-- what they cost, in their order
abbrev pub costs : Machine → List Reading → List Tropical
costs m readings = map (reading_cost m) readings

-- what the best path costs, if there is one
abbrev pub best_cost : Machine → List Tropical
best_cost m = costs m (if_any (best m))

-- x costs less than y
abbrev pub Cheaper : Machine → Reading → Reading → Type 0
Cheaper m x y = reading_cost m y ≼ reading_cost m x → ⊥

-- no other reading costs what x does
abbrev pub Untied : Machine → Reading → Type 0
Untied m x = (y : Reading) → IsReading m y → reading_cost m y ≡ reading_cost m x → y ≡ x

-- no reading of one list costs what one of the other does
abbrev pub Parted : Machine → List Reading → List Reading → Type 0
Parted m l r = (x y : Reading) → x ∈ l → y ∈ r → reading_cost m x ≡ reading_cost m y → ⊥

-- the reading at a place of a list, from 0, or one that stands for none
abbrev pub reading_at : List Reading → ℕ → Reading
reading_at l place = get_or l place (record { run = []; end = 0 })

-- A list for k beside one for n, where k is at most n.
pub record NestedCosts (m : Machine) (k n : ℕ) (short long : List Reading) : Type 0 where
  -- the costs listed for k are the first k of those listed for n, or all of them where there are fewer
  pub front : costs m short ≡ take k (costs m long)
  -- the best path, if there is one, costs what heads both; without one both are empty
  pub heads : (take 1 (costs m short) ≡ best_cost m) × (take 1 (costs m long) ≡ best_cost m)
  -- of readings the lists may differ in those of the last cost alone: any that costs less than one on the shorter list is on it, and among the first k of the longer
  pub cheaper : (x y : Reading) → IsReading m x → y ∈ short → Cheaper m x y → (x ∈ short) × (x ∈ take k long)
  -- and by ties alone: one that no other ties with has the same place on both
  pub ranked : (place : ℕ) → place < length short → Untied m (reading_at long place) → reading_at short place ≡ reading_at long place
  -- one on the shorter list is somewhere on the longer, or that is full and holds none that is dearer
  pub kept : (x : Reading) → x ∈ short → (x ∈ long) ⊎ ((length long ≡ n) × ((y : Reading) → y ∈ long → reading_cost m y ≼ reading_cost m x))
  -- as the longer list tells it, where it asks for more: if none of its first k costs stands behind them, too, its first k readings are those of the shorter list
  pub whole : k < n → Parted m (take k long) (drop k long) → (x : Reading) → (x ∈ short → x ∈ take k long) × (x ∈ take k long → x ∈ short)
  -- and if besides no two of these costs are the same, they stand in its order
  pub same : k < n → Parted m (take k long) (drop k long) → NoDup (take k (costs m long)) → short ≡ take k long

-- ---- of results of the call for lists on a sheet, each with what it told
-- the call promises this where it answers 0
abbrev pub ListFor : List ℕ → ℕ → Listed → List ℕ → Type 0
ListFor sheet n told result = Keeps (machine sheet) n told.nodes told.links told.taken result

-- the readings on it, in their order, as the result's bytes tell them
abbrev pub readings_listed : List ℕ → ℕ → Listed → List ℕ → List Reading
readings_listed sheet n told result = map (reading_of (machine sheet)) (list_of (machine sheet).form n told.nodes told.links result)

-- their costs
abbrev pub costs_listed : List ℕ → ℕ → Listed → List ℕ → List Tropical
costs_listed sheet n told result = costs (machine sheet) (readings_listed sheet n told result)

-- Of one for n: beside every one for a k up to n, whatever areas either was made in.
abbrev pub ShorterLists : List ℕ → ℕ → Listed → List ℕ → Type 0
ShorterLists sheet n told result =
    (k : ℕ) (less : Listed) (shorter : List ℕ)
    → 1 ≤ k
    → k ≤ n
    → ListFor sheet k less shorter
    → NestedCosts (machine sheet) k n (readings_listed sheet k less shorter) (readings_listed sheet n told result)

-- ---- of two calls
-- the call for n on a sheet, in a work area of so many words and a result area of these bytes, is not refused
pub record Made (sheet : List ℕ) (n words : ℕ) (area : List ℕ) : Type 0 where
  pub told : Listed
  pub answers : list_answer sheet n words (length area) ≡ Ok told

-- the readings that it lists
abbrev pub readings_for : (sheet : List ℕ) (n words : ℕ) (area : List ℕ) → Made sheet n words area → List Reading
readings_for sheet n words area made = readings_listed sheet n made.told (result_after sheet n words area)
