-- What a caller may rely on when a list is read back: that of the list itself, and of any other bytes. Definitions only.
use Rattle.std.specs.Prelude.{◌≡◌, List, [], ◌++◌, ℕ, ◌≤◌, ◌<◌, ℤ, length, get_or, take, drop, Result, Ok, Err}
use Rattle.std.proofs.lemmas.List.Edits.{sets}
use Rattle.tropical_weight.specs.Limits.{list_limit}
use Rattle.tropical_weight.specs.Tropical.{fin}
use Rattle.sheet.specs.Machine.{Machine, machine}
use Rattle.machine.specs.Readings.{IsReading, reading_of, reading_cost}
use Rattle.machine.specs.Input.{input_number}
use Rattle.search.specs.Listed.{list_of}
use Rattle.shortest_path.specs.Outcome.{result_of, answer_of}
use Rattle.sheet.specs.declared.refusal.Refusal.{Refusal}
use Rattle.read_back.specs.declared.reading.Told.{Told}
use Rattle.read_back.specs.Answers.{reading_told}

-- The result of the call for lists on an accepted sheet and n, with the counts that it told, and any bytes after it.
pub record IsAnswer (sheet : List ℕ) (n : ℕ) (result : List ℕ) (nodes links : ℕ) : Type 0 where
  pub accepted : input_number sheet ≡ 0
  pub few : n ≤ list_limit
  pub bytes : result ≡ answer_of sheet n ++ drop (length (answer_of sheet n)) result
  pub nodes-are : nodes ≡ length (result_of sheet n).machine.finals
  pub links-are : links ≡ length (result_of sheet n).machine.links

-- of such a result, as many readings as the list that it holds
abbrev pub CountsList : List ℕ → ℕ → ℕ → ℕ → Result ℕ Refusal → Type 0
CountsList result n nodes links told = (sheet : List ℕ) → ((i : ℕ) → get_or sheet i 0 < 256) → IsAnswer sheet n result nodes links → told ≡ Ok (length (list_of (machine sheet).form n nodes links result))

-- and of each, in an area with room for its links, just that reading of the list
abbrev pub ReadsList : List ℕ → ℕ → List ℕ → ℕ → ℕ → ℕ → List ℕ → Result Told Refusal → List ℕ → Type 0
ReadsList sheet n result nodes links k old told run =
    let way = get_or (list_of (machine sheet).form n nodes links result) k [] in
    IsAnswer sheet n result nodes links → k < length (list_of (machine sheet).form n nodes links result) → length way ≤ length old → (told ≡ Ok (reading_told (machine sheet) way)) × (run ≡ sets old 0 way)

-- Of any bytes: the run of so many links, at the area's front, is a reading of the sheet, at that cost and end.
pub record IsTrue (m : Machine) (count : ℕ) (cost : ℤ) (end : ℕ) (run : List ℕ) : Type 0 where
  pub room : count ≤ length run
  pub reading : IsReading m (reading_of m (take count run))
  pub costs : fin cost ≡ reading_cost m (reading_of m (take count run))
  pub ends : end ≡ (reading_of m (take count run)).end

abbrev pub TellsTrue : Machine → Result Told Refusal → List ℕ → Type 0
TellsTrue m (Ok told) run = IsTrue m told.links told.cost told.end run
TellsTrue m (Err r) run = Unit
