-- Answers by numbers, for callers without enums: 0 or the number of the refusal, then the values, which a refusal leaves as they were. Definitions only.
use Rattle.std.specs.Prelude.{◌≡◌, cond, List, [], ◌∷◌, ℕ, ◌≤◌, ◌<◌, ltb, ℤ, pos, length, get_or, Option, Some, None, Result, Ok, Err}
use Rattle.std.proofs.lemmas.List.Edits.{sets}
use Rattle.tropical_weight.specs.Tropical.{fin}
use Rattle.sheet.specs.Machine.{machine}
use Rattle.machine.specs.Readings.{reading_of, reading_cost}
use Rattle.search.specs.Listed.{list_of}
use Rattle.list_answer.specs.declared.Listed.{Listed}
use Rattle.preheat_bake.specs.declared.counts.Counts.{Counts}
use Rattle.sheet.specs.declared.form.Form.{Form}
use Rattle.sheet.specs.declared.refusal.Refusal.{Refusal}
use Rattle.sheet.specs.declared.tr.Link.{Link}
use Rattle.sheet.specs.declared.tr.Node.{Node}
use Rattle.sheet.specs.Refusals.{number_of}
use Rattle.sheet.specs.Sheet.{unit_of, unit_fits}
use Rattle.sheet_fields.specs.declared.counts.SheetCounts.{SheetCounts}
use Rattle.sheet_fields.specs.Fields.{link_record, node_record}
use Rattle.read_distance.specs.Told.{distance_told}
use Rattle.read_back.specs.declared.reading.Told.{Told}
use Rattle.read_back.specs.Promise.{IsAnswer}

-- of a sheet written, of rows or a sheet converted, of distances, and of a result read: how many bytes, values or readings
abbrev pub value_told : {A : Type 0} → Result A Refusal → A → ℕ × A
value_told (Ok value) old = (0, value)
value_told (Err r) old = (number_of r, old)

-- of a list, its machine's states and links, and the entries taken
abbrev pub listed_told : Result Listed Refusal → ℕ → ℕ → ℕ → ℕ × ℕ × ℕ × ℕ
listed_told (Ok made) states links taken = (0, made.nodes, made.links, made.taken)
listed_told (Err r) states links taken = (number_of r, states, links, taken)

-- of two parts, how many links each has
abbrev pub split_told : Result Counts Refusal → ℕ → ℕ → ℕ × ℕ × ℕ
split_told (Ok made) first second = (0, made.first, made.second)
split_told (Err r) first second = (number_of r, first, second)

-- of a reading, how many links it has, its cost and its end
abbrev pub told_reading : Result Told Refusal → ℕ → ℤ → ℕ → ℕ × ℕ × ℤ × ℕ
told_reading (Ok told) count cost end = (0, told.links, told.cost, told.end)
told_reading (Err r) count cost end = (number_of r, count, cost, end)

-- Of the result of the call for lists it is never refused: it tells as many readings as the list holds,
abbrev pub CountTold : List ℕ → ℕ → ℕ → ℕ → ℕ → ℕ → Type 0
CountTold result n states links r count = (sheet : List ℕ) → ((i : ℕ) → get_or sheet i 0 < 256) → IsAnswer sheet n result states links → (r ≡ 0) × (count ≡ length (list_of (machine sheet).form n states links result))

-- and of each that there is room for, its links, its cost and its end.
pub record IsListed (sheet old way : List ℕ) (r count : ℕ) (cost : ℤ) (end : ℕ) (run : List ℕ) : Type 0 where
  pub done : r ≡ 0
  pub counts : count ≡ length way
  pub costs : fin cost ≡ reading_cost (machine sheet) (reading_of (machine sheet) way)
  pub ends : end ≡ (reading_of (machine sheet) way).end
  pub stored : run ≡ sets old 0 way

abbrev pub ReadingTold : List ℕ → ℕ → List ℕ → ℕ → ℕ → ℕ → List ℕ → ℕ → ℕ → ℤ → ℕ → List ℕ → Type 0
ReadingTold sheet n result states links k old r count cost end run =
    let way = get_or (list_of (machine sheet).form n states links result) k [] in
    IsAnswer sheet n result states links → k < length (list_of (machine sheet).form n states links result) → length way ≤ length old → IsListed sheet old way r count cost end run

-- of a node's distance, whether it is reached, and the cost, or 0
abbrev pub node_distance_told : Result (Option ℤ) Refusal → ℕ → ℤ → ℕ × ℕ × ℤ
node_distance_told (Ok (Some k)) reached cost = (0, 1, k)
node_distance_told (Ok None) reached cost = (0, 0, pos 0)
node_distance_told (Err r) reached cost = (number_of r, reached, cost)

-- the distance that is told in units of 1 / unit, 64 or 256, or 14 for another unit
abbrev pub distance_in : List ℕ → ℕ → ℕ → ℕ → Result (Option ℤ) Refusal
distance_in result values node unit = cond (unit_fits (Form.Long unit)) (distance_told (unit_of (Form.Long unit)) result values node) (Err Refusal.Unit)

-- of a sheet, its counts and its start
abbrev pub counts_told : Result SheetCounts Refusal → ℕ → ℕ → ℕ → ℕ → ℕ × ℕ × ℕ × ℕ × ℕ
counts_told (Ok c) nodes links finals start = (0, c.nodes, c.links, c.finals, c.start)
counts_told (Err r) nodes links finals start = (number_of r, nodes, links, finals, start)

-- of a link and of a node, their fields
abbrev pub link_told : Option Link → List ℕ → List ℕ
link_told (Some k) old = 0 ∷ link_record k
link_told None old = 31 ∷ old

abbrev pub node_told : Option Node → List ℕ → List ℕ
node_told (Some n) old = 0 ∷ node_record n
node_told None old = 31 ∷ old

-- these are told of a number below the count
abbrev pub numbered : ℕ → ℕ → List ℕ → List ℕ → List ℕ
numbered number count fields old = cond (ltb number count) (0 ∷ fields) (31 ∷ old)
