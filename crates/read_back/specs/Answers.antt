-- What the calls that read a list back answer, for any bytes. Definitions only.
use Rattle.std.specs.Prelude.{not, cond, Result, List, [], ℕ, eqb, leb, ltb, ℤ, pos, length}
use Rattle.std.proofs.Math.Option.{Option, none, some}
use Rattle.std.proofs.lemmas.List.Edits.{sets}
use Rattle.tropical_weight.specs.Limits.{list_limit}
use Rattle.tropical_weight.specs.Tropical.{Tropical, fin, inf}
use Rattle.sheet.specs.Machine.{Machine, machine}
use Rattle.machine.specs.Readings.{reading_of, reading_cost}
use Rattle.shortest_path.specs.Outcome.{tested_number}
use Rattle.sheet.specs.declared.form.Form.{Form}
use Rattle.sheet.specs.declared.refusal.Refusal.{Refusal}
use Rattle.sheet.specs.Refusals.{answer}
use Rattle.read_back.specs.declared.reading.Told.{Told}
use Rattle.read_back.specs.Way.{count_in, is_list, way_of}
use Rattle.read_back.specs.Follows.{if_reading}

-- ---- how many readings
-- 7, then 30, in a result whose sheet is of this form
unfoldable pub count_number : Form → List ℕ → ℕ → ℕ → ℕ → ℕ
count_number form result n nodes links = cond (ltb list_limit n) 7 (cond (not (is_list form result nodes links n)) 30 0)

-- No sheet tells the form, and the count does not go by it: a result is long enough if it is with the shorter trailer.
abbrev pub count_answer : List ℕ → ℕ → ℕ → ℕ → Result ℕ Refusal
count_answer result n nodes links = answer (count_in result nodes links n) (count_number Form.Short result n nodes links)

-- ---- one of them
-- the units of a cost: a reading's is finite
abbrev pub units_in : Tropical → ℤ
units_in (fin k) = k
units_in inf = pos 0

-- reading k of a list, where its way is a reading of the machine
abbrev pub held_reading : Machine → List ℕ → ℕ → ℕ → ℕ → ℕ → Option (List ℕ)
held_reading m result n nodes links k = if_reading m (way_of m.form result nodes links n k)

-- 30 where it is none, 21 where it has more links than there is room for
abbrev pub room_number : Option (List ℕ) → ℕ → ℕ
room_number none room = 30
room_number (some run) room = cond (ltb room (length run)) 21 0

-- 30, then 31 where there is no reading k, then 30 and 21
abbrev pub held_number : Machine → List ℕ → ℕ → ℕ → ℕ → ℕ → ℕ → ℕ
held_number m result n nodes links k room =
    let last = room_number (held_reading m result n nodes links k) room in
    cond (not (is_list m.form result nodes links n)) 30 (cond (leb (count_in result nodes links n) k) 31 last)

-- 1, 14 and 2 to 7, then those
unfoldable pub reading_number : List ℕ → ℕ → List ℕ → ℕ → ℕ → ℕ → ℕ → ℕ
unfolding tested_number
reading_number sheet n result nodes links k room = tested_number sheet n (held_number (machine sheet) result n nodes links k room)

-- a reading's links are counted, its cost is in units, and it ends at a node
abbrev pub reading_told : Machine → List ℕ → Told
reading_told m run = record { links = length run; cost = units_in (reading_cost m (reading_of m run)); end = (reading_of m run).end }

abbrev pub run_in : Option (List ℕ) → List ℕ
run_in none = []
run_in (some run) = run

-- of one that is there: 30 or 21, else what it is, and the area of the run afterwards
abbrev pub held_told : Machine → Option (List ℕ) → ℕ → Result Told Refusal
held_told m held room = answer (reading_told m (run_in held)) (room_number held room)

abbrev pub held_after : Option (List ℕ) → List ℕ → List ℕ
held_after held run = cond (eqb (room_number held (length run)) 0) (sets run 0 (run_in held)) run

abbrev pub reading_answer : List ℕ → ℕ → List ℕ → ℕ → ℕ → ℕ → ℕ → Result Told Refusal
reading_answer sheet n result nodes links k room =
    answer (reading_told (machine sheet) (run_in (held_reading (machine sheet) result n nodes links k))) (reading_number sheet n result nodes links k room)

-- the area of the run afterwards: the numbers of its links, and then what was there; where it is refused, just that
abbrev pub run_after : List ℕ → ℕ → List ℕ → ℕ → ℕ → ℕ → List ℕ → List ℕ
run_after sheet n result nodes links k run =
    let number = reading_number sheet n result nodes links k (length run) in
    cond (eqb number 0) (sets run 0 (run_in (held_reading (machine sheet) result n nodes links k))) run
