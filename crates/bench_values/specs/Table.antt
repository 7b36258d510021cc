-- Cases P1 to P9 of document 01, P1 as request (b) and P7 as request (d) of document 02 has it: one table of what the calls tell and what the documents state. Definitions only.
use Rattle.std.specs.Prelude.{List, [], ◌∷◌, map, ℕ, ◌*◌, pos, length, take, replicate, Result, Ok, Err}
use Rattle.tropical_weight.specs.Tropical.{Tropical, fin}
use Rattle.sheet.specs.Below.{list_below}
use Rattle.sheet.specs.Words.{words, bytes_of_all}
use Rattle.sheet.specs.Machine.{machine}
use Rattle.machine.specs.Readings.{link, reading_of, reading_cost}
use Rattle.sheet.specs.declared.refusal.Refusal.{Refusal}
use Rattle.sheet.specs.Refusals.{number_of}
use Rattle.shortest_distance.specs.Outcome as Distance
use Rattle.shortest_distance.specs.Outcome.{distance_answer}
use Rattle.search.specs.Listed.{list_of}
use Rattle.list_answer.specs.declared.Listed.{Listed}
use Rattle.shortest_path.specs.Outcome.{list_answer, result_after}

-- What a call tells: the number of the refusal, or the words of the distances, or the list: the counts of its machine's nodes and links, the input labels of its readings, their costs, and the entries taken.
pub data Told : Type 0 where
  refused : ℕ → Told
  distances : List ℕ → Told
  list : ℕ → ℕ → List (List ℕ) → List Tropical → ℕ → Told

-- areas that are long enough for these cases
abbrev pub work_words : ℕ
work_words = 4096

abbrev pub result_area : List ℕ
result_area = replicate 512 0

abbrev pub told_distances : List ℕ → Result ℕ Refusal → Told
told_distances bytes (Err r) = refused (number_of r)
told_distances bytes (Ok n) = distances (words (Distance.result_after bytes work_words result_area) 0 (2 * n))

-- the distances of a sheet, two words each
abbrev pub distances_told : List ℕ → Told
distances_told bytes = told_distances bytes (distance_answer bytes work_words (length result_area))

abbrev pub told_list : List ℕ → ℕ → Result Listed Refusal → Told
told_list bytes n (Err r) = refused (number_of r)
told_list bytes n (Ok l) =
    let m = machine bytes in
    let runs = list_of m.form n l.nodes l.links (result_after bytes n work_words result_area) in
    list l.nodes l.links (map (map (λ (l : ℕ). (link m l).ilabel)) runs) (map (λ (run : List ℕ). reading_cost m (reading_of m run)) runs) l.taken

-- the list for n of a sheet
abbrev pub list_told : List ℕ → ℕ → Told
list_told bytes n = told_list bytes n (list_answer bytes n work_words (length result_area))

-- ---- the sheets
-- Start 0, labels equal on both sides. Node 0: label 1, weight 1, to 1; label 2, 0.5, to 2. Node 1: label 3, 0.25, to 3; label 5, 0, to 2. Node 2: label 4,
-- 0.75, to 3. Node 3: final 0.5.
unfoldable pub sheet_a : List ℕ
unfolding bytes_of_all
sheet_a = bytes_of_all (
    1 ∷ 1 ∷ 0x3f80_0000 ∷ 1 ∷
    2 ∷ 2 ∷ 0x3f00_0000 ∷ 2 ∷
    3 ∷ 3 ∷ 0x3e80_0000 ∷ 3 ∷
    5 ∷ 5 ∷ 0 ∷ 2 ∷
    4 ∷ 4 ∷ 0x3f40_0000 ∷ 3 ∷
    2 ∷ 0 ∷ 0 ∷
    2 ∷ 0 ∷ 0 ∷
    1 ∷ 0 ∷ 0 ∷
    0 ∷ 1 ∷ 0x3f00_0000 ∷
    0 ∷ 80 ∷ 4 ∷ 5 ∷ 0 ∷ [])

-- no nodes and no start
unfoldable pub sheet_e : List ℕ
unfolding bytes_of_all
sheet_e = bytes_of_all (0 ∷ 0 ∷ 0 ∷ 0 ∷ 0xffff_ffff ∷ [])

-- two nodes, the second final with weight 0, and one link out of the first, of these weight bits, to a node
unfoldable pub one_link : ℕ → ℕ → List ℕ
unfolding bytes_of_all
one_link bits next = bytes_of_all (
    1 ∷ 1 ∷ bits ∷ next ∷
    1 ∷ 0 ∷ 0 ∷
    0 ∷ 1 ∷ 0 ∷
    0 ∷ 16 ∷ 2 ∷ 1 ∷ 0 ∷ [])

-- ---- the table
-- A case: what the definitions give, and what is stated.
pub record Case : Type 0 where
  pub told : List Told
  pub stated : List Told

abbrev pub units : ℕ → Tropical
units k = fin (pos k)

-- the readings of A by their labels
abbrev pub all_a : Told
all_a = list 12 13 ((1 ∷ 3 ∷ []) ∷ (2 ∷ 4 ∷ []) ∷ (1 ∷ 5 ∷ 4 ∷ []) ∷ []) (units 112 ∷ units 112 ∷ units 144 ∷ []) 11

-- distances 0, 1, 0.5, 1.25: each reached, 1 and the weight bits
abbrev pub P1 : Case
P1 = record { told = distances_told sheet_a ∷ []; stated = distances (1 ∷ 0 ∷ 1 ∷ 0x3f80_0000 ∷ 1 ∷ 0x3f00_0000 ∷ 1 ∷ 0x3fa0_0000 ∷ []) ∷ [] }

-- best: labels 1, 3
abbrev pub P2 : Case
P2 = record { told = list_told sheet_a 1 ∷ []; stated = list 3 2 ((1 ∷ 3 ∷ []) ∷ []) (units 112 ∷ []) 0 ∷ [] }

-- n = 3: costs 112, 112, 144 sixty-fourths, the third by 1, 5, 4, taken 11
abbrev pub P3 : Case
P3 = record { told = list_told sheet_a 3 ∷ []; stated = all_a ∷ [] }

-- n = 4: three readings, taken 11
abbrev pub P4 : Case
P4 = record { told = list_told sheet_a 4 ∷ []; stated = all_a ∷ [] }

-- a 20-byte sheet with no nodes and no start: empty at each n up to 64
abbrev pub P5 : Case
P5 = record { told = list_below 65 (list_told sheet_e); stated = replicate 65 (list 0 0 [] [] 0) }

-- 19 bytes: 1
abbrev pub P6 : Case
P6 = record { told = list_told (take 19 sheet_e) 1 ∷ list_told (take 19 sheet_a) 2 ∷ []; stated = refused 1 ∷ refused 1 ∷ [] }

-- weight 128 passes, 128.015625: 4
abbrev pub P7 : Case
P7 = record { told = list_told (one_link 0x4300_0000 1) 1 ∷ list_told (one_link 0x4300_0400 1) 1 ∷ []; stated = list 2 1 ((1 ∷ []) ∷ []) (units 8192 ∷ []) 0 ∷ refused 4 ∷ [] }

-- a link to its own node: 6
abbrev pub P8 : Case
P8 = record { told = list_told (one_link 0 0) 1 ∷ []; stated = refused 6 ∷ [] }

-- on A n = 64 passes, 65: 7
abbrev pub P9 : Case
P9 = record { told = list_told sheet_a 64 ∷ list_told sheet_a 65 ∷ []; stated = all_a ∷ refused 7 ∷ [] }

abbrev pub table : List Case
table = P1 ∷ P2 ∷ P3 ∷ P4 ∷ P5 ∷ P6 ∷ P7 ∷ P8 ∷ P9 ∷ []
