-- Cases of request (h) of document 02: sheets with the trailer of six fields, in 64ths and in 256ths, as a second table; and how long answers are. Definitions only.
use Rattle.std.specs.Prelude.{cond, List, [], ◌∷◌, ◌++◌, ◌≡◌, ℕ, suc, ◌+◌, ltb, length, take, replicate}
use Rattle.std.proofs.Math.Option.{none, some}
use Rattle.tropical_weight.specs.Tropical.{one}
use Rattle.sheet.specs.declared.form.Form.{Form}
use Rattle.sheet.specs.Below.{list_below}
use Rattle.sheet.specs.Words.{words, bytes_of}
use Rattle.sheet.specs.Sheet.{form_of, sheet_of}
use Rattle.sheet.specs.Machine.{Link, Machine, parts_for}
use Rattle.search.specs.Listed.{list_of}
use Rattle.shortest_path.specs.Outcome.{answer_of, list_answer}
use Rattle.bench_values.specs.Table.{Told, refused, list, work_words, told_list, distances_told, list_told, sheet_a, sheet_e, one_link, Case, units, all_a, P1}

-- a sheet with a sixth field in its trailer
abbrev pub with_unit : List ℕ → ℕ → List ℕ
with_unit sheet u = sheet ++ bytes_of u

-- the list for n of a sheet, to a result area of so many bytes
abbrev pub list_told_in : ℕ → List ℕ → ℕ → Told
list_told_in room bytes n = told_list bytes n (list_answer bytes n work_words room)

-- ---- the table
-- in 256ths A's readings cost four times as many units
abbrev pub U1 : Case
U1 = record {
  told = list_told (with_unit sheet_a 256) 3 ∷ [];
  stated = list 12 13 ((1 ∷ 3 ∷ []) ∷ (2 ∷ 4 ∷ []) ∷ (1 ∷ 5 ∷ 4 ∷ []) ∷ []) (units 448 ∷ units 448 ∷ units 576 ∷ []) 11 ∷ [];
}

-- in 64ths they cost what they do with the shorter trailer
abbrev pub U2 : Case
U2 = record { told = list_told (with_unit sheet_a 64) 3 ∷ []; stated = all_a ∷ [] }

-- distances are written as they are, in either unit
abbrev pub U3 : Case
U3 = record { told = distances_told (with_unit sheet_a 64) ∷ distances_told (with_unit sheet_a 256) ∷ []; stated = P1.stated ++ P1.stated }

-- a 24-byte sheet with no nodes and no start: empty at each n up to 64
abbrev pub U4 : Case
U4 = record { told = list_below 65 (list_told_in 24 (with_unit sheet_e 256)); stated = replicate 65 (list 0 0 [] [] 0) }

-- its answer needs as many bytes
abbrev pub U5 : Case
U5 = record { told = list_below 65 (list_told_in 23 (with_unit sheet_e 256)); stated = replicate 65 (refused 21) }

-- 23 bytes of it: 1
abbrev pub U6 : Case
U6 = record { told = list_told (take 23 (with_unit sheet_e 256)) 1 ∷ []; stated = refused 1 ∷ [] }

-- another unit: 14
abbrev pub U7 : Case
U7 = record { told = list_told (with_unit sheet_a 128) 3 ∷ []; stated = refused 14 ∷ [] }

-- a weight of 1/256 passes in 256ths alone
abbrev pub U8 : Case
U8 = record {
  told = list_told (with_unit (one_link 0x3b80_0000 1) 256) 1 ∷ list_told (with_unit (one_link 0x3b80_0000 1) 64) 1 ∷ list_told (one_link 0x3b80_0000 1) 1 ∷ [];
  stated = list 2 1 ((1 ∷ []) ∷ []) (units 1 ∷ []) 0 ∷ refused 4 ∷ refused 4 ∷ [];
}

-- |k| is at most 8,192: weight 32 passes in 256ths, 32.00390625: 4
abbrev pub U9 : Case
U9 = record {
  told = list_told (with_unit (one_link 0x4200_0000 1) 256) 1 ∷ list_told (with_unit (one_link 0x4200_0400 1) 256) 1 ∷ [];
  stated = list 2 1 ((1 ∷ []) ∷ []) (units 8192 ∷ []) 0 ∷ refused 4 ∷ [];
}

abbrev pub unit_table : List Case
unit_table = U1 ∷ U2 ∷ U3 ∷ U4 ∷ U5 ∷ U6 ∷ U7 ∷ U8 ∷ U9 ∷ []

-- ---- the bytes of an answer
-- with a sixth field in the sheet's trailer there is one in the answer's, so that it is 4 bytes longer
pub record Longer : Type 0 where
  pub sheet : length (with_unit sheet_a 64) ≡ 152
  pub answers : list_below 5 (λ n. length (answer_of (with_unit sheet_a 64) n)) ≡ list_below 5 (λ n. length (answer_of sheet_a n) + 4)
  pub trailer : words (answer_of (with_unit sheet_a 256) 3) 352 6 ≡ 0 ∷ 208 ∷ 12 ∷ 13 ∷ 0 ∷ 256 ∷ []

-- ---- a short sheet whose answer for n = 1 is laid out under the longer trailer too
-- 256 links lead from node 0 to node 1, which is the start, and link 256 from there to node 2, which is final; no weight but 0
abbrev pub far_link : ℕ → Link
far_link l = let s = cond (ltb l 256) 0 1 in record { source = s; ilabel = 1; olabel = 1; weight = one; next = suc s }

unfoldable pub far : Machine
unfolding list_below
far = record { links = list_below 257 far_link; finals = none ∷ none ∷ some one ∷ []; start = some 1; form = Form.Short }

abbrev pub far_answer : List ℕ
far_answer = answer_of (sheet_of (parts_for far)) 1

-- The word behind the answer's trailer is 256, as a sixth field may be. By the sheet's form it is read as the number of the reading's one link.
pub record Far : Type 0 where
  pub word-behind : words far_answer 40 6 ≡ 0 ∷ 16 ∷ 2 ∷ 1 ∷ 1 ∷ 256 ∷ []
  pub other-form : form_of far_answer ≡ Form.Long 256
  pub read : (rest : List ℕ) → list_of Form.Short 1 2 1 (far_answer ++ rest) ≡ (256 ∷ []) ∷ []
