-- What the listing program prints for the bytes that it reads. Definitions only.
use Rattle.std.specs.Prelude.{cond, ℕ, suc, ◌+◌, ◌*◌, ltb, eqb, length}
use mathlib.Core.List.{List, [], ◌∷◌, ◌++◌, map}
use Rattle.sheet.specs.Machine.{Machine, machine}
use Rattle.machine.specs.Readings.{link, reading_of, reading_cost}
use Rattle.search.specs.ListMachine.{result_for, result_bytes}
use Rattle.search.specs.Listed.{list_of}
use Rattle.shortest_path.specs.Outcome.{tested_number}
use Rattle.read_back.specs.Answers.{units_in}
use Rattle.listing.specs.Text.{first_line, refused_line, line_of}

-- the most bytes of a sheet, and the largest n, that the program lists
abbrev pub sheet_most : ℕ
sheet_most = 4096

abbrev pub list_most : ℕ
list_most = 4

-- at the most, the nodes of such a sheet, and so the links of a reading; and the bytes of a line
abbrev pub run_most : ℕ
run_most = 340

abbrev pub line_most : ℕ
line_most = 23 + 11 * run_most

-- bytes that every text fits in
abbrev pub text_most : ℕ
text_most = 49152

-- The number of the refusal, or 0: more than 4,096 sheet bytes before any other test; then 1, 14 and 2 to 7; then n from 5 to 64.
unfoldable pub listing_number : ℕ → List ℕ → ℕ
unfolding tested_number
listing_number n sheet = cond (ltb sheet_most (length sheet)) 20 (tested_number sheet n (cond (ltb list_most n) 20 0))

module _ (m : Machine) where
  -- the list for n, read from the result alone
  abbrev pub list_for : ℕ → List (List ℕ)
  list_for n = let r = result_for m n in list_of m.form n (length r.machine.finals) (length r.machine.links) (result_bytes r)

  -- rank, cost in the sheet's own unit, input labels of the sheet's own links
  abbrev pub reading_line : ℕ → List ℕ → List ℕ
  reading_line rank run = line_of rank (units_in (reading_cost m (reading_of m run))) (map (λ (l : ℕ). (link m l).ilabel) run)

  -- a line a reading, with ranks from this one on
  unfoldable pub reading_lines : ℕ → List (List ℕ) → List ℕ
  unfolding line_of
  reading_lines rank [] = []
  reading_lines rank (run ∷ runs) = reading_line rank run ++ reading_lines (suc rank) runs

  -- first how many readings are listed, and how many entries were taken
  abbrev pub listing_text : ℕ → List ℕ
  listing_text n = first_line (length (list_for n)) (result_for m n).taken ++ reading_lines 1 (list_for n)

-- the list's text for n and a sheet where it is listed, else none
abbrev pub listed_text : ℕ → List ℕ → List ℕ
listed_text n sheet = cond (eqb (listing_number n sheet) 0) (listing_text (machine sheet) n) []

-- for n and a sheet
abbrev pub printed_for : ℕ → List ℕ → List ℕ
printed_for n sheet = cond (eqb (listing_number n sheet) 0) (listing_text (machine sheet) n) (refused_line (listing_number n sheet))

-- for all that is read: one byte n, then a sheet
abbrev pub printed : List ℕ → List ℕ
printed [] = refused_line 1
printed (n ∷ sheet) = printed_for n sheet

-- the number of the refusal of all that is read, or 0, and the list's text where it is listed
abbrev pub printing_number : List ℕ → ℕ
printing_number [] = 1
printing_number (n ∷ sheet) = listing_number n sheet

abbrev pub printing_text : List ℕ → List ℕ
printing_text [] = []
printing_text (n ∷ sheet) = listed_text n sheet
