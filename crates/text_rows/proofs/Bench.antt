-- Sheet A's rows, rows in any order, barred weights, longer trailers, and refusals, by computation. Assumes nothing.
use mathlib.Core.Path.{◌≡◌, refl}
use mathlib.Core.List.{List, [], ◌∷◌, ◌++◌, map}
use Prim.Native.Nat.{ℕ}
use lib.ListN.{replicate}
use lib.Ieee.{round, to_bits}
use Rattle.tropical_weight.specs.Grid.{of_k}
use Rattle.sheet.specs.Sheet.{Parts, parts_of}
use Rattle.text_rows.specs.Convert.{parts_of_rows, or_no_rows, rows_number, sheet_of_rows}
use Rattle.text_rows.specs.Rows.{read_rows}
use Rattle.text_rows.specs.Filling.{filled}
use Rattle.text_rows.specs.Written.{text_of, text_number}

-- Sheet A, 148 bytes, and its rows
unfoldable sheet_a : List ℕ
sheet_a = 1 ∷ 0 ∷ 0 ∷ 0 ∷ 1 ∷ 0 ∷ 0 ∷ 0 ∷ 0 ∷ 0 ∷ 128 ∷ 63 ∷ 1 ∷ 0 ∷ 0 ∷ 0 ∷ 2 ∷ 0 ∷ 0 ∷ 0 ∷ 2 ∷ 0 ∷ 0 ∷ 0 ∷ 0 ∷ 0 ∷ 0 ∷ 63 ∷ 2 ∷ 0 ∷ 0 ∷ 0 ∷ 3 ∷ 0 ∷ 0 ∷ 0 ∷ 3 ∷ 0 ∷ 0 ∷ 0 ∷ 0 ∷ 0 ∷ 128 ∷ 62 ∷ 3 ∷ 0 ∷ 0 ∷ 0 ∷ 5 ∷ 0 ∷ 0 ∷ 0 ∷ 5 ∷ 0 ∷ 0 ∷ 0 ∷ 0 ∷ 0 ∷ 0 ∷ 0 ∷ 2 ∷ 0 ∷ 0 ∷ 0 ∷ 4 ∷ 0 ∷ 0 ∷ 0 ∷ 4 ∷ 0 ∷ 0 ∷ 0 ∷ 0 ∷ 0 ∷ 64 ∷ 63 ∷ 3 ∷ 0 ∷ 0 ∷ 0 ∷ 2 ∷ 0 ∷ 0 ∷ 0 ∷ 0 ∷ 0 ∷ 0 ∷ 0 ∷ 0 ∷ 0 ∷ 0 ∷ 0 ∷ 2 ∷ 0 ∷ 0 ∷ 0 ∷ 0 ∷ 0 ∷ 0 ∷ 0 ∷ 0 ∷ 0 ∷ 0 ∷ 0 ∷ 1 ∷ 0 ∷ 0 ∷ 0 ∷ 0 ∷ 0 ∷ 0 ∷ 0 ∷ 0 ∷ 0 ∷ 0 ∷ 0 ∷ 0 ∷ 0 ∷ 0 ∷ 0 ∷ 1 ∷ 0 ∷ 0 ∷ 0 ∷ 0 ∷ 0 ∷ 0 ∷ 63 ∷ 0 ∷ 0 ∷ 0 ∷ 0 ∷ 80 ∷ 0 ∷ 0 ∷ 0 ∷ 4 ∷ 0 ∷ 0 ∷ 0 ∷ 5 ∷ 0 ∷ 0 ∷ 0 ∷ 0 ∷ 0 ∷ 0 ∷ 0 ∷ []

unfoldable rows_a : List ℕ
rows_a = 48 ∷ 9 ∷ 49 ∷ 9 ∷ 49 ∷ 9 ∷ 49 ∷ 9 ∷ 49 ∷ 10 ∷ 48 ∷ 9 ∷ 50 ∷ 9 ∷ 50 ∷ 9 ∷ 50 ∷ 9 ∷ 48 ∷ 46 ∷ 53 ∷ 10 ∷ 49 ∷ 9 ∷ 51 ∷ 9 ∷ 51 ∷ 9 ∷ 51 ∷ 9 ∷ 48 ∷ 46 ∷ 50 ∷ 53 ∷ 10 ∷ 49 ∷ 9 ∷ 50 ∷ 9 ∷ 53 ∷ 9 ∷ 53 ∷ 10 ∷ 50 ∷ 9 ∷ 51 ∷ 9 ∷ 52 ∷ 9 ∷ 52 ∷ 9 ∷ 48 ∷ 46 ∷ 55 ∷ 53 ∷ 10 ∷ 51 ∷ 9 ∷ 48 ∷ 46 ∷ 53 ∷ 10 ∷ []

unfoldable sheet_b : List ℕ
sheet_b = 1 ∷ 0 ∷ 0 ∷ 0 ∷ 1 ∷ 0 ∷ 0 ∷ 0 ∷ 0 ∷ 0 ∷ 0 ∷ 0 ∷ 3 ∷ 0 ∷ 0 ∷ 0 ∷ 7 ∷ 0 ∷ 0 ∷ 0 ∷ 7 ∷ 0 ∷ 0 ∷ 0 ∷ 0 ∷ 0 ∷ 192 ∷ 191 ∷ 0 ∷ 0 ∷ 0 ∷ 0 ∷ 0 ∷ 0 ∷ 0 ∷ 0 ∷ 1 ∷ 0 ∷ 0 ∷ 0 ∷ 0 ∷ 0 ∷ 0 ∷ 0 ∷ 1 ∷ 0 ∷ 0 ∷ 0 ∷ 0 ∷ 0 ∷ 0 ∷ 0 ∷ 0 ∷ 0 ∷ 0 ∷ 0 ∷ 1 ∷ 0 ∷ 0 ∷ 0 ∷ 1 ∷ 0 ∷ 0 ∷ 0 ∷ 0 ∷ 0 ∷ 128 ∷ 63 ∷ 0 ∷ 0 ∷ 0 ∷ 0 ∷ 0 ∷ 0 ∷ 0 ∷ 0 ∷ 0 ∷ 0 ∷ 0 ∷ 0 ∷ 0 ∷ 0 ∷ 0 ∷ 0 ∷ 32 ∷ 0 ∷ 0 ∷ 0 ∷ 4 ∷ 0 ∷ 0 ∷ 0 ∷ 2 ∷ 0 ∷ 0 ∷ 0 ∷ 2 ∷ 0 ∷ 0 ∷ 0 ∷ []

-- ' 2  0\t7 7 -1.5\n0\n2 1.000000 \n01 3 1 1 -0\n'
unfoldable rows_b : List ℕ
rows_b = 32 ∷ 50 ∷ 32 ∷ 32 ∷ 48 ∷ 9 ∷ 55 ∷ 32 ∷ 55 ∷ 32 ∷ 45 ∷ 49 ∷ 46 ∷ 53 ∷ 10 ∷ 48 ∷ 10 ∷ 50 ∷ 32 ∷ 49 ∷ 46 ∷ 48 ∷ 48 ∷ 48 ∷ 48 ∷ 48 ∷ 48 ∷ 32 ∷ 10 ∷ 48 ∷ 49 ∷ 32 ∷ 51 ∷ 32 ∷ 49 ∷ 32 ∷ 49 ∷ 32 ∷ 45 ∷ 48 ∷ 10 ∷ []

unfoldable written_b : List ℕ
written_b = 50 ∷ 9 ∷ 48 ∷ 9 ∷ 55 ∷ 9 ∷ 55 ∷ 9 ∷ 45 ∷ 49 ∷ 46 ∷ 53 ∷ 10 ∷ 50 ∷ 9 ∷ 49 ∷ 10 ∷ 48 ∷ 10 ∷ 49 ∷ 9 ∷ 51 ∷ 9 ∷ 49 ∷ 9 ∷ 49 ∷ 10 ∷ []

converted-A : (rows_number rows_a 148 ≡ 0) × (rows_number rows_a 147 ≡ 21) × (sheet_of_rows rows_a ≡ sheet_a)
unfolding rows_a sheet_a rows_number sheet_of_rows of_k round to_bits
converted-A = (refl, refl, refl)

written-A : (text_number sheet_a 62 ≡ 0) × (text_number sheet_a 61 ≡ 21) × (text_of (parts_of sheet_a) ≡ rows_a)
unfolding rows_a sheet_a text_number text_of parts_of
written-A = (refl, refl, refl)

converted-B : (rows_number rows_b 100 ≡ 0) × (sheet_of_rows rows_b ≡ sheet_b) × (sheet_of_rows written_b ≡ sheet_b)
unfolding rows_b sheet_b written_b rows_number sheet_of_rows of_k round to_bits
converted-B = (refl, refl, refl)

written-B : (text_number sheet_b 27 ≡ 0) × (text_of (parts_of sheet_b) ≡ written_b)
unfolding sheet_b written_b text_number text_of parts_of
written-B = (refl, refl)

-- a barred link to a node of barred weight: '0\t1\t1\t1\tInfinity\n1\tInfinity\n'
unfoldable sheet_c : List ℕ
sheet_c = 1 ∷ 0 ∷ 0 ∷ 0 ∷ 1 ∷ 0 ∷ 0 ∷ 0 ∷ 0 ∷ 0 ∷ 128 ∷ 127 ∷ 1 ∷ 0 ∷ 0 ∷ 0 ∷ 1 ∷ 0 ∷ 0 ∷ 0 ∷ 0 ∷ 0 ∷ 0 ∷ 0 ∷ 0 ∷ 0 ∷ 0 ∷ 0 ∷ 0 ∷ 0 ∷ 0 ∷ 0 ∷ 1 ∷ 0 ∷ 0 ∷ 0 ∷ 0 ∷ 0 ∷ 128 ∷ 127 ∷ 0 ∷ 0 ∷ 0 ∷ 0 ∷ 16 ∷ 0 ∷ 0 ∷ 0 ∷ 2 ∷ 0 ∷ 0 ∷ 0 ∷ 1 ∷ 0 ∷ 0 ∷ 0 ∷ 0 ∷ 0 ∷ 0 ∷ 0 ∷ []

unfoldable rows_c : List ℕ
rows_c = 48 ∷ 9 ∷ 49 ∷ 9 ∷ 49 ∷ 9 ∷ 49 ∷ 9 ∷ 73 ∷ 110 ∷ 102 ∷ 105 ∷ 110 ∷ 105 ∷ 116 ∷ 121 ∷ 10 ∷ 49 ∷ 9 ∷ 73 ∷ 110 ∷ 102 ∷ 105 ∷ 110 ∷ 105 ∷ 116 ∷ 121 ∷ 10 ∷ []

converted-C : (rows_number rows_c 60 ≡ 0) × (rows_number rows_c 59 ≡ 21) × (sheet_of_rows rows_c ≡ sheet_c)
unfolding rows_c sheet_c rows_number sheet_of_rows of_k round to_bits
converted-C = (refl, refl, refl)

written-C : (text_number sheet_c 28 ≡ 0) × (text_number sheet_c 27 ≡ 21) × (text_of (parts_of sheet_c) ≡ rows_c)
unfolding rows_c sheet_c text_number text_of parts_of
written-C = (refl, refl, refl)

-- two nodes, with nothing of the start's own and a final weight's field for the other
unfoldable bare_start : ℕ → List ℕ
bare_start low = 0 ∷ 0 ∷ 0 ∷ 0 ∷ 0 ∷ 0 ∷ 0 ∷ 0 ∷ 0 ∷ 0 ∷ 0 ∷ 0 ∷ 0 ∷ 0 ∷ 0 ∷ 0 ∷ 1 ∷ 0 ∷ 0 ∷ 0 ∷ low ∷ 0 ∷ 0 ∷ 0 ∷ 0 ∷ 0 ∷ 0 ∷ 0 ∷ 0 ∷ 0 ∷ 0 ∷ 0 ∷ 2 ∷ 0 ∷ 0 ∷ 0 ∷ 0 ∷ 0 ∷ 0 ∷ 0 ∷ 0 ∷ 0 ∷ 0 ∷ 0 ∷ []

-- a sheet without rows: 9; a weight off the grid besides: 4
written_bare : (text_number (bare_start 0) 100 ≡ 9) × (text_number (bare_start 1) 100 ≡ 4)
unfolding bare_start text_number text_of parts_of
written_bare = (refl, refl)

-- with the longer trailer, of unit 256 or 64: 9; of unit 128: 14; a weight off the grid besides: 4
abbrev longer : List ℕ → ℕ → ℕ → List ℕ
longer bytes low high = bytes ++ (low ∷ high ∷ 0 ∷ 0 ∷ [])

written_longer : (text_number (longer sheet_a 0 1) 100 ≡ 9) × (text_number (longer sheet_a 64 0) 100 ≡ 9) × (text_number (longer sheet_a 128 0) 100 ≡ 14) × (text_number (longer (bare_start 1) 0 1) 100 ≡ 4)
unfolding sheet_a bare_start text_number text_of parts_of
written_longer = (refl, refl, refl, refl)

-- '': 8; '0\n1': 8; '0\n\n': 8; '0 1 2\n': 8; '0\n1\n0 0\n': 8; '0 +1\n': 8; '0 1.\n': 8; '0.5\n': 8; '0 0.0000000\n': 8; '0\r\n': 8; '4294967296\n': 8; '4294967295 9\n': 1; '0 128.000001\n': 4; '0 99999999999999999999\n': 4; '0 129\n1 x\n': 8; '4294967294\n': 21
-- no other spelling of infinity: '0 infinity\n': 8; '0 inf\n': 8; '0 INFINITY\n': 8; '0 -Infinity\n': 8; '0 Infinit\n': 8; '0 Infinity1\n': 8; '0 Infinity\n1 x\n': 8
refused : map (λ (text : List ℕ). rows_number text 1000) (
    ([])
    ∷ (48 ∷ 10 ∷ 49 ∷ [])
    ∷ (48 ∷ 10 ∷ 10 ∷ [])
    ∷ (48 ∷ 32 ∷ 49 ∷ 32 ∷ 50 ∷ 10 ∷ [])
    ∷ (48 ∷ 10 ∷ 49 ∷ 10 ∷ 48 ∷ 32 ∷ 48 ∷ 10 ∷ [])
    ∷ (48 ∷ 32 ∷ 43 ∷ 49 ∷ 10 ∷ [])
    ∷ (48 ∷ 32 ∷ 49 ∷ 46 ∷ 10 ∷ [])
    ∷ (48 ∷ 32 ∷ 46 ∷ 53 ∷ 10 ∷ [])
    ∷ (48 ∷ 32 ∷ 48 ∷ 46 ∷ 48 ∷ 48 ∷ 48 ∷ 48 ∷ 48 ∷ 48 ∷ 48 ∷ 10 ∷ [])
    ∷ (48 ∷ 13 ∷ 10 ∷ [])
    ∷ (52 ∷ 50 ∷ 57 ∷ 52 ∷ 57 ∷ 54 ∷ 55 ∷ 50 ∷ 57 ∷ 54 ∷ 10 ∷ [])
    ∷ (52 ∷ 50 ∷ 57 ∷ 52 ∷ 57 ∷ 54 ∷ 55 ∷ 50 ∷ 57 ∷ 53 ∷ 32 ∷ 57 ∷ 10 ∷ [])
    ∷ (48 ∷ 32 ∷ 49 ∷ 50 ∷ 56 ∷ 46 ∷ 48 ∷ 48 ∷ 48 ∷ 48 ∷ 48 ∷ 49 ∷ 10 ∷ [])
    ∷ (48 ∷ 32 ∷ 57 ∷ 57 ∷ 57 ∷ 57 ∷ 57 ∷ 57 ∷ 57 ∷ 57 ∷ 57 ∷ 57 ∷ 57 ∷ 57 ∷ 57 ∷ 57 ∷ 57 ∷ 57 ∷ 57 ∷ 57 ∷ 57 ∷ 57 ∷ 10 ∷ [])
    ∷ (48 ∷ 32 ∷ 49 ∷ 50 ∷ 57 ∷ 10 ∷ 49 ∷ 32 ∷ 120 ∷ 10 ∷ [])
    ∷ (52 ∷ 50 ∷ 57 ∷ 52 ∷ 57 ∷ 54 ∷ 55 ∷ 50 ∷ 57 ∷ 52 ∷ 10 ∷ [])
    ∷ (48 ∷ 32 ∷ 105 ∷ 110 ∷ 102 ∷ 105 ∷ 110 ∷ 105 ∷ 116 ∷ 121 ∷ 10 ∷ [])
    ∷ (48 ∷ 32 ∷ 105 ∷ 110 ∷ 102 ∷ 10 ∷ [])
    ∷ (48 ∷ 32 ∷ 73 ∷ 78 ∷ 70 ∷ 73 ∷ 78 ∷ 73 ∷ 84 ∷ 89 ∷ 10 ∷ [])
    ∷ (48 ∷ 32 ∷ 45 ∷ 73 ∷ 110 ∷ 102 ∷ 105 ∷ 110 ∷ 105 ∷ 116 ∷ 121 ∷ 10 ∷ [])
    ∷ (48 ∷ 32 ∷ 73 ∷ 110 ∷ 102 ∷ 105 ∷ 110 ∷ 105 ∷ 116 ∷ 10 ∷ [])
    ∷ (48 ∷ 32 ∷ 73 ∷ 110 ∷ 102 ∷ 105 ∷ 110 ∷ 105 ∷ 116 ∷ 121 ∷ 49 ∷ 10 ∷ [])
    ∷ (48 ∷ 32 ∷ 73 ∷ 110 ∷ 102 ∷ 105 ∷ 110 ∷ 105 ∷ 116 ∷ 121 ∷ 10 ∷ 49 ∷ 32 ∷ 120 ∷ 10 ∷ [])
    ∷ [])
    ≡ 8 ∷ 8 ∷ 8 ∷ 8 ∷ 8 ∷ 8 ∷ 8 ∷ 8 ∷ 8 ∷ 8 ∷ 8 ∷ 1 ∷ 4 ∷ 4 ∷ 8 ∷ 21 ∷ 8 ∷ 8 ∷ 8 ∷ 8 ∷ 8 ∷ 8 ∷ 8 ∷ []
unfolding rows_number
refused = refl

-- ---- the passes fill in what the sheet has, whatever the links' words held
parts-words : Parts → List ℕ
parts-words p = p.links ++ p.nodes

filled-A : filled (replicate 20 7 ++ replicate 12 0) (or_no_rows (read_rows rows_a)) ≡ parts-words (parts_of_rows (or_no_rows (read_rows rows_a)))
unfolding rows_a read_rows filled parts_of_rows parts-words of_k round to_bits
filled-A = refl

filled-B : filled (replicate 8 7 ++ replicate 12 0) (or_no_rows (read_rows rows_b)) ≡ parts-words (parts_of_rows (or_no_rows (read_rows rows_b)))
unfolding rows_b read_rows filled parts_of_rows parts-words of_k round to_bits
filled-B = refl
