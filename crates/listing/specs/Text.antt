-- The text that the listing program prints. A text is a list of bytes. Definitions only.
use Rattle.std.specs.Prelude.{ℕ, suc, ◌*◌, ℤ, pos, negsuc}
use mathlib.Core.List.{List, [], ◌∷◌, ◌++◌, map, flat_map}
use Rattle.decimals.specs.Decimal.{decimal}
use Rattle.sheet.specs.Words.{word}
use Rattle.sheet.specs.Sheet.{link_length}

-- ---- words
-- "readings "
abbrev pub readings_word : List ℕ
readings_word = 114 ∷ 101 ∷ 97 ∷ 100 ∷ 105 ∷ 110 ∷ 103 ∷ 115 ∷ 32 ∷ []

-- " taken "
abbrev pub taken_word : List ℕ
taken_word = 32 ∷ 116 ∷ 97 ∷ 107 ∷ 101 ∷ 110 ∷ 32 ∷ []

-- "refused "
abbrev pub refused_word : List ℕ
refused_word = 114 ∷ 101 ∷ 102 ∷ 117 ∷ 115 ∷ 101 ∷ 100 ∷ 32 ∷ []

-- "-"
abbrev pub minus : List ℕ
minus = 45 ∷ []

-- " "
abbrev pub space : List ℕ
space = 32 ∷ []

-- "\n"
abbrev pub newline : List ℕ
newline = 10 ∷ []

-- ---- numbers
-- a minus sign where negative, then the digits of the magnitude
unfoldable pub signed : ℤ → List ℕ
unfolding decimal
signed (pos n) = decimal n
signed (negsuc n) = minus ++ decimal (suc n)

-- ---- lines
unfoldable pub first_line : ℕ → ℕ → List ℕ
unfolding decimal
first_line readings taken = readings_word ++ decimal readings ++ taken_word ++ decimal taken ++ newline

unfoldable pub refused_line : ℕ → List ℕ
unfolding decimal
refused_line k = refused_word ++ decimal k ++ newline

unfoldable pub label_text : ℕ → List ℕ
unfolding decimal
label_text label = space ++ decimal label

-- a reading: its rank, its cost, and the labels of its links
unfoldable pub line_of : ℕ → ℤ → List ℕ → List ℕ
unfolding decimal signed flat_map label_text
line_of rank cost labels = decimal rank ++ space ++ signed cost ++ flat_map label_text labels ++ newline

-- the input labels of links of a sheet, by their numbers
abbrev pub labels_of : List ℕ → List ℕ → List ℕ
labels_of sheet run = map (λ (l : ℕ). word sheet (link_length * l)) run
