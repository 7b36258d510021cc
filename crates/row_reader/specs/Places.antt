-- Mirrors the code: rows and fields at places of a text. A reader need not believe it: laws tie it to Rows (proofs/Places). Definitions only.
use Rattle.std.specs.Prelude.{ℕ, ◌+◌, ◌≤◌, ◌≡◌, Bool, true, cond, List, [], ◌∷◌, length, take, drop, Option, None, Some}
use Rattle.text_rows.specs.Fields.{is_blank, fields_of, rows_of, ended}
use Rattle.text_rows.specs.Rows.{Row, all_rows}
use Rattle.row_reader.specs.Runs.{run_of, in_field, not_newline}

-- the row at the front of a text
abbrev pub line_of : List ℕ → List ℕ
line_of l = take (run_of not_newline l) l

-- where the row from a place on ends: at a newline, or the text's end
abbrev pub line_end : List ℕ → ℕ → ℕ
line_end text at = at + run_of not_newline (drop at text)

-- the fields from a place on, up to the row's end
abbrev pub row_fields : List ℕ → ℕ → List (List ℕ)
row_fields text at = fields_of (line_of (drop at text))

abbrev pub field_from : List ℕ → ℕ → ℕ
field_from text at = at + run_of is_blank (drop at text)

abbrev pub field_to : List ℕ → ℕ → ℕ
field_to text from = from + run_of in_field (drop from text)

-- the fields from a place on are one that is given and those from the next place on; where none is left the next place is the row's end
abbrev pub FieldGiven : List ℕ → ℕ → Option (List ℕ) → ℕ → Type 0
FieldGiven text at None next = (row_fields text at ≡ []) × (line_end text at ≡ next)
FieldGiven text at (Some f) next = (row_fields text at ≡ f ∷ row_fields text next) × (line_end text at ≡ line_end text next)

-- the next field from a place on, empty where there is none
pub record Spans (text : List ℕ) (at from to : ℕ) : Type 0 where
  pub begins : from ≡ field_from text at
  pub ends : to ≡ field_to text from
  pub order : from ≤ to
  pub within : to ≤ length text

-- nothing left, or ended by a newline
abbrev pub finished : List ℕ → Bool
finished [] = true
finished (c ∷ cs) = ended (c ∷ cs)

-- the rows from a place on, where a row begins or the text ends; none where one is not read or the last is not ended
abbrev pub rows_left : List ℕ → ℕ → Option (List Row)
rows_left text at = cond (finished (drop at text)) (all_rows (rows_of (drop at text))) None
