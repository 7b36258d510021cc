-- Mirrors the code: what the reader of a row answers. A reader need not believe it: laws tie it to Rows (proofs/Rowing). Definitions only.
use Rattle.std.specs.Prelude.{ℕ, ◌+◌, ◌≤◌, ◌<◌, ◌≡◌, cond, List, ltb, length, Option, None, Some}
use Rattle.text_rows.specs.Rows.{Row, link, final, row_by}
use Rattle.row_reader.specs.Places.{line_end, row_fields}
use Rattle.row_reader.specs.Reading.{weight_read}
use Rattle.row_reader.specs.declared.row.Row as Code
use Rattle.row_reader.specs.declared.row.Row.TheVariants.{Link, Final}
use Rattle.row_reader.specs.declared.row.Read.{Read}

-- a row as the code has it
abbrev pub row_read : Row → Code.Row
row_read (link s t i o w) = Link (record { source = s; next = t; ilabel = i; olabel = o; weight = weight_read w })
row_read (final v w) = Final v (weight_read w)

-- with the place behind it
abbrev pub read_to : Option Row → ℕ → Option Read
read_to None next = None
read_to (Some r) next = Some (record { row = row_read r; end = next })

-- the row from a place on, which a newline ends
abbrev pub row_at : List ℕ → ℕ → Option Read
row_at text at = cond (ltb (line_end text at) (length text)) (read_to (row_by (row_fields text at)) (line_end text at + 1)) None

-- what the rows of a text give at a place, and the place after it: nothing more, that no row is read there, or a row
abbrev pub Gives : List ℕ → ℕ → Option (Option Code.Row) → ℕ → Type 0
Gives text at None next = (length text ≤ at) × (next ≡ at)
Gives text at (Some None) next = (at < length text) × (row_at text at ≡ None) × (next ≡ length text)
Gives text at (Some (Some r)) next = (at < length text) × (row_at text at ≡ Some (record { row = r; end = next }))
