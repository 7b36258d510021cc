-- What the calls answer, by the numbers and values of documents 01 and 02, and what that means to the user. Definitions only.
use Rattle.std.specs.Prelude.{◌≡◌, ℕ, ◌≤◌, true, List, length, take, Result}
use Rattle.sheet.specs.declared.refusal.Refusal.{Refusal}
use Rattle.sheet.specs.Refusals.{answer}
use Rattle.sheet.specs.Sheet.{parts_of, read_number}
use Rattle.sheet.specs.Machine.{machine}
use Rattle.text_rows.specs.Convert.{rows_in, length_of, rows_number, sheet_of_rows}
use Rattle.text_rows.specs.RowMachine.{machine_of_rows}
use Rattle.text_rows.specs.Written.{has_rows, text_of, text_number}

-- ---- rows to sheet
-- in an area of so many bytes: how many are written, or the refusal of the number
abbrev pub sheet_answer : List ℕ → ℕ → Result ℕ Refusal
sheet_answer text room = answer (length_of (rows_in text)) (rows_number text room)

-- in an area of just the sheet's length, so that it is never too short
abbrev pub sheet_measured : List ℕ → Result ℕ Refusal
sheet_measured text = sheet_answer text (length_of (rows_in text))

-- The first `size` bytes of the area are an accepted sheet, it has rows and so the shorter trailer, and its machine is the one that the text's rows say.
pub record Made (text : List ℕ) (size : ℕ) (area : List ℕ) : Type 0 where
  pub accepted : read_number (take size area) ≡ 0
  pub same : machine (take size area) ≡ machine_of_rows (rows_in text)
  pub written : has_rows (parts_of (take size area)) ≡ true

-- ---- sheet to rows
abbrev pub text_answer : List ℕ → ℕ → Result ℕ Refusal
text_answer bytes room = answer (length (text_of (parts_of bytes))) (text_number bytes room)

-- in an area of just the text's length
abbrev pub text_measured : List ℕ → Result ℕ Refusal
text_measured bytes = text_answer bytes (length (text_of (parts_of bytes)))

-- The first `size` bytes of the area are rows that convert to this very sheet, wherever there is room for it.
pub record Returned (bytes : List ℕ) (size : ℕ) (area : List ℕ) : Type 0 where
  pub accepted : (room : ℕ) → length bytes ≤ room → rows_number (take size area) room ≡ 0
  pub same : sheet_of_rows (take size area) ≡ bytes

-- No text converts to these bytes.
abbrev pub NoText : List ℕ → Type 0
NoText bytes = (text : List ℕ) → rows_number text (length bytes) ≡ 0 → sheet_of_rows text ≡ bytes → ⊥
