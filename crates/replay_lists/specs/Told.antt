-- What a stored case tells of an answer: a number, counts, and how many bytes. Definitions only.
use Rattle.std.specs.Prelude.{◌≡◌, ℕ, ◌+◌, ◌*◌, List, Result, Ok, Err}
use Rattle.sheet.specs.declared.form.Form.{Form}
use Rattle.sheet.specs.declared.refusal.Refusal.{Refusal}
use Rattle.sheet.specs.Words.{word_length}
use Rattle.sheet.specs.Sheet.{link_length, node_length, trailer_length}
use Rattle.sheet.specs.Refusals.{number_of}
use Rattle.list_answer.specs.declared.Listed.{Listed}
use Rattle.stored_cases.specs.Digits.{number_on}
use Rattle.stored_cases.specs.Fields.{field_of}

abbrev pub field_number : List ℕ → ℕ → ℕ
field_number line spaces = number_on 0 (field_of line spaces)

-- 0 with the three counts, and the bytes of a list of so many nodes and links with the trailer of the sheet's form; or the refusal's number, and none
abbrev pub Told : Result Listed Refusal → List ℕ → Form → ℕ → Type 0
Told (Ok list) line form bytes =
    (field_number line 0 ≡ 0) × (field_number line 5 ≡ list.nodes) × (field_number line 6 ≡ list.links) × (field_number line 7 ≡ list.taken)
    × (bytes ≡ (link_length + word_length) * list.links + node_length * list.nodes + trailer_length form)
Told (Err refusal) line form bytes = (field_number line 0 ≡ number_of refusal) × (bytes ≡ 0)
