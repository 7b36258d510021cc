-- A byte string read under one trailer, whatever it is under the other. Definitions only.
use Rattle.std.specs.Prelude.{ℕ, List}
use Rattle.sheet.specs.declared.form.Form.{Form}
use Rattle.sheet.specs.Words.{word, words}
use Rattle.sheet.specs.Sheet.{long_trailer, trailer_length, field_back, laid_out, parts_under, verdict}

-- the form of its longer trailer: the sixth field as it stands
abbrev pub long_form : List ℕ → Form
long_form bytes = Form.Long (field_back long_trailer bytes 5)

-- the number of tests 1, 14 and 2 to 4 under the trailer of that form: 0 where it is accepted under it
unfoldable pub number_under : Form → List ℕ → ℕ
unfolding word words laid_out verdict
number_under f bytes = verdict (laid_out (trailer_length f) bytes) (parts_under f bytes)
