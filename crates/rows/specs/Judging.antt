-- Mirrors the code: what a text comes to before any byte is written. A reader need not believe it: laws tie it to Convert (proofs/Judging). Definitions only.
use Rattle.std.specs.Prelude.{not, cond, List, ℕ, Option, None, Some, Result, Ok, Err}
use Rattle.text_rows.specs.Rows.{Row, read_rows, weights_pass}
use Rattle.text_rows.specs.Convert.{fields_hold}
use Rattle.row_reader.specs.Surveying.{survey_in}
use Rattle.row_reader.specs.declared.survey.Survey.{Survey}
use Rattle.sheet.specs.declared.refusal.Refusal.{Refusal}
use Rattle.sheet.specs.declared.refusal.Refusal.TheVariants as Refusal

-- 8, then 1 and 4
abbrev pub judged_by : Option (List Row) → Result Survey Refusal
judged_by None = Err Refusal.Rows
judged_by (Some rs) = cond (not (fields_hold rs)) (Err Refusal.Layout) (cond (not (weights_pass rs)) (Err Refusal.Weight) (Ok (survey_in rs)))

abbrev pub judged : List ℕ → Result Survey Refusal
judged text = judged_by (read_rows text)
