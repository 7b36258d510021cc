-- Mirrors the code: what the survey of rows answers, a fold over them. A reader need not believe it: laws tie it to Rows (proofs/Surveys). Definitions only.
use Rattle.std.specs.Prelude.{ℕ, ◌+◌, max, Bool, true, false, ◌&&◌, cond, List, [], ◌∷◌, ltb, length, Option, None, Some}
use Rattle.text_rows.specs.Rows.{Row, highest, weights_pass, highest_in, weight_in, weight_passes}
use Rattle.text_rows.specs.Convert.{links_in, is_link}
use Rattle.row_reader.specs.Places.{rows_left}
use Rattle.row_reader.specs.declared.values.Weight.{Weight}
use Rattle.row_reader.specs.declared.row.Row as Code
use Rattle.row_reader.specs.declared.row.Row.TheVariants.{Link, Final}
use Rattle.row_reader.specs.declared.row.Read.{Read}
use Rattle.row_reader.specs.declared.survey.Survey.{Survey}

abbrev pub passes : Weight → Bool
passes (Weight.Units k) = true
passes Weight.Barred = true
passes Weight.Off = false

-- a row more, by the code's answer and by the definition
abbrev pub survey_read : Survey → Code.Row → Survey
survey_read x (Link l) = record { passing = x.passing && passes l.weight; highest = max x.highest (max l.source l.next); links = x.links + 1 }
survey_read x (Final v w) = record { passing = x.passing && passes w; highest = max x.highest v; links = x.links }

abbrev pub survey_row : Survey → Row → Survey
survey_row x r = record { passing = x.passing && weight_passes (weight_in r); highest = max x.highest (highest_in r); links = x.links + is_link r }

-- rows onto what others say
unfoldable pub survey_onto : Survey → List Row → Survey
survey_onto x [] = x
survey_onto x (r ∷ rs) = survey_onto (survey_row x r) rs

abbrev pub survey_from : Survey → Option (List Row) → Option Survey
survey_from x None = None
survey_from x (Some rs) = Some (survey_onto x rs)

-- what rows say
abbrev pub survey_in : List Row → Survey
survey_in rs = record { passing = weights_pass rs; highest = highest rs; links = links_in rs }

abbrev pub survey_rows : Option (List Row) → Option Survey
survey_rows None = None
survey_rows (Some rs) = Some (survey_in rs)

abbrev pub surveyed : List ℕ → Option Survey
surveyed text = cond (ltb 0 (length text)) (survey_rows (rows_left text 0)) None

-- a row's first node
abbrev pub first_of : Code.Row → ℕ
first_of (Link l) = l.source
first_of (Final v w) = v

abbrev pub node_of : Option Read → ℕ
node_of None = 0
node_of (Some r) = first_of r.row
