use mathlib.Core.Path.{◌≡◌}
use Prim.Native.Nat.{◌≤◌}
use Rattle.row_reader.specs.Places.{rows_left}
use Rattle.row_reader.specs.Surveying.{survey_from}
use Rattle.row_reader.proofs.Surveys.{nothing}
use Rattle.row_reader.proofs.survey.survey_of.Given as goal

abbrev pub invariant-loop-row : goal.invariant-loop-row
invariant-loop-row l = record {
  text_is : l.row-iterator.text.now ≡ l.fn.text;
  few : l.s.links ≤ l.row-iterator.at;
  rest : survey_from l.s (rows_left l.row-iterator.text.now l.row-iterator.at) ≡ survey_from nothing (rows_left l.fn.text 0);
}
