use mathlib.Core.List.{[], ◌∷◌}
use Rattle.text_rows.specs.Fields.{infinity_text}
use Rattle.row_reader.proofs.Weighing.{same-text}
use Rattle.row_reader.proofs.values.is_infinity.Goals as goal

pub returns : goal.returns
unfolding infinity_text
returns c = let same = same-text c.args.field.now (73 ∷ 110 ∷ 102 ∷ 105 ∷ 110 ∷ 105 ∷ 116 ∷ 121 ∷ []) in cc
