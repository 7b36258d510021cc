use native.Mathlib.Omega.{arith}
use lib.ListN.{length, length-append}
use mathlib.Core.Path.{ap}
use Prim.Native.Nat.{ℕ}
use Rattle.std.proofs.lemmas.Grind.{common_steps}
use Rattle.text_rows.specs.Written.{magnitude_text}
use Rattle.row_writer.proofs.Lengths.{ones-most}
use Rattle.row_writer.proofs.row_text.put_magnitude.Goals as goal

pub put_part-requires-clause-part_most_fits : goal.put_part-requires-clause-part_most_fits
put_part-requires-clause-part_most_fits c = omega (arith, ap length c.put_decimal.ensures.value, length-append {A = ℕ}, ones-most c.args.units c.requires.units_le_weight_limit)

pub returns-clause-text : goal.returns-clause-text
unfolding magnitude_text
returns-clause-text c = grind (arith, common_steps)

pub returns-clause-upper_bound : goal.returns-clause-upper_bound
returns-clause-upper_bound c = omega (arith, ap length c.put_decimal.ensures.value, length-append {A = ℕ}, ones-most c.args.units c.requires.units_le_weight_limit, c.put_part.ensures.upper_bound)
