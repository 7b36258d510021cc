use mathlib.Core.Path.{ap}
use native.Mathlib.Omega.{arith}
use Rattle.std.proofs.lemmas.Grind.{common_steps}
use mir.Syntax.{w32}
use mir.ValLaws.{to_z-of_z}
use Rattle.listing.specs.Text.{signed, line_of}
use Rattle.listing.proofs.text.put_line.Goals as goal

pub returns-clause-text : goal.returns-clause-text
unfolding line_of
returns-clause-text c = let read = ap signed (to_z-of_z w32 c.args.cost c.ranges.cost) in grind (arith, common_steps, read)
