use native.Mathlib.Omega.{arith}
use Rattle.std.proofs.lemmas.Grind.{common_steps}
use Rattle.listing.specs.Text.{first_line}
use Rattle.listing.proofs.text.put_first_line.Goals as goal

pub returns-clause-text : goal.returns-clause-text
unfolding first_line
returns-clause-text c = grind (arith, common_steps)
