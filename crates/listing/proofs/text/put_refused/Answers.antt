use native.Mathlib.Omega.{arith}
use Rattle.std.proofs.lemmas.Grind.{common_steps}
use Rattle.listing.specs.Text.{refused_line}
use Rattle.listing.proofs.text.put_refused.Goals as goal

pub returns-clause-text : goal.returns-clause-text
unfolding refused_line
returns-clause-text c = grind (arith, common_steps)
