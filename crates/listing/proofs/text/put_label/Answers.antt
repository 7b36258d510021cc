use native.Mathlib.Omega.{arith}
use Rattle.std.proofs.lemmas.Grind.{common_steps}
use Rattle.listing.specs.Text.{label_text}
use Rattle.listing.proofs.text.put_label.Goals as goal

pub returns-clause-text : goal.returns-clause-text
unfolding label_text
returns-clause-text c = grind (arith, common_steps)
