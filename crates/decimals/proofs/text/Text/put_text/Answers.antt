use native.Mathlib.Omega.{arith}
use Rattle.decimals.proofs.Storing.{text_put}
use Rattle.decimals.proofs.text.Text.put_text.Goals as goal

pub returns : goal.returns
returns g c = text_put c.self.view_is (omega arith) (omega arith) c.put_text-self-inside.ensures
