use native.Mathlib.Omega.{arith}
use Rattle.decimals.proofs.Storing.{text_put}
use Rattle.decimals.proofs.text.Text.put_decimal.Goals as goal

pub returns-clause-value : goal.returns-clause-value
returns-clause-value g c =
    let put = c.put_decimal-self-inside.ensures in
    text_put c.self.view_is (omega arith) (omega (arith, put.puts.ends, put.upper_bound)) put.puts
