use Rattle.read_back.proofs.Stepping.{begins-none}
use Rattle.read_back.proofs.way.HeldList.first_state.Goals as goal

pub returns-then-self-k : goal.returns-then-self-k
returns-then-self-k c = begins-none c.args.self.now c.args.k c.if-self-eq1.false c.if-self-k.true
