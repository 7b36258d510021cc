use mathlib.Core.Path.{sym, ap, ◌∙◌}
use Rattle.machine.proofs.Values.{start-none, start-some}
use Rattle.narrowing.specs.Narrows.{starts_by}
use Rattle.narrowing.proofs.starts_by.Goals as goal

pub returns-in-Some : goal.returns-in-Some
returns-in-Some c = sym (ap (starts_by c.args.c) (start-some c.args.machine.now c.in-Some.start (sym c.start.ensures.value ∙ c.in-Some.is)))

pub returns-in-None : goal.returns-in-None
returns-in-None c = sym (ap (starts_by c.args.c) (start-none c.args.machine.now (sym c.start.ensures.value ∙ c.in-None.is)))
