use mathlib.Core.Path.{◌≡◌}
use lib.Seq.{sets}
use Rattle.sheet.specs.Words.{bytes_of_all}
use Rattle.list_answer.specs.ListAnswer.{state_words}
use Rattle.list_answer.proofs.put_states.Given as goal

abbrev pub invariant-loop-k : goal.invariant-loop-k
invariant-loop-k l = l.res ≡ sets l.initial.res l.at (bytes_of_all (state_words l.k))
