use mathlib.Core.Path.{◌≡◌}
use lib.ListN.{replicate}
use lib.Seq.{sets}
use Rattle.sheet.specs.Words.{bytes_of_all}
use Rattle.slots.specs.Slots.{nothing}
use Rattle.list_machine.proofs.trim.put_nothings.Given as goal

abbrev pub invariant-loop-k : goal.invariant-loop-k
invariant-loop-k l = l.res ≡ sets l.initial.res l.at (bytes_of_all (replicate l.k nothing))
