use mathlib.Core.Path.{◌≡◌}
use lib.Seq.{sets}
use Rattle.sheet.specs.Words.{bytes_of_all}
use Rattle.list_machine.specs.TrimWords.{start_words}
use Rattle.list_machine.proofs.trim.Numbered.put_start_links.Given as goal

abbrev pub invariant-loop-k : goal.invariant-loop-k
invariant-loop-k l = l.res ≡ sets l.initial.res 0 (bytes_of_all (start_words l.self.part.now l.k))
