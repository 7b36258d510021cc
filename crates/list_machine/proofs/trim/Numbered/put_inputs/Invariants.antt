use mathlib.Core.Path.{◌≡◌}
use Prim.Native.Nat.{◌+◌, ◌-◌, ◌*◌}
use lib.Seq.{sets}
use Rattle.sheet.specs.Words.{word_length, bytes_of_all}
use Rattle.list_machine.specs.TrimWords.{mark_count, input_words}
use Rattle.list_machine.proofs.trim.Numbered.put_inputs.Given as goal

abbrev pub invariant-loop-i : goal.invariant-loop-i
invariant-loop-i l = record {
  place : l.next ≡ l.at + word_length * mark_count l.self.part.now (l.i - 1);
  so_far : l.res ≡ sets l.initial.res l.at (bytes_of_all (input_words l.self.part.now (l.i - 1)));
}
