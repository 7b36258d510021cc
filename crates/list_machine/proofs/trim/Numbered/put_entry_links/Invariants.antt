use mathlib.Core.Path.{◌≡◌}
use Prim.Native.Nat.{◌+◌, ◌-◌, ◌*◌}
use lib.Seq.{sets}
use Rattle.sheet.specs.Words.{bytes_of_all}
use Rattle.sheet.specs.Sheet.{link_length}
use Rattle.list_machine.specs.TrimWords.{mark_count, link_words}
use Rattle.list_machine.proofs.trim.Numbered.put_entry_links.Given as goal

abbrev pub invariant-loop-i : goal.invariant-loop-i
invariant-loop-i l = record {
  place : l.next ≡ l.at + link_length * mark_count l.self.part.now (l.i - 1);
  so_far : l.res ≡ sets l.initial.res l.at (bytes_of_all (link_words l.self.sheet.bytes.now l.self.sheet.links l.self.part.now (l.i - 1)));
}
