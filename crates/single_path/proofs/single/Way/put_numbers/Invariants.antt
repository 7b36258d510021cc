use mathlib.Core.Path.{◌≡◌}
use Prim.Native.Nat.{◌+◌, ◌*◌, ◌≤◌}
use lib.ListN.{length}
use lib.Seq.{sets}
use Rattle.sheet.specs.Words.{word_length, bytes_of_all}
use Rattle.single_path.specs.SingleWords.{way_back}
use Rattle.single_path.proofs.single.Way.put_numbers.Given as goal

abbrev pub invariant-loop-parent : goal.invariant-loop-parent
invariant-loop-parent l =
    let work = l.self.work.now in
    record {
      fell : l.v ≤ l.self.end;
      room : l.next + word_length * length (way_back work l.v l.v) ≤ length l.res;
      as_all : sets l.res l.next (bytes_of_all (way_back work l.v l.v)) ≡ sets l.initial.res l.at (bytes_of_all (way_back work l.self.end l.self.end));
    }

abbrev pub decreases-loop-parent : goal.decreases-loop-parent
decreases-loop-parent l = l.v
