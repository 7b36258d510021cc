use mathlib.Core.Path.{◌≡◌}
use Prim.Native.Nat.{◌+◌, ◌*◌, ◌≤◌}
use lib.ListN.{length}
use lib.Seq.{sets}
use Rattle.sheet.specs.Words.{bytes_of_all}
use Rattle.sheet.specs.Sheet.{link_length}
use Rattle.single_path.specs.SingleWords.{way_back, way_links}
use Rattle.single_path.proofs.single.Way.put_links.Given as goal

abbrev pub invariant-loop-parent : goal.invariant-loop-parent
invariant-loop-parent l =
    let bytes = l.self.machine.sheet.bytes.now in
    let work = l.self.work.now in
    record {
      fell : l.i + l.v ≤ l.self.end;
      room : link_length * (l.i + length (way_back work l.v l.v)) ≤ length l.res;
      as_all : sets l.res (link_length * l.i) (bytes_of_all (way_links bytes l.i (way_back work l.v l.v))) ≡ sets l.initial.res 0 (bytes_of_all (way_links bytes 0 (way_back work l.self.end l.self.end)));
    }

abbrev pub decreases-loop-parent : goal.decreases-loop-parent
decreases-loop-parent l = l.v
