use mathlib.Core.Path.{◌≡◌}
use mathlib.Core.Option.{some}
use Prim.Native.Nat.{◌+◌}
use lib.ListN.{length}
use lib.Seq.{sets}
use Rattle.read_back.specs.Answers.{run_in}
use Rattle.read_back.specs.Walks.{way_in, way_to}
use Rattle.read_back.proofs.way.HeldList.store_way.Given as goal

abbrev pub invariant-loop-q : goal.invariant-loop-q
invariant-loop-q l = record {
  long : length l.run ≡ length l.initial.run;
  there : way_in l.self l.q ≡ some (run_in (way_in l.self l.q));
  left : l.count + length (run_in (way_in l.self l.q)) ≡ length (run_in (way_to l.self l.k));
  stored : sets l.run l.count (run_in (way_in l.self l.q)) ≡ sets l.initial.run 0 (run_in (way_to l.self l.k));
}

abbrev pub decreases-loop-q : goal.decreases-loop-q
decreases-loop-q l = l.q
