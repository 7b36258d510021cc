use Prim.Native.Nat.{◌-◌}
use Rattle.n_shortest.proofs.heap.+sift_down.Given as goal

abbrev pub decreases-sift_down : goal.decreases-sift_down
decreases-sift_down l = l.n - l.i
