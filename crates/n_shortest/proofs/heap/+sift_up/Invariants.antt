use Rattle.n_shortest.proofs.heap.+sift_up.Given as goal

abbrev pub decreases-sift_up : goal.decreases-sift_up
decreases-sift_up l = l.i
