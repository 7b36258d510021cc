use Rattle.n_shortest.specs.SearchWords.{begun_w}
use Rattle.n_shortest.specs.Goes.{words_of, Kept}
use Rattle.n_shortest.proofs.Taking.{Turns}
use Rattle.n_shortest.proofs.n_best.Search.run.Given as goal

abbrev pub invariant-loop-turn : goal.invariant-loop-turn
invariant-loop-turn l = let s = l.fn.self in Turns s.places s.n s.most l.allowed (begun_w s.places s.part.now) l.turn (words_of l.self) × Kept s l.self
