use Rattle.n_shortest.specs.Goes.{words_of, Kept}
use Rattle.n_shortest.proofs.Linking.{Going}
use Rattle.n_shortest.proofs.n_best.Search.put_links.Given as goal

abbrev pub invariant-loop-turn : goal.invariant-loop-turn
invariant-loop-turn l = Going l.fn.self.places l.x l.cost l.fn.self.most l.head (words_of l.fn.self) l.turn l.k (words_of l.self) × Kept l.fn.self l.self
