use mathlib.Core.Path.{◌≡◌, refl, sym, ap, ◌∙◌}
use mathlib.Core.Bool.{Bool, true, false}
use lib.Dec.{lit≤}
use lib.Ieee as Ieee
use lib.Ieee.{Float, lt}
use Rattle.n_shortest.specs.Goes.{words_of}
use Rattle.n_shortest.proofs.Keeping.{kept-same}
use Rattle.n_shortest.proofs.Taking.{finished-listed, finished-barred}
use Rattle.n_shortest.proofs.n_best.Search.finish.Goals as goal

-- the test is whether the cost is below infinity
tested : (cost : Float) (b : Bool) {z : Float} {r : Bool} → z ≡ Ieee.inf false → r ≡ lt cost z → r ≡ b → lt cost (Ieee.inf false) ≡ b
tested cost b e f g = ap (lt cost) (sym e) ∙ sym f ∙ g

pub returns-then-not-natural_less : goal.returns-then-not-natural_less
returns-then-not-natural_less c =
    let a = c.args in record {
      words = sym (finished-barred a.x (words_of a.self.now) a.cost (tested a.cost false (c.zero.ensures 0 (lit≤ tt)) c.natural_less.ensures.same c.if-not-natural_less.true));
      kept = kept-same a.self.now;
    }

pub returns : goal.returns
returns c =
    let a = c.args in record {
      words = sym (finished-listed a.x (words_of a.self.now) a.cost (tested a.cost true (c.zero.ensures 0 (lit≤ tt)) c.natural_less.ensures.same c.if-not-natural_less.false));
      kept = record { places = refl; n = refl; most = refl; same = refl };
    }
