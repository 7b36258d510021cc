use mathlib.Core.Path.{ap, ◌∙◌}
use Prim.Native.Nat.{ℕ}
use native.Mathlib.Omega.{arith}
use Rattle.tropical_weight.specs.Units.{places}
use Rattle.read_distance.specs.Told.{words_tell, distance_told}
use Rattle.read_distance.proofs.Answers.{long, told-words, read_back}
use Rattle.read_distance.proofs.distance_at.Goals as goal

pub returns-then-res-values-clause-read_back : goal.returns-then-res-values-clause-read_back
returns-then-res-values-clause-read_back c = λ sheet h u b. absurd (omega (arith, long sheet c.args.values c.args.res.now h))

pub returns-clause-read_back : goal.returns-clause-read_back
returns-clause-read_back c = λ sheet h u b.
    c.distance_of.ensures ∙ (λ i. words_tell (places c.args.unit) (c.word.ensures i) (c.word-2.ensures i))
    ∙ told-words (places c.args.unit) c.args.res.now c.args.values c.args.node c.if-res-values.false b
    ∙ ap (λ (j : ℕ). distance_told j c.args.res.now c.args.values c.args.node) u
    ∙ read_back sheet c.args.values c.args.res.now h c.args.node b
