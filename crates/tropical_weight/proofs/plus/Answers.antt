use Rattle.std.proofs.Common.{Bool, cond, ap, subst}
use lib.Ieee.{Float}
use Rattle.tropical_weight.specs.Tropical.{◌⊕◌}
use Rattle.tropical_weight.specs.Single.{lesser, Computes}
use Rattle.tropical_weight.proofs.Exact.{computes, lesser-of_t}
use Rattle.tropical_weight.proofs.plus.Goals as goal

pub returns-then-b-a : goal.returns-then-b-a
unfolding lesser
returns-then-b-a c =
    let a = c.args.a in
    let b = c.args.b in
    subst (λ (r : Float). Computes lesser ◌⊕◌ a b r) (ap (λ (t : Bool). cond t b a) c.if-b-a.true) (computes lesser ◌⊕◌ lesser-of_t a b)

pub returns-else-b-a : goal.returns-else-b-a
unfolding lesser
returns-else-b-a c =
    let a = c.args.a in
    let b = c.args.b in
    subst (λ (r : Float). Computes lesser ◌⊕◌ a b r) (ap (λ (t : Bool). cond t b a) c.if-b-a.false) (computes lesser ◌⊕◌ lesser-of_t a b)
