use Rattle.std.proofs.Common.{Bool, ◌&&◌, sym, ap, ◌∙◌, subst}
use lib.Ieee.{binary32, add, le}
use Rattle.tropical_weight.specs.Single.{approx_equal, Approx}
use Rattle.tropical_weight.proofs.Near.{approx}
use Rattle.tropical_weight.proofs.approx_equal.Goals as goal

pub returns-then-a-b : goal.returns-then-a-b
unfolding approx_equal
returns-then-a-b c =
    let a = c.args.a in
    let b = c.args.b in
    let delta = c.args.delta in
    subst (λ (r : Bool). Approx a b delta r) (ap (λ (t : Bool). t && le b (add binary32 a delta)) c.if-a-b.true) (approx a b delta)

pub returns-else-a-b : goal.returns-else-a-b
unfolding approx_equal
returns-else-a-b c =
    let a = c.args.a in
    let b = c.args.b in
    let delta = c.args.delta in
    subst (λ (r : Bool). Approx a b delta r) (ap (λ (t : Bool). t && le b (add binary32 a delta)) c.if-a-b.false ∙ sym c.if-a-b.false) (approx a b delta)
