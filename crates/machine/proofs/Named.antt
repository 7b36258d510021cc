-- A distance and the weight it adds to a sum are two forms of one value: unreached is exactly infinity. Assumes nothing.
use mathlib.Core.Path.{◌≡◌, refl, sym, ap, ◌∙◌}
use mathlib.Core.Logic.{◌↔◌}
use Rattle.tropical_weight.specs.Tropical.{Tropical, fin, inf, ◌⊕◌, ◌⊗◌}
use Rattle.machine.specs.Distance.{Distance, reached, unreached, as_weight, distance_of, nearer, onward}

-- ---- the two forms are inverse
pub weight-of : (x : Tropical) → as_weight (distance_of x) ≡ x
weight-of (fin k) = refl
weight-of inf = refl

pub of-weight : (d : Distance) → distance_of (as_weight d) ≡ d
of-weight (reached k) = refl
of-weight unreached = refl

pub same-weight : {a b : Distance} → as_weight a ≡ as_weight b → a ≡ b
same-weight {a} {b} e = sym (of-weight a) ∙ ap distance_of e ∙ of-weight b

-- a distance is unreached where Mohri's sum is infinite, and nowhere else
pub unreached-is : (x : Tropical) → (distance_of x ≡ unreached) ↔ (x ≡ inf)
unreached-is x = (λ e. sym (weight-of x) ∙ ap as_weight e, ap distance_of)

-- ---- one step of relaxation is ⊕ and ⊗
pub step-weight : (a d : Distance) (w : Tropical) → as_weight (nearer a (onward d w)) ≡ as_weight a ⊕ as_weight d ⊗ w
step-weight a d w = weight-of (as_weight a ⊕ as_weight (distance_of (as_weight d ⊗ w))) ∙ ap (λ x. as_weight a ⊕ x) (weight-of (as_weight d ⊗ w))
