-- One offer of a distance is exactly one step of relaxation, for infinite weights too; and what distances in single precision add to sums. In any unit. Assumes nothing.
use mathlib.Core.Path.{◌≡◌, refl, sym, ap, ◌∙◌}
use mathlib.Core.Bool.{Bool, true, false, not, ◌&&◌, cond}
use Prim.Native.Nat.{ℕ, ◌≤◌}
use lib.IntN.{ℤ}
use lib.Ieee.{binary32, add, lt}
use Rattle.tropical_weight.specs.Limits.{finest, sum_limit}
use Rattle.tropical_weight.specs.Tropical.{Tropical, fin, inf, lt_t, ◌⊕◌, ◌⊗◌, Within}
use Rattle.tropical_weight.specs.Grid.{of_t}
use Rattle.tropical_weight.proofs.Semiring.{is_finite}
use Rattle.tropical_weight.proofs.Exact.{times-of_t, lt-of_t}
use Rattle.sheet.specs.Machine.{Machine, unit_in}
use Rattle.machine.specs.Distance as Named
use Rattle.machine.specs.Distance.{as_weight, distance_of, nearer, onward, dist, distance}
use Rattle.machine.proofs.Named.{weight-of, of-weight}
use Rattle.std.specs.Prelude.{Some, None}
use Rattle.distance.specs.Held.{held, weight_in, distance_from, reached_in}
use Rattle.distance.specs.Offer.{improves, relaxed_by, reaches}

-- ---- distances in single precision, in any unit that the laws cover
pub weight-held : (unit : ℕ) (d : Named.Distance) → weight_in (held unit d) ≡ of_t unit (as_weight d)
weight-held unit (Named.reached k) = refl
weight-held unit Named.unreached = refl

pub weight-dist : (m : Machine) (v : ℕ) → weight_in (held (unit_in m) (distance m v)) ≡ of_t (unit_in m) (dist m v)
weight-dist m v = weight-held (unit_in m) (distance m v) ∙ ap (of_t (unit_in m)) (weight-of (dist m v))

pub reached-held : (unit : ℕ) (d : Named.Distance) → reached_in (held unit d) ≡ is_finite (as_weight d)
reached-held unit (Named.reached k) = refl
reached-held unit Named.unreached = refl

module _ (unit : ℕ) (covered : unit ≤ finest) where
  -- a value is reached where it is finite
  pub from-held : (x : Tropical) → Within sum_limit x → distance_from (of_t unit x) ≡ held unit (distance_of x)
  from-held (fin k) h = ap (λ (t : Bool). cond t (Some (of_t unit (fin k))) None) (lt-of_t unit covered (fin k) inf h tt)
  from-held inf h = ap (λ (t : Bool). cond t (Some (of_t unit inf)) None) (lt-of_t unit covered inf inf tt tt)

  -- ---- an offer d ⊗ w to a node at a
  module _ (a d : Named.Distance) (w : Tropical) (ha : Within sum_limit (as_weight a)) (hd : Within sum_limit (as_weight d)) (hw : Within sum_limit w) (hdw : Within sum_limit (as_weight d ⊗ w)) where
    offer-is : add binary32 (of_t unit (as_weight d)) (of_t unit w) ≡ of_t unit (as_weight d ⊗ w)
    offer-is = times-of_t unit covered (as_weight d) w hd hw

    pub improves-is : improves (held unit a) (of_t unit (as_weight d)) (of_t unit w) ≡ lt_t (as_weight d ⊗ w) (as_weight a)
    improves-is = (λ i. lt (offer-is i) (weight-held unit a i)) ∙ lt-of_t unit covered (as_weight d ⊗ w) (as_weight a) hdw ha

    pub relaxed-is : relaxed_by (held unit a) (of_t unit (as_weight d)) (of_t unit w) ≡ held unit (nearer a (onward d w))
    relaxed-is =
        (λ i. cond (improves-is i) (Some (offer-is i)) (held unit a))
        ∙ go (as_weight d ⊗ w)
        ∙ ap (λ (y : Tropical). held unit (distance_of (as_weight a ⊕ y))) (sym (weight-of (as_weight d ⊗ w)))
      where
        kept : (t : Bool) (o : ℤ) → cond t (Some (of_t unit (fin o))) (held unit a) ≡ held unit (distance_of (cond t (fin o) (as_weight a)))
        kept true o = refl
        kept false o = sym (ap (held unit) (of-weight a))

        go : (o : Tropical) → cond (lt_t o (as_weight a)) (Some (of_t unit o)) (held unit a) ≡ held unit (distance_of (as_weight a ⊕ o))
        go (fin o) = kept (lt_t (fin o) (as_weight a)) o
        go inf = sym (ap (held unit) (of-weight a))

    pub reaches-is : reaches (held unit a) (of_t unit (as_weight d)) (of_t unit w) ≡ not (is_finite (as_weight a)) && is_finite (as_weight d ⊗ w)
    reaches-is = (λ i. not (reached-held unit a i) && improves-is i) ∙ go a
      where
        go : (z : Named.Distance) → not (is_finite (as_weight z)) && lt_t (as_weight d ⊗ w) (as_weight z) ≡ not (is_finite (as_weight z)) && is_finite (as_weight d ⊗ w)
        go (Named.reached k) = refl
        go Named.unreached = refl
