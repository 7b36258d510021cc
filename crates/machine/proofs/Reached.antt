-- A node is reached where a run of finite cost leads to it; the distances run to the highest node reached, or led to from a reached one. Assumes nothing.
use mathlib.Core.Path.{◌≡◌, refl, sym, ap, ◌∙◌}
use mathlib.Core.Logic.{◌⊎◌, inl, inr, ◌↔◌}
use mathlib.Core.Bool.{Bool, true, false, ◌&&◌, ◌||◌, cond}
use mathlib.Core.Option.{none, some}
use mathlib.Core.List.{List}
use Prim.Native.Nat.{ℕ, zero, suc, ◌≤◌, ◌<◌}
use native.Mathlib.Decide.{ℕ_discrete}
use native.Mathlib.Omega.{arith}
use lib.Dec.{eqb}
use lib.IntN.{ℤ}
use lib.ListN.{length, take, length-take}
use lib.Seq.{get_or-take, ext_get_or}
use borrow.Author.Tests.{eqb-true, eq-eqb}
use Rattle.tropical_weight.specs.Tropical.{fin, inf}
use Rattle.tropical_weight.proofs.Semiring.{is_finite, is-finite, not_finite, ≼-eq, ≼_trans, ≼-fin}
use Rattle.sheet.specs.Below.{list_below}
use Rattle.sheet.specs.Machine.{Machine}
use Rattle.machine.specs.Readings.{link, run_cost}
use Rattle.machine.specs.Climbs.{Climbs}
use Rattle.machine.specs.Distance.{unreached, distance, dist, relax, is_reached, is_led_to, is_counted, height_below, height, distances}
use Rattle.sheet.proofs.Apart.{not-both, or_right}
use Rattle.sheet.proofs.Below.{length-list_below, get_or-list_below}
use Rattle.machine.proofs.Runs.{FromStart, run_length}
use Rattle.machine.proofs.Distance.{dist-le, dist-attained, dist-start}
use Rattle.machine.proofs.Named.{weight-of, same-weight}
use Rattle.machine.proofs.Relax.{row-size, relax-is}

module _ (m : Machine) where
  -- ---- a link from a reached node
  abbrev LedBy : ℕ → ℕ → Type 0
  LedBy n v = (l : ℕ) × (l < n) × ((link m l).next ≡ v) × (is_reached m (link m l).source ≡ true)

  pub led-by : (n v : ℕ) → is_led_to m n v ≡ true → LedBy n v
  unfolding is_led_to
  led-by zero v e = absurd (not-both e refl)
  led-by (suc n) v e = go (is_led_to m n v) (eqb (link m n).next v) (is_reached m (link m n).source) refl refl refl e (led-by n v)
    where
      go : (a b d : Bool) → is_led_to m n v ≡ a → eqb (link m n).next v ≡ b → is_reached m (link m n).source ≡ d → (a || (b && d)) ≡ true → (is_led_to m n v ≡ true → LedBy n v) → LedBy (suc n) v
      go true b d p q z e ih = let x = ih p in (x.0, omega (arith, x.1), x.2, x.3)
      go false true true p q z e ih = (n, omega arith, eqb-true (link m n).next v q, z)
      go false true false p q z e ih = absurd (not-both e refl)
      go false false d p q z e ih = absurd (not-both e refl)

  pub leads : (n l : ℕ) → l < n → is_reached m (link m l).source ≡ true → is_led_to m n (link m l).next ≡ true
  unfolding is_led_to
  leads zero l h e = absurd (omega arith)
  leads (suc n) l h e = go (ℕ_discrete l n) (λ b. leads n l b e)
    where
      go : Dec (l ≡ n) → (l < n → is_led_to m n (link m l).next ≡ true) → is_led_to m n (link m l).next || (eqb (link m n).next (link m l).next && is_reached m (link m n).source) ≡ true
      go (yes q) ih = or_right (is_led_to m n (link m l).next) (eqb (link m n).next (link m l).next && is_reached m (link m n).source) (λ i. eq-eqb (link m n).next (link m l).next (ap (λ k. (link m k).next) (sym q)) i && (ap (λ k. is_reached m (link m k).source) (sym q) ∙ e) i)
      go (no q) ih = ap (λ (t : Bool). t || (eqb (link m n).next (link m l).next && is_reached m (link m n).source)) (ih (omega (arith, q)))

  -- ---- one more than the highest counted node
  -- it bounds the counted nodes below n, and is 0 or such a node's number and one
  pub height-above : (n v : ℕ) → v < n → is_counted m v ≡ true → v < height_below m n
  unfolding height_below
  height-above zero v h e = absurd (omega arith)
  height-above (suc n) v h e = go (is_counted m n) refl (ℕ_discrete v n) (height-above n v)
    where
      go : (t : Bool) → is_counted m n ≡ t → Dec (v ≡ n) → (v < n → is_counted m v ≡ true → v < height_below m n) → v < cond t (suc n) (height_below m n)
      go true p d ih = omega arith
      go false p (yes q) ih = absurd (not-both (ap (is_counted m) (sym q) ∙ e) p)
      go false p (no q) ih = ih (omega (arith, q)) e

  pub height-attained : (n : ℕ) → (height_below m n ≡ 0) ⊎ ((v : ℕ) × (v < n) × (is_counted m v ≡ true) × (height_below m n ≡ suc v))
  unfolding height_below
  height-attained zero = inl refl
  height-attained (suc n) = go (is_counted m n) refl (height-attained n)
    where
      go : (t : Bool) → is_counted m n ≡ t → (height_below m n ≡ 0) ⊎ ((v : ℕ) × (v < n) × (is_counted m v ≡ true) × (height_below m n ≡ suc v))
          → (cond t (suc n) (height_below m n) ≡ 0) ⊎ ((v : ℕ) × (v < suc n) × (is_counted m v ≡ true) × (cond t (suc n) (height_below m n) ≡ suc v))
      go true e ih = inr (n, omega arith, e, refl)
      go false e (inl q) = inl q
      go false e (inr q) = inr (q.0, omega (arith, q.1), q.2, q.3)

  pub height-le : height m ≤ length m.finals
  height-le = elim (height-attained (length m.finals)) [ inl e ↦ omega (arith, e) | inr x ↦ omega (arith, x.1, x.3) ]

  -- ---- reached nodes, and their distances
  pub unreached-inf : (v : ℕ) → is_reached m v ≡ false → dist m v ≡ inf
  unreached-inf v e = not_finite (dist m v) e

  pub finite-reached : (v : ℕ) (k : ℤ) → dist m v ≡ fin k → is_reached m v ≡ true
  finite-reached v k e = ap is_finite e

  pub reached-finite : (v : ℕ) → is_reached m v ≡ true → (k : ℤ) × (dist m v ≡ fin k)
  reached-finite v e = is-finite (dist m v) e

  module _ (c : Climbs m) where
    -- reached is where a run of finite cost leads
    pub reached-run : (v : ℕ) → (is_reached m v ≡ true) ↔ ((r : List ℕ) × FromStart m r v × ((k : ℤ) × (run_cost m r ≡ fin k)))
    reached-run v = (
      λ e. let k = reached-finite v e in let x = dist-attained m c v k.0 k.1 in (x.0, x.1, (k.0, x.2)),
      λ x. let y = ≼-fin (dist m v) x.2.0 (≼_trans (dist-le m c x.0 v x.1) (≼-eq x.2.1)) in finite-reached v y.0 y.1,
    )

    pub reached-start : (s : ℕ) → m.start ≡ some s → is_reached m s ≡ true
    reached-start s e = ap is_finite (dist-start m c s e)

    -- nodes below the start are not reached, and no node without a start
    pub reached-above : (s v : ℕ) → m.start ≡ some s → is_reached m v ≡ true → s ≤ v
    reached-above s v e h =
        let x = (reached-run v).0 h in
        let y = x.1 in
        let q : some y.0 ≡ some s = sym y.1 ∙ e in
        let z : y.0 ≡ s = cc in
        omega (arith, run_length m c x.0 y.0 v y.2)

    pub reached-none : (v : ℕ) → m.start ≡ none → is_reached m v ≡ true → ⊥
    reached-none v e h = let y = ((reached-run v).0 h).1 in let q : none ≡ some y.0 = sym e ∙ y.1 in let z : ◌≡◌ {A = ℕ} 0 1 = cc in omega arith

    -- ---- the distances written
    pub no_start_lem : m.start ≡ none → height m ≡ 0
    no_start_lem e = elim (height-attained (length m.finals)) [ inl q ↦ q | inr x ↦ absurd (none-counted x.0 x.2) ]
      where
        none-counted : (v : ℕ) → is_counted m v ≡ true → ⊥
        none-counted v q = go (is_reached m v) (is_led_to m (length m.links) v) refl refl q
          where
            go : (a b : Bool) → is_reached m v ≡ a → is_led_to m (length m.links) v ≡ b → a || b ≡ true → ⊥
            go true b p z q = reached-none v e p
            go false true p z q = let x = led-by (length m.links) v z in reached-none (link m x.0).source e x.3
            go false false p z q = not-both q refl

    -- they are the front of the relaxed row
    pub distances-relax : distances m ≡ take (height m) (relax m (length m.links))
    unfolding distances
    distances-relax =
        let n = height m in
        let row = relax m (length m.links) in
        let size : length (take n row) ≡ n = length-take n row ∙ omega (arith, row-size m (length m.links), height-le) in
        ext_get_or unreached (list_below n (distance m)) (take n row) (length-list_below n (distance m) ∙ sym size) (λ i h.
        let b : i < n = omega (arith, length-list_below n (distance m)) in
        get_or-list_below n (distance m) i unreached b ∙ sym (get_or-take n row i unreached b ∙ same-weight (relax-is m c i (omega (arith, height-le)) ∙ sym (weight-of (dist m i)))))
