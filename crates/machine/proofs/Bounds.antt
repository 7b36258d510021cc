-- Runs have fewer links than there are nodes, so that every sum along a run is within the limit of sums or infinite, exact in single precision, and no NaN.
-- Over any limits on nodes and on weights whose product is that limit. Assumes nothing.
use mathlib.Core.Path.{◌≡◌, refl, sym, ap, ◌∙◌, subst}
use mathlib.Core.Bool.{true, false}
use mathlib.Core.Logic.{◌⊎◌, inl, inr}
use mathlib.Core.Option.{Option, none, some}
use mathlib.Core.List.Memᴰ
use mathlib.Core.List.{List, [], ◌∷◌, ◌++◌, map}
use Prim.Native.Nat.{ℕ, suc, ◌+◌, ◌-◌, ◌*◌, ◌≤◌, ◌<◌}
use native.Mathlib.Nat.{mul-le-mul_right}
use native.Mathlib.Omega.{arith}
use lib.Ieee as Ieee
use lib.Ieee.{binary32, add, is_nan}
use lib.ListN.{length, length-map, length-append}
use Rattle.tropical_weight.specs.Limits.{finest, sum_limit}
use Rattle.tropical_weight.specs.Tropical.{Tropical, inf, one, ◌⊗◌, times_all, Within}
use Rattle.tropical_weight.specs.Grid.{of_t}
use Rattle.tropical_weight.specs.Single.{add_all}
use Rattle.tropical_weight.proofs.Semiring.{⊗-zero}
use Rattle.tropical_weight.proofs.Exact.{times-of_t, of_t-no-nan}
use Rattle.tropical_weight.proofs.Sums.{within-mono, within-one, terms-⊗, terms-within, sums-exact}
use Rattle.sheet.specs.Below.{list_below}
use Rattle.sheet.specs.Machine.{Machine}
use Rattle.machine.specs.Readings.{link, final, final_weight, IsRun, run_cost, ways, Reading, IsReading, reading_cost, reading_weights}
use Rattle.machine.specs.Climbs.{Climbs, Small}
use Rattle.machine.specs.Demand.{◌∈◌}
use Rattle.machine.specs.Distance.{plus_all, dist, total_at}
use Rattle.machine.proofs.Lists.{mem-map, mem_below}
use Rattle.machine.proofs.Sums.{plus_all-within}
use Rattle.machine.proofs.Runs.{run_length, run_in, ways-sound}
use Rattle.machine.proofs.Readings.{final-in, Way, way}
use Rattle.machine.proofs.Relax.{dist_over, row_at, row_is}

-- No value is negative infinity, so that infinity less infinity never comes up: the sum with infinity would be a NaN.
pub no_minus : (j : ℕ) → j ≤ finest → (v : Tropical) → Within sum_limit v → of_t j v ≡ Ieee.inf true → ⊥
unfolding is_nan
no_minus j h v w e =
    let sum : add binary32 (Ieee.inf true) (Ieee.inf false) ≡ of_t j inf = ap (λ x. add binary32 x (Ieee.inf false)) (sym e) ∙ times-of_t j h v inf w tt ∙ ap (of_t j) (⊗-zero v) in
    let undefined : is_nan (add binary32 (Ieee.inf true) (Ieee.inf false)) ≡ true = unfold add in refl in
    let clash : true ≡ false = sym undefined ∙ ap is_nan sum in
    let z : ◌≡◌ {A = ℕ} 0 1 = cc in
    omega arith

one-term : (most : ℕ) (w : Tropical) → Within most w → Within (1 * most) w
one-term most w h = within-mono most (1 * most) w (omega arith) h

module _ (m : Machine) (c : Climbs m) (most : ℕ) (b : Small most m) where
  -- as many terms as links, and no more links than nodes are passed
  pub run-within : (r : List ℕ) (u v : ℕ) → IsRun m u r v → Within (length r * most) (run_cost m r)
  unfolding run_cost
  run-within [] u v h = within-one (0 * most)
  run-within (l ∷ r) u v h =
      subst (λ (n : ℕ). Within (n * most) ((link m l).weight ⊗ run_cost m r)) (let z : 1 + length r ≡ suc (length r) = omega arith in z)
      (terms-⊗ most 1 (length r) (link m l).weight (run_cost m r) (one-term most (link m l).weight (b.on_link l h.0)) (run-within r (link m l).next v h.2))

  pub run-climb-within : (r : List ℕ) (u v : ℕ) → IsRun m u r v → Within ((v - u) * most) (run_cost m r)
  run-climb-within r u v h = within-mono (length r * most) ((v - u) * most) (run_cost m r) (mul-le-mul_right most (let z : length r ≤ v - u = omega (arith, run_length m c r u v h) in z)) (run-within r u v h)

  -- ⊕ over the runs to v, over any first links
  dist-over-within : (l v : ℕ) → l ≤ length m.links → Within (v * most) (dist_over m l v)
  dist-over-within l v k = plus_all-within (v * most) (map (run_cost m) (ways m l v)) (λ a h.
      let x = mem-map (run_cost m) (ways m l v) h in
      let y = (ways-sound m l v x.0 k x.1).0 in
      let z : v - y.0 ≤ v = omega arith in
      subst (Within (v * most)) (sym x.2) (within-mono ((v - y.0) * most) (v * most) (run_cost m x.0) (mul-le-mul_right most z) (run-climb-within x.0 y.0 v y.2)))

  pub dist-within : (v : ℕ) → Within (v * most) (dist m v)
  unfolding dist
  dist-within v = dist-over-within (length m.links) v (omega arith)

  pub row_within : (l v : ℕ) → l ≤ length m.links → v < length m.finals → Within (v * most) (row_at m l v)
  row_within l v k h = subst (Within (v * most)) (sym (row_is m c l v k h)) (dist-over-within l v k)

  final-within : (v : ℕ) (w : Tropical) → final m v ≡ some w → Within (1 * most) (final_weight (final m v))
  final-within v w e = subst (Within (1 * most)) (sym (ap final_weight e)) (one-term most w (b.on_final v w e))

  -- what is still to come from u, in v - u links and the final weight
  pub rest-within : (r : List ℕ) (u v : ℕ) (w : Tropical) → IsRun m u r v → final m v ≡ some w → Within ((v - u + 1) * most) (run_cost m r ⊗ final_weight (final m v))
  rest-within r u v w h e = terms-⊗ most (v - u) 1 (run_cost m r) (final_weight (final m v)) (run-climb-within r u v h) (final-within v w e)

  module _ (nodes : ℕ) (product : nodes * most ≡ sum_limit) (few : length m.finals ≤ nodes) where
    -- a step of relaxation
    pub step-within : (l v : ℕ) → l ≤ length m.links → v < length m.finals → (k : ℕ) → k < length m.links → Within sum_limit (row_at m l v ⊗ (link m k).weight)
    step-within l v h i k j =
        terms-within nodes most product (v + 1) (omega arith) (row_at m l v ⊗ (link m k).weight)
        (terms-⊗ most v 1 (row_at m l v) (link m k).weight (row_within l v h i) (one-term most (link m k).weight (b.on_link k j)))

    pub dist-limit : (v : ℕ) → v < length m.finals → Within sum_limit (dist m v)
    dist-limit v h = terms-within nodes most product v (omega arith) (dist m v) (dist-within v)

    pub total-limit : (v : ℕ) → v < length m.finals → Within sum_limit (total_at m v)
    total-limit v h = go (final m v) refl
      where
        go : (o : Option Tropical) → final m v ≡ o → Within sum_limit (dist m v ⊗ final_weight o)
        go none e = subst (Within sum_limit) (sym (⊗-zero (dist m v))) tt
        go (some w) e = terms-within nodes most product (v + 1) (omega arith) (dist m v ⊗ w) (terms-⊗ most v 1 (dist m v) w (dist-within v) (one-term most w (b.on_final v w e)))

    -- the least total of the first n nodes
    pub least-limit : (n : ℕ) → n ≤ length m.finals → Within sum_limit (plus_all (list_below n (total_at m)))
    least-limit n h = plus_all-within sum_limit (list_below n (total_at m)) (λ a k. let x = mem_below (total_at m) n k in subst (Within sum_limit) (sym x.2) (total-limit x.0 (omega (arith, x.1))))

    -- a cost on the way back from a final node, and a rank
    pub rest-limit : (r : List ℕ) (u v : ℕ) (w : Tropical) → IsRun m u r v → final m v ≡ some w → Within sum_limit (run_cost m r ⊗ final_weight (final m v))
    rest-limit r u v w h e = terms-within nodes most product (v - u + 1) (omega (arith, final-in m v w e)) (run_cost m r ⊗ final_weight (final m v)) (rest-within r u v w h e)

    pub rank-limit : (r : List ℕ) (u v : ℕ) (w : Tropical) → IsRun m u r v → final m v ≡ some w → Within sum_limit (dist m u ⊗ (run_cost m r ⊗ final_weight (final m v)))
    rank-limit r u v w h e =
        let rest = run_cost m r ⊗ final_weight (final m v) in
        terms-within nodes most product (u + (v - u + 1)) (omega (arith, final-in m v w e, run_length m c r u v h)) (dist m u ⊗ rest) (terms-⊗ most u (v - u + 1) (dist m u) rest (dist-within u) (rest-within r u v w h e))

    pub reading-limit : (x : Reading) → IsReading m x → Within sum_limit (reading_cost m x)
    reading-limit x i = rest-limit x.run i.from x.end i.weight i.runs i.marked

    -- Along a run to a mark, barred or not, each partial sum, that of any front us of its weights us ++ vs, is within the limit of sums, and single
    -- precision adds it up as the semiring does.
    pub way-exact : (x : Reading) → Way m x → (j : ℕ) → j ≤ finest → (us vs : List Tropical) → us ++ vs ≡ reading_weights m x
        → (add_all (of_t j one) (map (of_t j) us) ≡ of_t j (times_all one us)) × Within sum_limit (times_all one us)
    way-exact x i j h us vs e = sums-exact nodes most product j h us vs count (λ w q. each w (Memᴰ.append_cases linked (subst (λ (l : List Tropical). w ∈ l) e q)))
      where
        linked : List Tropical
        linked = map (λ l. (link m l).weight) x.run

        ends : List Tropical
        ends = final_weight (final m x.end) ∷ []

        count : length (us ++ vs) ≤ nodes
        count =
            omega (arith, ap length e, length-append linked ends, length-map x.run (λ l. (link m l).weight), run_length m c x.run i.from x.end i.runs, final-in m x.end i.weight i.marked)

        each : (w : Tropical) → (w ∈ linked) ⊎ (w ∈ ends) → Within most w
        each w (inl q) =
            let y = mem-map (λ l. (link m l).weight) x.run q in
            subst (Within most) (sym y.2) (b.on_link y.0 (run_in m x.run i.from x.end i.runs y.0 y.1))
        each w (inr q) = subst (Within most) (sym (Memᴰ.eq_of_singleton q ∙ ap final_weight i.marked)) (b.on_final x.end i.weight i.marked)

    -- of a reading
    pub reading-exact : (x : Reading) → IsReading m x → (j : ℕ) → j ≤ finest → (us vs : List Tropical) → us ++ vs ≡ reading_weights m x
        → (add_all (of_t j one) (map (of_t j) us) ≡ of_t j (times_all one us)) × Within sum_limit (times_all one us)
    reading-exact x i = way-exact x (way m i)

    -- and none of these sums is a NaN
    pub way-defined : (x : Reading) → Way m x → (j : ℕ) → j ≤ finest → (us vs : List Tropical) → us ++ vs ≡ reading_weights m x → is_nan (add_all (of_t j one) (map (of_t j) us)) ≡ false
    way-defined x i j h us vs e = let sum = way-exact x i j h us vs e in ap is_nan sum.0 ∙ of_t-no-nan j h (times_all one us) sum.1
