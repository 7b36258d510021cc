-- Every distance, cost and rank of the search is within the limit of exact sums, and no more entries are put in than may be taken, after any number of removals. Assumes nothing.
use mathlib.Core.Path.{◌≡◌, refl, sym, ap, ◌∙◌, subst}
use mathlib.Core.Option.{Option, none, some}
use mathlib.Core.List.{map}
use Prim.Native.Nat.{ℕ, zero, suc, ◌≤◌, ◌<◌}
use native.Mathlib.Omega.{arith}
use lib.ListN.{get_or, length}
use Rattle.tropical_weight.specs.Limits.{weight_limit, node_limit, sum_limit}
use Rattle.tropical_weight.specs.Tropical.{Tropical, fin, inf, ◌⊗◌, Within}
use Rattle.tropical_weight.proofs.Semiring.{is_finite, one-⊗, ⊗-one}
use Rattle.tropical_weight.proofs.Sums.{within-one, limits}
use Rattle.sheet.specs.Machine.{Machine}
use Rattle.machine.specs.Readings.{end_from, reading_of, reading_cost, readings}
use Rattle.machine.specs.Climbs.{Climbs, Small}
use Rattle.machine.proofs.Named.{weight-of}
use Rattle.machine.specs.Distance.{as_weight, dist, total}
use Rattle.machine.specs.Demand.{◌∈◌}
use Rattle.machine.proofs.Lists.{mem-map}
use Rattle.machine.proofs.Sums.{plus_all-within}
use Rattle.machine.proofs.Readings.{readings-are}
use Rattle.machine.proofs.Distance.{total-is}
use Rattle.machine.proofs.Bounds.{dist-limit, rest-limit, rank-limit, reading-limit}
use Rattle.search.specs.Reversed.{distance_to, reversed}
use Rattle.search.specs.Search.{half, cost_of, first, Search, rank, after, begun, most_taken}
use Rattle.search.proofs.Trails.{Trail, site, cost, inputs, ahead, rank_of, Made}
use Rattle.search.proofs.Unreversed.{half_is, half-sum, unmoved, trail-cost, trail-reads}
use Rattle.search.proofs.Mirror.{at, half-site, rank_is, entry-cost}
use Rattle.search.proofs.Steps.{Holds}
use Rattle.search.proofs.Complete.{ran-begun, node_in, trails-few}
use Rattle.search.proofs.Entries.{entry-made}

-- ---- every machine whose links climb
module _ (m : Machine) (c : Climbs m) (n : ℕ) where
  abbrev size : ℕ
  size = suc (length m.finals)

  pub holds_after : (k : ℕ) → Holds (reversed m) n size (after (reversed m) k n (begun size))
  holds_after k = (ran-begun m c n k).holds

  module _ (s : Search) (h : Holds (reversed m) n size s) where
    pub put-room : length s.entries ≤ most_taken m n
    put-room = omega (arith, trails-few m c n s h, h.mirrors.size)

    pub entry-node : (i : ℕ) → i < length s.entries → (v : ℕ) (k : Tropical) → (get_or s.entries i first).entry ≡ half v k → v < size
    entry-node i p v k e =
        let t = at h.trails i in
        node_in m c n t (entry-made m c n s h i p) v (half-site (site t) (cost t) v k (sym e ∙ (h.mirrors.told i).entry)).0

-- ---- with weights and nodes within their limits
module _ (m : Machine) (c : Climbs m) (b : Small weight_limit m) (few : length m.finals ≤ node_limit) where
  pub total-within : Within sum_limit (total m)
  total-within = subst (Within sum_limit) (sym (total-is m)) (plus_all-within sum_limit (map (reading_cost m) (readings m)) each)
    where
      each : (a : Tropical) → a ∈ map (reading_cost m) (readings m) → Within sum_limit a
      each a h = let x = mem-map (reading_cost m) (readings m) h in subst (Within sum_limit) (sym x.2) (reading-limit m c weight_limit b node_limit limits few x.0 ((readings-are m c x.0).0 x.1))

  pub togo-within : (q : ℕ) → q < suc (length m.finals) → Within sum_limit (as_weight (distance_to m q))
  togo-within zero h = subst (Within sum_limit) (sym (weight-of (total m))) total-within
  togo-within (suc v) h = subst (Within sum_limit) (sym (weight-of (dist m v))) (dist-limit m c weight_limit b node_limit limits few v (omega arith))

  -- a cost, and its rank where so much is ahead
  abbrev Both : Tropical → Tropical → Type 0
  Both d k = Within sum_limit k × Within sum_limit (d ⊗ k)

  pub trail-within : (t : Trail) → Made (reversed m) t → Within sum_limit (cost t) × Within sum_limit (rank_of (reversed m) t)
  trail-within t h = go (site t) refl
    where
      ended : site t ≡ none → (a : Tropical) → cost t ≡ a → Within sum_limit a
      ended e inf q = tt
      ended e (fin k) q = subst (Within sum_limit) (trail-cost m t h e ∙ q) (reading-limit m c weight_limit b node_limit limits few (reading_of m (inputs t)) (trail-reads m t h e (ap is_finite q)))

      go : (o : Option ℕ) → site t ≡ o → Both (ahead (reversed m) o) (cost t)
      go none e =
          let w = ended e (cost t) refl in
          (w, subst (Within sum_limit) (sym (one-⊗ (cost t))) w)
      go (some zero) e = subst (λ d. Both d (cost t)) (sym (weight-of (total m))) (subst (Both (total m)) (sym (ap cost (unmoved m t h e))) (within-one sum_limit, subst (Within sum_limit) (sym (⊗-one (total m))) total-within))
      go (some (suc u)) e =
          let y = half_is m t h u e in
          let v = end_from m u (inputs t) in
          subst (λ d. Both d (cost t)) (sym (weight-of (dist m u))) (subst (Both (dist m u)) (sym (half-sum m u t y))
          (rest-limit m c weight_limit b node_limit limits few (inputs t) u v y.weight y.runs y.marked, rank-limit m c weight_limit b node_limit limits few (inputs t) u v y.weight y.runs y.marked))

  pub entry-within : (n : ℕ) (s : Search) → Holds (reversed m) n (suc (length m.finals)) s → (i : ℕ) → i < length s.entries
      → Within sum_limit (cost_of (get_or s.entries i first).entry) × Within sum_limit (rank (reversed m) (get_or s.entries i first).entry)
  entry-within n s h i p =
      let t = at h.trails i in
      let e = (h.mirrors.told i).entry in
      let w = trail-within t (entry-made m c n s h i p) in
      (subst (Within sum_limit) (sym (ap cost_of e ∙ entry-cost t)) w.0, subst (Within sum_limit) (sym (ap (rank (reversed m)) e ∙ rank_is (reversed m) t)) w.1)
