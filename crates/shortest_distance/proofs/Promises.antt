-- Demand 2 follows from the equations of the call for distances. Assumes nothing.
use mathlib.Core.Path.{◌≡◌, refl, sym, ap, ◌∙◌, subst}
use mathlib.Core.Logic.{◌⊎◌, inl, inr}
use mathlib.Core.Bool.{Bool, true, false, cond}
use mathlib.Core.Option.{some}
use mathlib.Core.List.{List, [], ◌∷◌, ◌++◌, flat_map}
use Prim.Native.Nat.{ℕ, suc, ◌+◌, ◌*◌, ◌<◌}
use native.Mathlib.Decide.{ℕ_discrete}
use native.Mathlib.Omega.{arith}
use lib.Dec.{eqb}
use lib.IntN.{ℤ}
use lib.ListN.{length, drop, get_or}
use borrow.Author.Tests.{eqb-true}
use Rattle.tropical_weight.specs.Tropical.{Tropical, fin, inf, ◌≼◌}
use Rattle.sheet.specs.Words.{word, bytes_of_all}
use Rattle.sheet.specs.Sheet.{parts_of}
use Rattle.sheet.specs.Machine.{Machine, unit_in, machine}
use Rattle.sheet.proofs.Apart.{or-either, or_left, or_right}
use Rattle.sheet.proofs.Below.{get_or-list_below, length-list_below}
use Rattle.sheet.proofs.Forms.{covered}
use Rattle.machine.specs.Readings.{link, IsRun, run_cost}
use Rattle.machine.specs.Climbs.{Climbs}
use Rattle.machine.specs.Distance.{Distance, unreached, distance_of, dist, distance, distances, height, is_reached, is_led_to, is_counted}
use Rattle.machine.specs.Input.{input_number}
use Rattle.machine.proofs.Runs.{FromStart}
use Rattle.machine.proofs.Distance.{infinite, dist-le, dist-attained}
use Rattle.machine.proofs.Reached.{led-by, leads, height-above, height-attained, reached-run, reached-finite}
use Rattle.machine.proofs.Accepted.{passes, climbs-machine, start-inside}
use Rattle.distance.specs.Written.{written}
use Rattle.distance.proofs.Written.{value-at}
use Rattle.std.specs.Prelude.{Result}
use Rattle.sheet.specs.declared.refusal.Refusal.{Refusal}
use Rattle.sheet.specs.Refusals.{answer_by}
use Rattle.shortest_distance.specs.Outcome.{answer_of, distance_number, distance_answer, result_after}
use Rattle.shortest_distance.specs.Promise.{RunTo, LedTo, ReachedAt, UnreachedAt, Least, Promised}
use Rattle.shortest_distance.proofs.Outcomes.{number-input}

-- ---- of a machine that climbs, with a start that is a node
module _ (m : Machine) (c : Climbs m) (start-in : (s : ℕ) → m.start ≡ some s → s < length m.finals) where
  abbrev run-to : (v : ℕ) → ((r : List ℕ) × FromStart m r v × ((k : ℤ) × (run_cost m r ≡ fin k))) → RunTo m v
  run-to v x = record { start = x.1.0; run = x.0; starts = x.1.1; runs = x.1.2; costs = x.2.0; finite = x.2.1 }

  reached-by : (v : ℕ) → RunTo m v → is_reached m v ≡ true
  reached-by v x = (reached-run m c v).1 (x.run, (x.start, x.starts, x.runs), (x.costs, x.finite))

  -- a run or a link leads to the counted nodes, and to no others
  counted-by : (v : ℕ) → RunTo m v ⊎ LedTo m v → is_counted m v ≡ true
  counted-by v (inl x) = or_left (is_reached m v) (is_led_to m (length m.links) v) (reached-by v x)
  counted-by v (inr x) =
      let led = leads m (length m.links) x.by x.exists (reached-by (link m x.by).source x.from) in
      or_right (is_reached m v) (is_led_to m (length m.links) v) (ap (is_led_to m (length m.links)) (sym x.leads) ∙ led)

  by-counted : (v : ℕ) → is_counted m v ≡ true → RunTo m v ⊎ LedTo m v
  by-counted v e = elim (or-either (is_reached m v) (is_led_to m (length m.links) v) e) [
    | inl r ↦ inl (run-to v ((reached-run m c v).0 r))
    | inr l ↦
        let x = led-by m (length m.links) v l in
        inr (record { by = x.0; exists = x.1; leads = x.2; from = run-to (link m x.0).source ((reached-run m c (link m x.0).source).0 x.3) })
  ]

  -- these lie among the nodes
  run_ends : (r : List ℕ) (u v : ℕ) → u < length m.finals → IsRun m u r v → v < length m.finals
  run_ends [] u v b h = subst (λ (k : ℕ). k < length m.finals) h b
  run_ends (l ∷ r) u v b h = run_ends r (link m l).next v (c.inside l h.0) h.2

  node_in : (v : ℕ) → RunTo m v ⊎ LedTo m v → v < length m.finals
  node_in v (inl x) = run_ends x.run x.start v (start-in x.start x.starts) x.runs
  node_in v (inr x) = subst (λ (u : ℕ). u < length m.finals) x.leads (c.inside x.by x.exists)

  -- the words of its distance tell which of the two a node is
  told : (result : List ℕ) (v : ℕ) (d : Tropical) → dist m v ≡ d → word result (8 * v) ≡ get_or (written (unit_in m) (distance_of d)) 0 0 → word result (8 * v + 4) ≡ get_or (written (unit_in m) (distance_of d)) 1 0
      → ReachedAt m result v ⊎ UnreachedAt m result v
  told result v (fin k) e p q =
      let a = dist-attained m c v k e in
      let below : (x : RunTo m v) → fin k ≼ run_cost m x.run = λ x. subst (λ (d : Tropical). d ≼ run_cost m x.run) e (dist-le m c x.run v (x.start, x.starts, x.runs)) in
      inl (record { cost = k; mark = p; bits = q; least = record { below = below; run = run-to v (a.0, a.1, (k, a.2)); attained = a.2 } })
  told result v inf e p q = inr (record { mark = p; bits = q; none = λ x. infinite e (reached-finite m v (reached-by v x)).1 })

  count-is : length (distances m) ≡ height m
  unfolding distances
  count-is = length-list_below (height m) (distance m)

  value-is : (v : ℕ) → v < height m → get_or (distances m) v unreached ≡ distance m v
  unfolding distances
  value-is v h = get_or-list_below (height m) (distance m) v unreached h

  top : (v : ℕ) → height m ≡ suc v → RunTo m v ⊎ LedTo m v
  top v e = go (height-attained m (length m.finals))
    where
      go : (height m ≡ 0) ⊎ ((u : ℕ) × (u < length m.finals) × (is_counted m u ≡ true) × (height m ≡ suc u)) → RunTo m v ⊎ LedTo m v
      go (inl q) = absurd (omega (arith, e, q))
      go (inr x) =
          let same : x.0 ≡ v = omega (arith, e, x.3) in
          by-counted v (ap (is_counted m) (sym same) ∙ x.2)

  pub least : (rest : List ℕ) → Least m (length (distances m)) (bytes_of_all (flat_map (written (unit_in m)) (distances m)) ++ rest)
  least rest = record {
    values = λ v h.
        let result = bytes_of_all (flat_map (written (unit_in m)) (distances m)) ++ rest in
        let at : (i : ℕ) → i < 2 → word result (8 * v + 4 * i) ≡ get_or (written (unit_in m) (distance m v)) i 0 = λ i b. value-at (unit_in m) (covered m.form) (distances m) rest v i h b ∙ ap (λ (d : Distance). get_or (written (unit_in m) d) i 0) (value-is v (subst (λ (n : ℕ). v < n) count-is h)) in
        told result v (dist m v) refl (ap (word result) (let z : 8 * v ≡ 8 * v + 4 * 0 = omega arith in z) ∙ at 0 (omega arith)) (at 1 (omega arith));
    above = λ v x. subst (λ (n : ℕ). v < n) (sym count-is) (height-above m (length m.finals) v (node_in v x) (counted-by v x));
    highest = λ v e. top v (sym count-is ∙ e);
  }

-- ---- of the call, by its answer and the result area that it leaves
module _ (bytes : List ℕ) (words : ℕ) (result : List ℕ) where
  abbrev number : ℕ
  number = distance_number bytes words (length result)

  accepted : distance_number bytes words (length result) ≡ 0 → input_number bytes ≡ 0
  accepted e = elim (ℕ_discrete (input_number bytes) 0) [ yes q ↦ q | no n ↦ sym (number-input bytes words (length result) n) ∙ e ]

  promised : Promised bytes (distance_answer bytes words (length result)) (result_after bytes words result)
  promised = go (eqb number 0) refl
    where
      go : (b : Bool) → eqb number 0 ≡ b → Promised bytes (answer_by b (length (distances (machine bytes))) number) (cond b (answer_of bytes ++ drop (length (answer_of bytes)) result) result)
      go true e =
          let t = passes bytes (accepted (eqb-true number 0 e)) in
          least (machine bytes) (climbs-machine (parts_of bytes) t) (start-inside (parts_of bytes) t) (drop (length (answer_of bytes)) result)
      go false e = tt

  pub promised-by : (answer : Result ℕ Refusal) (after : List ℕ) → answer ≡ distance_answer bytes words (length result) → after ≡ result_after bytes words result → Promised bytes answer after
  promised-by answer after a r = subst (λ (x : Result ℕ Refusal). Promised bytes x after) (sym a) (subst (λ (x : List ℕ). Promised bytes (distance_answer bytes words (length result)) x) (sym r) promised)
