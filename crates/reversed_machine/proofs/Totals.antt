-- The least total over the slots' distances is that of the machine. Assumes nothing.
use mathlib.Core.Path.{◌≡◌, refl, sym, ap, ◌∙◌, subst}
use mathlib.Core.Bool.{Bool, true, false, cond}
use mathlib.Core.Option.{none, some}
use mathlib.Core.List.{List}
use Prim.Native.Nat.{ℕ, zero, suc, ◌+◌, ◌*◌, ◌≤◌, ◌<◌}
use native.Mathlib.Omega.{arith}
use native.Mathlib.Nat.{le_refl}
use lib.Dec.{eqb}
use lib.ListN.{length}
use lib.Ieee.{binary32, add, of_bits}
use borrow.Author.Tests.{eqb-false}
use Rattle.tropical_weight.specs.Limits.{weight_limit, node_limit, sum_limit}
use Rattle.tropical_weight.specs.Tropical.{inf, ◌⊕◌, ◌⊗◌, Within}
use Rattle.tropical_weight.specs.Grid.{of_t}
use Rattle.tropical_weight.specs.Single.{lesser}
use Rattle.tropical_weight.proofs.Semiring.{⊕-comm, zero-⊕, ⊗-zero}
use Rattle.tropical_weight.proofs.Exact.{times-of_t, lesser-of_t}
use Rattle.tropical_weight.proofs.Sums.{within-mono, limits}
use Rattle.sheet.specs.Below.{list_below}
use Rattle.sheet.specs.Machine.{Machine, unit_in, weight_of}
use Rattle.sheet.proofs.Forms.{covered}
use Rattle.machine.specs.Readings.{final, final_weight}
use Rattle.machine.specs.Climbs.{Climbs, Small}
use Rattle.machine.specs.Distance.{plus_all, dist, distance, total_at, total}
use Rattle.machine.proofs.Sums.{plus_all-next}
use Rattle.machine.proofs.Bounds.{dist-limit, total-limit, least-limit}
use Rattle.slots.specs.Slots.{slot_length}
use Rattle.distance.specs.Held.{held, weight_in, distance_from, distance_in}
use Rattle.distance.proofs.Offers.{weight-dist, from-held}
use Rattle.sheet.specs.Records.{mark_at, final_at}
use Rattle.search.specs.Reversed.{distance_to}
use Rattle.reversed_machine.specs.ReverseWords.{total_with, least_total, least_distance}
use Rattle.machine.proofs.SheetFields.{SheetFields}
use Rattle.slots.specs.Slots.{slot_length}

module _ (m : Machine) (climbs : Climbs m) (small : Small weight_limit m) (few : length m.finals ≤ node_limit) where
  module _ (bytes : List ℕ) (T N : ℕ) (s : SheetFields bytes T N m) (nodes : ℕ) (part : List ℕ) (measured : (v : ℕ) → v < N → distance_in part (nodes + slot_length * (v + 1)) ≡ held (unit_in m) (distance m v)) where
    -- what the slot of a node adds to a sum
    added : (v : ℕ) → v < N → weight_in (distance_in part (nodes + slot_length * (v + 1))) ≡ of_t (unit_in m) (dist m v)
    added v h = ap weight_in (measured v h) ∙ weight-dist m v

    least_at : (n : ℕ) → n ≤ N → least_total bytes nodes T n part ≡ of_t (unit_in m) (plus_all (list_below n (total_at m)))
    unfolding least_total list_below plus_all
    least_at zero h = refl
    least_at (suc v) h =
        let x = plus_all (list_below v (total_at m)) in
        ap (total_with bytes nodes T v part) (least_at v (omega arith))
        ∙ by-mark (eqb (mark_at bytes T v) 0) refl
        ∙ ap (of_t (unit_in m)) (sym (plus_all-next v (total_at m)))
      where
        inside : v < length m.finals
        inside = subst (λ (n : ℕ). v < n) (sym s.nodes-are) h

        by-mark : (b : Bool) → eqb (mark_at bytes T v) 0 ≡ b → total_with bytes nodes T v part (of_t (unit_in m) (plus_all (list_below v (total_at m)))) ≡ of_t (unit_in m) (plus_all (list_below v (total_at m)) ⊕ total_at m v)
        by-mark true e =
            let x = plus_all (list_below v (total_at m)) in
            let o : final m v ≡ none = s.final-at v h ∙ ap (λ (t : Bool). cond t none (some (weight_of (unit_in m) (final_at bytes T v)))) e in
            let nought : total_at m v ≡ inf = ap (λ o. dist m v ⊗ final_weight o) o ∙ ⊗-zero (dist m v) in
            ap (λ (t : Bool). cond t (of_t (unit_in m) x) (lesser (of_t (unit_in m) x) (add binary32 (weight_in (distance_in part (nodes + slot_length * (v + 1)))) (of_bits binary32 (final_at bytes T v))))) e
            ∙ ap (of_t (unit_in m)) (sym (ap (λ y. x ⊕ y) nought ∙ ⊕-comm x inf ∙ zero-⊕ x))
        by-mark false e =
            let x = plus_all (list_below v (total_at m)) in
            let w = weight_of (unit_in m) (final_at bytes T v) in
            let o : final m v ≡ some w = s.final-at v h ∙ ap (λ (t : Bool). cond t none (some w)) e in
            let whole : total_at m v ≡ dist m v ⊗ w = ap (λ o. dist m v ⊗ final_weight o) o in
            let d-limit = dist-limit m climbs weight_limit small node_limit limits few v inside in
            let w-limit = within-mono weight_limit sum_limit w (let z : weight_limit ≤ sum_limit = omega arith in z) (small.on_final v w o) in
            ap (λ (t : Bool). cond t (of_t (unit_in m) x) (lesser (of_t (unit_in m) x) (add binary32 (weight_in (distance_in part (nodes + slot_length * (v + 1)))) (of_bits binary32 (final_at bytes T v))))) e
            ∙ (λ i. lesser (of_t (unit_in m) x) (add binary32 (added v h i) (s.final_value v h (eqb-false (mark_at bytes T v) 0 e) i)))
            ∙ ap (lesser (of_t (unit_in m) x)) (times-of_t (unit_in m) (covered m.form) (dist m v) w d-limit w-limit)
            ∙ lesser-of_t (unit_in m) (covered m.form) x (dist m v ⊗ w) (least-limit m climbs weight_limit small node_limit limits few v (omega (arith, inside))) (subst (Within sum_limit) whole (total-limit m climbs weight_limit small node_limit limits few v inside))
            ∙ ap (λ y. of_t (unit_in m) (x ⊕ y)) (sym whole)

    least-exact : least_total bytes nodes T N part ≡ of_t (unit_in m) (total m)
    unfolding total
    least-exact = least_at N (le_refl N) ∙ ap (λ (n : ℕ). of_t (unit_in m) (plus_all (list_below n (total_at m)))) (sym s.nodes-are)

    -- it is reached where it is finite
    pub least-held : least_distance bytes nodes T N part ≡ held (unit_in m) (distance_to m 0)
    unfolding total
    least-held = ap distance_from least-exact ∙ from-held (unit_in m) (covered m.form) (total m) (least-limit m climbs weight_limit small node_limit limits few (length m.finals) (le_refl (length m.finals)))
