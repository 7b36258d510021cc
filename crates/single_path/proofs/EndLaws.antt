-- The best end found by the code is the machine's: one pass with a strict test keeps the lowest node that attains the least total. Assumes nothing.
use mathlib.Core.Path.{◌≡◌, refl, sym, ap, ◌∙◌}
use mathlib.Core.Bool.{Bool, true, false, cond}
use mathlib.Core.Option.{Option, none, some}
use mathlib.Core.List.{List}
use Prim.Native.Nat.{ℕ, zero, suc, ◌≤◌, ◌<◌}
use native.Mathlib.Omega.{arith}
use lib.Dec.{eqb}
use borrow.Author.Tests.{eqb-true, eqb-false}
use lib.ListN.{length}
use lib.Ieee.{binary32, add, lt}
use Rattle.tropical_weight.specs.Limits.{weight_limit, node_limit, sum_limit}
use Rattle.tropical_weight.specs.Tropical.{Tropical, lt_t, ◌⊗◌, Within}
use Rattle.tropical_weight.specs.Grid.{of_t}
use Rattle.tropical_weight.proofs.Exact.{times-of_t, lt-of_t}
use Rattle.tropical_weight.proofs.Semiring.{⊗-zero}
use Rattle.tropical_weight.proofs.Sums.{within-mono, limits}
use Rattle.sheet.specs.Below.{list_below}
use Rattle.sheet.specs.Records.{mark_at, final_at}
use Rattle.sheet.specs.Machine.{Machine, unit_in, weight_of}
use Rattle.sheet.proofs.Forms.{covered}
use Rattle.machine.specs.Readings.{final_weight}
use Rattle.machine.specs.Distance.{plus_all, dist, distance, total_at}
use Rattle.machine.specs.Parents.{lowest, best_end}
use Rattle.machine.proofs.Fold.{least, chosen, least-suc, chosen-suc, end-chosen}
use Rattle.machine.proofs.Bounds.{dist-limit, total-limit, least-limit}
use Rattle.machine.proofs.SheetFields.{SheetFields, marked-final, unmarked-final}
use Rattle.distance.specs.Held.{held, weight_in}
use Rattle.distance.proofs.Offers.{weight-dist}
use Rattle.shortest_distance.specs.NodeSlots.{distance_at}
use Rattle.std.specs.Prelude as Core
use Rattle.single_path.specs.SingleWords.{total_by, total_value, Best, best_below}

-- the end at a node, or none
abbrev pub end_at : Option ℕ → Core.Option ℕ
end_at none = Core.None
end_at (some v) = Core.Some v

module _ (bytes : List ℕ) (m : Machine) (f : SheetFields bytes (length m.links) (length m.finals) m) (work : List ℕ) (distances : (v : ℕ) → v < length m.finals → distance_at work v ≡ held (unit_in m) (distance m v)) where
  abbrev links : ℕ
  links = length m.links

  -- the unit is 1 / 2 ^ j
  abbrev j : ℕ
  j = unit_in m

  -- ---- totals
  total-in : (v : ℕ) → v < length m.finals → Within sum_limit (total_at m v)
  total-in v h = total-limit m f.climbs weight_limit f.small node_limit limits f.few-nodes v h

  total-is : (v : ℕ) → v < length m.finals → total_value bytes links work v ≡ of_t j (total_at m v)
  total-is v h = go (eqb (mark_at bytes links v) 0) refl
    where
      weight : weight_in (distance_at work v) ≡ of_t j (dist m v)
      weight = ap weight_in (distances v h) ∙ weight-dist m v

      go : (b : Bool) → eqb (mark_at bytes links v) 0 ≡ b → total_by (distance_at work v) (cond b Core.None (Core.Some (final_at bytes links v))) ≡ of_t j (total_at m v)
      go true e =
          let z = eqb-true (mark_at bytes links v) 0 e in
          sym (ap (of_t j) (ap (λ o. dist m v ⊗ final_weight o) (unmarked-final f v h (λ y. omega (arith, z, y))) ∙ ⊗-zero (dist m v)))
      go false e =
          let n = eqb-false (mark_at bytes links v) 0 e in
          let final-is = marked-final f v h n in
          let lim = dist-limit m f.climbs weight_limit f.small node_limit limits f.few-nodes v h in
          let w = weight_of j (final_at bytes links v) in
          let wide : Within sum_limit w = within-mono weight_limit sum_limit w (let z : weight_limit ≤ sum_limit = omega arith in z) (f.small.on_final v w final-is) in
          (λ i. add binary32 (weight i) (f.final_value v h n i)) ∙ times-of_t j (covered m.form) (dist m v) w lim wide ∙ ap (λ o. of_t j (dist m v ⊗ final_weight o)) (sym final-is)

  -- ---- the pass: of the first n nodes, what is found is what is chosen among their totals
  abbrev found : Option ℕ → Tropical → Best
  found o t = record { end = end_at o; least = of_t j t }

  pass : (n : ℕ) → n ≤ length m.finals → best_below bytes links work n ≡ found (chosen (total_at m) n) (least (total_at m) n)
  unfolding best_below lowest list_below plus_all
  pass zero h = refl
  pass (suc n) h =
      let before = pass n (omega arith) in
      (λ i. cond (lt (total-is n h i) (before i).least) (record { end = Core.Some n; least = total-is n h i }) (before i))
      ∙ ap (λ (b : Bool). cond b (found (some n) (total_at m n)) (found (chosen (total_at m) n) (least (total_at m) n))) test
      ∙ by-test (lt_t (total_at m n) (least (total_at m) n))
      ∙ sym (λ i. found (chosen-suc (total_at m) n i) (least-suc (total_at m) n i))
    where
      test : lt (of_t j (total_at m n)) (of_t j (least (total_at m) n)) ≡ lt_t (total_at m n) (least (total_at m) n)
      test = lt-of_t j (covered m.form) (total_at m n) (least (total_at m) n) (total-in n h) (least-limit m f.climbs weight_limit f.small node_limit limits f.few-nodes n (omega arith))

      by-test : (b : Bool) → cond b (found (some n) (total_at m n)) (found (chosen (total_at m) n) (least (total_at m) n)) ≡ found (cond b (some n) (chosen (total_at m) n)) (cond b (total_at m n) (least (total_at m) n))
      by-test true = refl
      by-test false = refl

  -- the end that the code finds
  pub end_is : (best_below bytes (length m.links) work (length m.finals)).end ≡ end_at (best_end m)
  end_is = ap (λ (b : Best). b.end) (pass (length m.finals) (omega arith)) ∙ ap end_at (sym (end-chosen m).1)
