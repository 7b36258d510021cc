-- The distance is the least cost of a run from the start, and the least total that of a reading. Assumes nothing.
use mathlib.Core.Path.{◌≡◌, refl, sym, ap, ap₂, ◌∙◌}
use mathlib.Core.Bool.{cond}
use mathlib.Core.Option.{Option, none, some}
use mathlib.Core.List.{List, [], ◌∷◌, ◌++◌, map, map-map}
use Prim.Native.Nat.{ℕ, zero, suc, ◌<◌}
use native.Mathlib.Omega.{arith}
use lib.IntN.{ℤ}
use lib.ListN.{length}
use Rattle.tropical_weight.specs.Tropical.{Tropical, fin, inf, one, ◌≼◌, ◌⊕◌, ◌⊗◌}
use Rattle.tropical_weight.proofs.Semiring.{is_finite, ≼_refl, ≼-eq, ≼_trans, ≼-antisym, ≼-inf, ≼-fin, ⊕-comm, zero-⊕, ⊗-zero}
use Rattle.sheet.specs.Below.{list_below}
use Rattle.sheet.specs.Machine.{Machine}
use Rattle.machine.specs.Readings.{link, final, final_weight, run_cost, ways_to, Reading, IsReading, reading_cost, ends_at, keep, readings, readings_below}
use Rattle.machine.specs.Climbs.{Climbs}
use Rattle.machine.specs.Distance.{plus_all, dist, via, total, total_at}
use Rattle.machine.proofs.Lists.{map-mem, mem-map, below-mem, map-append}
use Rattle.machine.proofs.Sums.{plus_all-le, plus_all-greatest, plus_all-in, plus_all-append, plus_all-⊗}
use Rattle.machine.proofs.Runs.{FromStart, run-snoc, cost-snoc, run_length, ways-are}
use Rattle.machine.proofs.Readings.{readings-are}

pub infinite : {a : Tropical} {k : ℤ} → a ≡ inf → a ≡ fin k → ⊥
infinite {a} {k} e h = let z : ◌≡◌ {A = ℕ} 0 1 = cc in omega arith

-- what is infinite adds nothing to ⊕
plus_all-finite : {A : Type 0} (f : A → Tropical) (l : List A) → plus_all (map f (keep (λ x. is_finite (f x)) l)) ≡ plus_all (map f l)
unfolding plus_all keep
plus_all-finite f [] = refl
plus_all-finite f (x ∷ l) = go (f x) refl (plus_all-finite f l)
  where
    go : (a : Tropical) → f x ≡ a → plus_all (map f (keep (λ x. is_finite (f x)) l)) ≡ plus_all (map f l)
        → plus_all (map f (cond (is_finite a) (x ∷ keep (λ x. is_finite (f x)) l) (keep (λ x. is_finite (f x)) l))) ≡ a ⊕ plus_all (map f l)
    go (fin k) e ih = ap₂ ◌⊕◌ e ih
    go inf e ih = ih ∙ sym (zero-⊕ (plus_all (map f l)))

module _ (m : Machine) where
  -- ---- the least total is ⊕ over the readings of their costs
  ending : (o : Option Tropical) (v : ℕ) (rs : List (List ℕ)) → final m v ≡ o → plus_all (map (reading_cost m) (ends_at o v rs)) ≡ plus_all (map (run_cost m) rs) ⊗ final_weight o
  unfolding plus_all
  ending none v rs e = sym (⊗-zero (plus_all (map (run_cost m) rs)))
  ending (some w) v rs e =
      ap plus_all (map-map (reading_cost m) (λ r. record { run = r; end = v }) rs ∙ ap (λ o. map (λ r. run_cost m r ⊗ final_weight o) rs) e ∙ sym (map-map (λ a. a ⊗ w) (run_cost m) rs)) ∙ plus_all-⊗ (map (run_cost m) rs) w

  totals : (n : ℕ) → plus_all (list_below n (total_at m)) ≡ plus_all (map (reading_cost m) (readings_below m n))
  unfolding plus_all list_below readings_below dist
  totals zero = refl
  totals (suc v) =
      let a = total_at m v in
      plus_all-append (list_below v (total_at m)) (a ∷ [])
      ∙ ap₂ ◌⊕◌ (totals v) (⊕-comm a inf ∙ zero-⊕ a ∙ sym (ending (final m v) v (ways_to m v) refl))
      ∙ sym (plus_all-append (map (reading_cost m) (readings_below m v)) (map (reading_cost m) (ends_at (final m v) v (ways_to m v))))
      ∙ ap plus_all (sym (map-append (reading_cost m) (readings_below m v) (ends_at (final m v) v (ways_to m v))))

  pub total-is : total m ≡ plus_all (map (reading_cost m) (readings m))
  unfolding total readings
  total-is = totals (length m.finals) ∙ sym (plus_all-finite (reading_cost m) (readings_below m (length m.finals)))

  -- and no more than that of the readings that end at a node
  pub total-below : (u : ℕ) → u < length m.finals → total m ≼ total_at m u
  unfolding total
  total-below u h = plus_all-le (list_below (length m.finals) (total_at m)) (below-mem (total_at m) (length m.finals) u h)

  module _ (c : Climbs m) where
    -- ---- the distance is the least cost of a run
    pub dist-le : (r : List ℕ) (v : ℕ) → FromStart m r v → dist m v ≼ run_cost m r
    unfolding dist
    dist-le r v x = plus_all-le (map (run_cost m) (ways_to m v)) (map-mem (run_cost m) ((ways-are m c v r).1 x))

    pub dist-greatest : (v : ℕ) (b : Tropical) → ((r : List ℕ) → FromStart m r v → b ≼ run_cost m r) → b ≼ dist m v
    unfolding dist
    dist-greatest v b f = plus_all-greatest (map (run_cost m) (ways_to m v)) b (λ a h. let x = mem-map (run_cost m) (ways_to m v) h in ≼_trans (f x.0 ((ways-are m c v x.0).0 x.1)) (≼-eq (sym x.2)))

    -- a finite one is that of a run
    pub dist-attained : (v : ℕ) (k : ℤ) → dist m v ≡ fin k → (r : List ℕ) × FromStart m r v × (run_cost m r ≡ fin k)
    unfolding dist
    dist-attained v k e = let x = mem-map (run_cost m) (ways_to m v) (plus_all-in (map (run_cost m) (ways_to m v)) k e) in (x.0, (ways-are m c v x.0).0 x.1, sym x.2)

    -- nothing but the empty run leads to the start
    pub dist-start : (s : ℕ) → m.start ≡ some s → dist m s ≡ one
    unfolding run_cost
    dist-start s e = ≼-antisym (dist-le [] s (s, e, refl)) (dist-greatest s one (λ r x. go r x))
      where
        go : (r : List ℕ) → FromStart m r s → one ≼ run_cost m r
        go [] x = ≼_refl one
        go (l ∷ r) x = let q : some x.0 ≡ some s = sym x.1 ∙ e in let z : x.0 ≡ s = cc in absurd (omega (arith, run_length m c (l ∷ r) x.0 s x.2))

    -- no link beats the distance
    pub dist-link : (l : ℕ) → l < length m.links → dist m (link m l).next ≼ via m l
    dist-link l b = go (dist m (link m l).source) refl
      where
        go : (d : Tropical) → dist m (link m l).source ≡ d → dist m (link m l).next ≼ d ⊗ (link m l).weight
        go inf e = ≼-inf (dist m (link m l).next)
        go (fin k) e =
            let x = dist-attained (link m l).source k e in
            let y = x.1 in
            ≼_trans (dist-le (x.0 ++ (l ∷ [])) (link m l).next (y.0, y.1, run-snoc m x.0 y.0 l y.2 b)) (≼-eq (cost-snoc m x.0 l ∙ ap (λ z. z ⊗ (link m l).weight) x.2))

    -- ---- the least total is the least cost of a reading
    pub total-le : (x : Reading) → IsReading m x → total m ≼ reading_cost m x
    total-le x i = ≼_trans (≼-eq total-is) (plus_all-le (map (reading_cost m) (readings m)) (map-mem (reading_cost m) ((readings-are m c x).1 i)))

    pub total-attained : (k : ℤ) → total m ≡ fin k → (x : Reading) × IsReading m x × (reading_cost m x ≡ fin k)
    total-attained k e = let x = mem-map (reading_cost m) (readings m) (plus_all-in (map (reading_cost m) (readings m)) k (sym total-is ∙ e)) in (x.0, (readings-are m c x.0).0 x.1, sym x.2)

    -- infinite where there is no reading, finite where there is one
    pub total-none : ((x : Reading) → IsReading m x → ⊥) → total m ≡ inf
    total-none f = go (total m) refl
      where
        go : (t : Tropical) → total m ≡ t → t ≡ inf
        go (fin k) e = let x = total-attained k e in absurd (f x.0 x.1)
        go inf e = refl

    pub total-some : (x : Reading) → IsReading m x → (k : ℤ) × (total m ≡ fin k)
    total-some x i = ≼-fin (total m) i.costs (≼_trans (total-le x i) (≼-eq i.finite))
