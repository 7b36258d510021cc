-- The finished trails of the reversed machine are the runs from the start to marks, each once, at their costs; those of finite cost are the readings. Assumes nothing.
use mathlib.Core.Path.{◌≡◌, refl, sym, ap, ap₂, ◌∙◌, subst}
use mathlib.Core.Bool.{true}
use mathlib.Core.Option.{none, some, some-injective}
use mathlib.Core.List.{List, [], ◌∷◌}
use Prim.Native.Nat.{ℕ, zero, suc}
use native.Mathlib.Omega.{arith}
use Rattle.tropical_weight.specs.Tropical.{Tropical, ◌⊗◌}
use Rattle.tropical_weight.proofs.Semiring.{is_finite, is-finite, ⊗-comm, ⊗-assoc, ⊗-one}
use Rattle.sheet.specs.Machine.{Machine}
use Rattle.machine.specs.Readings.{link, final, final_weight, node_or, IsRun, run_cost, Reading, IsReading, end_from, reading_of, reading_cost}
use Rattle.machine.specs.Demand.{◌∈◌}
use Rattle.machine.proofs.Readings.{Way, reading-is}
use Rattle.machine.proofs.Runs.{at_some, some_at}
use Rattle.search.specs.Reversed.{Back, out_of, is_end, reversed}
use Rattle.search.proofs.Trails.{back, stop, Trail, site, cost, inputs, moves, Made, back_from, stop-from, out-moves, end-moves}
use Rattle.search.proofs.Backwards.{to_final, against, out-final, final-out, out-link, link-out, leads-up}

module _ (m : Machine) where
  -- ---- the trail of a run
  -- the half-built trail that has come back to u along a run from u to a final node
  abbrev half_of : ℕ → List ℕ → Trail
  half_of u [] = back (to_final u (final_weight (final m u))) ∷ []
  half_of u (l ∷ r) = back (against l (link m l)) ∷ half_of (link m l).next r

  -- the finished trail of a run from the start
  abbrev whole_of : List ℕ → Trail
  whole_of r = stop ∷ half_of (node_or m.start) r

  half-inputs : (u : ℕ) (r : List ℕ) → inputs (half_of u r) ≡ r
  half-inputs u [] = refl
  half-inputs u (l ∷ r) = ap (λ k. l ∷ k) (half-inputs (link m l).next r)

  half-cost : (u : ℕ) (r : List ℕ) → cost (half_of u r) ≡ run_cost m r ⊗ final_weight (final m (end_from m u r))
  unfolding run_cost
  half-cost u [] = refl
  half-cost u (l ∷ r) =
      let v = (link m l).next in
      let w = (link m l).weight in
      ap (λ a. a ⊗ w) (half-cost v r) ∙ ⊗-comm (run_cost m r ⊗ final_weight (final m (end_from m v r))) w ∙ sym (⊗-assoc w (run_cost m r) (final_weight (final m (end_from m v r))))

  half-made : (r : List ℕ) (u v : ℕ) (w : Tropical) → IsRun m u r v → final m v ≡ some w → Made (reversed m) (half_of u r) × (site (half_of u r) ≡ some (suc u))
  half-made [] u v w h e = ((out-moves (reversed m) 0 (final-out m u (final_weight (final m u)) marked), tt), refl)
    where
      marked : final m u ≡ some (final_weight (final m u))
      marked = let q : final m u ≡ some w = ap (final m) h ∙ e in q ∙ ap (λ o. some (final_weight o)) (sym q)
  half-made (l ∷ r) u v w h e =
      let x = half-made r (link m l).next v w h.2 e in
      ((subst (λ s. back (against l (link m l)) ∈ moves (reversed m) s) (sym x.1) (out-moves (reversed m) (suc (link m l).next) (link-out m l h.0)), x.0), ap (λ k. some (suc k)) h.1)

  -- ---- and no other is made
  pub record Half (u : ℕ) (t : Trail) : Type 0 where
    pub weight : Tropical
    pub is : t ≡ half_of u (inputs t)
    pub runs : IsRun m u (inputs t) (end_from m u (inputs t))
    pub marked : final m (end_from m u (inputs t)) ≡ some weight

  -- nothing has come back to node 0
  pub unmoved : (t : Trail) → Made (reversed m) t → site t ≡ some 0 → t ≡ []
  unmoved [] q e = refl
  unmoved (stop ∷ t) q e = let z : ◌≡◌ {A = ℕ} 0 1 = cc in absurd (omega arith)
  unmoved (back b ∷ t) q e =
      let x = back_from (reversed m) (site t) b q.0 in
      absurd (omega (arith, leads-up m x.0 b x.2, some-injective b.next 0 e))

  from_zero : (u : ℕ) (b : Back) → b ∈ out_of m 0 → b.next ≡ suc u → Half u (back b ∷ [])
  from_zero u b h e =
      let x = out-final m b h in
      let f : x.0 ≡ u = omega (arith, ap (λ (y : Back). y.next) x.3) in
      let marked : final m u ≡ some x.1 = ap (final m) (sym f) ∙ x.2 in
      let is : b ≡ to_final u (final_weight (final m u)) = x.3 ∙ ap₂ to_final f (ap final_weight (sym marked)) in
      subst (λ y. Half u (back y ∷ [])) (sym is) (record { weight = x.1; is = refl; runs = refl; marked = marked })

  from-link : (u v : ℕ) (b : Back) (t : Trail) → b ∈ out_of m (suc v) → b.next ≡ suc u → Half v t → Half u (back b ∷ t)
  from-link u v b t h e y =
      let x = out-link m v b h in
      let l = x.0 in
      let f : (link m l).source ≡ u = omega (arith, ap (λ (y : Back). y.next) x.3) in
      let z : Half (link m l).next t = subst (λ k. Half k t) (sym x.2) y in
      subst (λ k. Half u (back k ∷ t)) (sym x.3) (record { weight = z.weight; is = ap (λ s. back (against l (link m l)) ∷ s) z.is; runs = (x.1, f, z.runs); marked = z.marked })

  pub half_is : (t : Trail) → Made (reversed m) t → (u : ℕ) → site t ≡ some (suc u) → Half u t
  half_is [] q u e = let z : ◌≡◌ {A = ℕ} 0 1 = cc in absurd (omega arith)
  half_is (stop ∷ t) q u e = let z : ◌≡◌ {A = ℕ} 0 1 = cc in absurd (omega arith)
  half_is (back b ∷ t) q u e = let x = back_from (reversed m) (site t) b q.0 in go x.0 x.1 x.2 (half_is t q.1)
    where
      to : b.next ≡ suc u
      to = some-injective b.next (suc u) e

      go : (v : ℕ) → site t ≡ some v → b ∈ out_of m v → ((k : ℕ) → site t ≡ some (suc k) → Half k t) → Half u (back b ∷ t)
      go zero s h ih = subst (λ y. Half u (back b ∷ y)) (sym (unmoved t q.1 s)) (from_zero u b h to)
      go (suc v) s h ih = from-link u v b t h to (ih v s)

  -- and it costs the run and the final weight
  pub half-sum : (u : ℕ) (t : Trail) → Half u t → cost t ≡ run_cost m (inputs t) ⊗ final_weight (final m (end_from m u (inputs t)))
  half-sum u t y = ap cost y.is ∙ half-cost u (inputs t)

  whole : (t : Trail) → Made (reversed m) t → site t ≡ none → (t ≡ whole_of (inputs t)) × Way m (reading_of m (inputs t))
  whole [] q o = let z : ◌≡◌ {A = ℕ} 0 1 = cc in absurd (omega arith)
  whole (back b ∷ t) q o = let z : ◌≡◌ {A = ℕ} 0 1 = cc in absurd (omega arith)
  whole (stop ∷ t) q o = let x = stop-from (reversed m) (site t) q.0 in go x.0 x.1 x.2
    where
      go : (v : ℕ) → site t ≡ some v → is_end m v ≡ true → (stop ∷ t ≡ whole_of (inputs t)) × Way m (reading_of m (inputs t))
      go zero s e = let z : ◌≡◌ {A = ℕ} 0 1 = cc in absurd (omega arith)
      go (suc v) s e =
          let f : m.start ≡ some v = at_some m.start v e in
          let g : node_or m.start ≡ v = ap node_or f in
          let y : Half (node_or m.start) t = subst (λ k. Half k t) (sym g) (half_is t q.1 v s) in
          (ap (λ k. stop ∷ k) y.is, record { from = node_or m.start; weight = y.weight; starts = f ∙ ap some (sym g); runs = y.runs; marked = y.marked })

  -- ---- finished trails are ways, and those of finite cost are readings, each once
  pub trail-cost : (t : Trail) → Made (reversed m) t → site t ≡ none → reading_cost m (reading_of m (inputs t)) ≡ cost t
  trail-cost t q o = let x = whole t q o in let u = node_or m.start in sym (ap cost x.0 ∙ ⊗-one (cost (half_of u (inputs t))) ∙ half-cost u (inputs t))

  pub trail-reads : (t : Trail) → Made (reversed m) t → site t ≡ none → is_finite (cost t) ≡ true → IsReading m (reading_of m (inputs t))
  trail-reads t q o f =
      let x = (whole t q o).1 in
      let k = is-finite (cost t) f in
      record { from = x.from; weight = x.weight; starts = x.starts; runs = x.runs; marked = x.marked; costs = k.0; finite = trail-cost t q o ∙ k.1 }

  pub reading-made : (x : Reading) → IsReading m x → (t : Trail) × Made (reversed m) t × (site t ≡ none) × (reading_of m (inputs t) ≡ x)
  reading-made x i =
      let u = node_or m.start in
      let f : i.from ≡ u = ap node_or (sym i.starts) in
      let h : IsRun m u x.run x.end = subst (λ k. IsRun m k x.run x.end) f i.runs in
      let y = half-made x.run u x.end i.weight h i.marked in
      let s : is_end m (suc u) ≡ true = some_at m.start u (i.starts ∙ ap some f) in (
        whole_of x.run,
        (subst (λ k. stop ∈ moves (reversed m) k) (sym y.1) (end-moves (reversed m) (suc u) s), y.0),
        refl,
        ap (reading_of m) (half-inputs u x.run) ∙ reading-is m x i,
      )

  pub inputs-once : (t u : Trail) → Made (reversed m) t → Made (reversed m) u → site t ≡ none → site u ≡ none → inputs t ≡ inputs u → t ≡ u
  inputs-once t u p q a b e = (whole t p a).0 ∙ ap whole_of e ∙ sym (whole u q b).0
