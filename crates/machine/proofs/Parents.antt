-- The reading that the parents give is one, and none costs less. Assumes nothing.
use mathlib.Core.Path.{◌≡◌, refl, sym, ap, ap₂, ◌∙◌, subst}
use mathlib.Core.Logic.{◌⊎◌, inl, inr}
use mathlib.Core.Bool.{Bool, true, false, ◌&&◌, cond}
use mathlib.Core.Option.{Option, none, some}
use mathlib.Core.List.{List, [], ◌∷◌, ◌++◌}
use Prim.Native.Nat.{ℕ, zero, suc, ◌≤◌, ◌<◌}
use native.Mathlib.Decide.{ℕ_discrete}
use native.Mathlib.Omega.{arith}
use lib.Dec.{eqb}
use lib.IntN.{ℤ}
use lib.ListN.{length}
use borrow.Author.Tests.{eqb-true, eq-eqb, ne_eqb}
use Rattle.tropical_weight.specs.Tropical.{Tropical, fin, inf, lt_t, eq_t, ◌≼◌, ◌⊗◌}
use Rattle.tropical_weight.proofs.Semiring.{is-finite, ≼-eq, ≼_trans, ≼-antisym, ⊗-zero, ⊗-mono-left, eq_t-eq, eq-eq_t}
use Rattle.sheet.specs.Below.{list_below}
use Rattle.sheet.specs.Machine.{Machine}
use Rattle.machine.specs.Readings.{link, final, final_weight, is_at, IsRun, run_cost, Reading, IsReading, reading_cost}
use Rattle.machine.specs.Climbs.{Climbs}
use Rattle.machine.specs.Distance.{dist, via, total, total_at}
use Rattle.machine.specs.Parents.{or_else, lowest, attains, parent, best_end, step_back, follow, followed, best}
use Rattle.sheet.proofs.Apart.{both, not-both}
use Rattle.machine.proofs.Lists.{mem_below}
use Rattle.machine.proofs.Sums.{plus_all-in}
use Rattle.machine.proofs.Runs.{FromStart, ends, run-snoc, run-last, cost-snoc, some_at}
use Rattle.machine.proofs.Distance.{infinite, dist-le, dist-attained, dist-start, dist-link, total-attained, total-some, total-none}
use Rattle.machine.proofs.Reached.{finite-reached, reached-above}

-- ---- the lowest number that passes a test
abbrev pub Lowest : ℕ → (ℕ → Bool) → Option ℕ → Type 0
Lowest n p none = (k : ℕ) → k < n → p k ≡ false
Lowest n p (some l) = (l < n) × (p l ≡ true) × ((k : ℕ) → k < l → p k ≡ false)

pub lowest-is : (n : ℕ) (p : ℕ → Bool) → Lowest n p (lowest n p)
unfolding lowest
lowest-is zero p = λ k h. absurd (omega arith)
lowest-is (suc n) p = go (lowest n p) (p n) refl (lowest-is n p)
  where
    go : (o : Option ℕ) (t : Bool) → p n ≡ t → Lowest n p o → Lowest (suc n) p (or_else o (cond t (some n) none))
    go (some l) t e x = (omega (arith, x.0), x.1, x.2)
    go none true e x = (omega arith, e, x)
    go none false e x = λ k h. elim (ℕ_discrete k n) [ yes q ↦ ap p q ∙ e | no q ↦ x k (omega (arith, q)) ]

-- one that passes makes the search succeed
pub lowest-found : (n : ℕ) (p : ℕ → Bool) (j : ℕ) → j < n → p j ≡ true → (l : ℕ) × (lowest n p ≡ some l) × Lowest n p (some l)
lowest-found n p j h e = go (lowest n p) refl (lowest-is n p)
  where
    go : (o : Option ℕ) → lowest n p ≡ o → Lowest n p o → (l : ℕ) × (lowest n p ≡ some l) × Lowest n p (some l)
    go none q x = absurd (not-both e (x j h))
    go (some l) q x = (l, q, x)

pub attains-eq : (a b : Tropical) → attains a b ≡ true → b ≡ a
attains-eq a b e = eq_t-eq b a (both (lt_t a inf) (eq_t b a) e).1

pub eq-attains : (a b : Tropical) (k : ℤ) → a ≡ fin k → b ≡ a → attains a b ≡ true
eq-attains a b k e q = ap₂ ◌&&◌ (ap (λ x. lt_t x inf) e) (eq-eq_t b a q)

inf-attains : (a b : Tropical) → a ≡ inf → attains a b ≡ false
inf-attains a b e = ap (λ x. lt_t x inf && eq_t b a) e

-- the terms of a finite sum are finite
pub term : (a b : Tropical) (k : ℤ) → a ⊗ b ≡ fin k → (j : ℤ) × (a ≡ fin j)
term (fin a) b k e = (a, refl)
term inf b k e = absurd (infinite refl e)

marked : (a : Tropical) (o : Option Tropical) (k : ℤ) → a ⊗ final_weight o ≡ fin k → (w : Tropical) × (o ≡ some w)
marked a none k e = absurd (infinite (⊗-zero a) e)
marked a (some w) k e = (w, refl)

module _ (m : Machine) where
  abbrev passes : ℕ → ℕ → Bool
  passes v l = eqb (link m l).next v && attains (dist m v) (via m l)

  passes-is : (v l : ℕ) → passes v l ≡ true → ((link m l).next ≡ v) × (via m l ≡ dist m v)
  passes-is v l e = let x = both (eqb (link m l).next v) (attains (dist m v) (via m l)) e in (eqb-true (link m l).next v x.0, attains-eq (dist m v) (via m l) x.1)

  is-passes : (v l : ℕ) (k : ℤ) → dist m v ≡ fin k → (link m l).next ≡ v → via m l ≡ dist m v → passes v l ≡ true
  is-passes v l k e p q = ap₂ ◌&&◌ (eq-eqb (link m l).next v p) (eq-attains (dist m v) (via m l) k e q)

  -- ---- a parent leads to its node and attains the distance, which no lower link does
  pub record Parent (v l : ℕ) : Type 0 where
    pub inside : l < length m.links
    pub into : (link m l).next ≡ v
    pub sum : via m l ≡ dist m v
    pub first : (j : ℕ) → j < l → (link m j).next ≡ v → via m j ≡ dist m v → ⊥

  -- where some link attains a finite distance there is a parent
  pub parent-found : (v : ℕ) (k : ℤ) → dist m v ≡ fin k → (j : ℕ) → j < length m.links → (link m j).next ≡ v → via m j ≡ dist m v → (l : ℕ) × (parent m v ≡ some l) × Parent v l
  unfolding parent
  parent-found v k e j h p q =
      let x = lowest-found (length m.links) (passes v) j h (is-passes v j k e p q) in
      let y = passes-is v x.0 x.2.1 in
      (x.0, x.1, record { inside = x.2.0; into = y.0; sum = y.1; first = λ i b f g. not-both (is-passes v i k e f g) (x.2.2 i b) })

  -- the parent is one, of a finite distance
  pub parent_is : (v l : ℕ) → parent m v ≡ some l → Parent v l × ((k : ℤ) × (dist m v ≡ fin k))
  unfolding parent
  parent_is v l e =
      let x = subst (Lowest (length m.links) (passes v)) e (lowest-is (length m.links) (passes v)) in
      let y = passes-is v l x.1 in
      let k = is-finite (dist m v) (both (lt_t (dist m v) inf) (eq_t (via m l) (dist m v)) (both (eqb (link m l).next v) (attains (dist m v) (via m l)) x.1).1).0 in
      (record { inside = x.0; into = y.0; sum = y.1; first = λ i b f g. not-both (is-passes v i k.0 k.1 f g) (x.2 i b) }, k)

  -- an unreached node has none
  pub parent-none : (v : ℕ) → dist m v ≡ inf → parent m v ≡ none
  parent-none v e = go (parent m v) refl
    where
      go : (o : Option ℕ) → parent m v ≡ o → o ≡ none
      go none q = refl
      go (some l) q = absurd (infinite e (parent_is v l q).1.1)

  -- ---- the end attains the least total, which no lower node does
  pub record End (v : ℕ) : Type 0 where
    pub inside : v < length m.finals
    pub sum : total_at m v ≡ total m
    pub first : (u : ℕ) → u < v → total_at m u ≡ total m → ⊥

  pub end-found : (k : ℤ) → total m ≡ fin k → (v : ℕ) × (best_end m ≡ some v) × End v
  unfolding best_end total
  end-found k e =
      let z = mem_below (total_at m) (length m.finals) (plus_all-in (list_below (length m.finals) (total_at m)) k e) in
      let x = lowest-found (length m.finals) (λ v. attains (total m) (total_at m v)) z.0 z.1 (eq-attains (total m) (total_at m z.0) k e (sym z.2 ∙ sym e)) in
      (x.0, x.1, record { inside = x.2.0; sum = attains-eq (total m) (total_at m x.0) x.2.1; first = λ u b q. not-both (eq-attains (total m) (total_at m u) k e q) (x.2.2 u b) })

  end_none : total m ≡ inf → best_end m ≡ none
  unfolding best_end
  end_none e = go (best_end m) refl (lowest-is (length m.finals) (λ v. attains (total m) (total_at m v)))
    where
      go : (o : Option ℕ) → best_end m ≡ o → Lowest (length m.finals) (λ v. attains (total m) (total_at m v)) o → o ≡ none
      go none q x = refl
      go (some v) q x = absurd (not-both x.1 (inf-attains (total m) (total_at m v) e))

  module _ (c : Climbs m) (s : ℕ) (st : m.start ≡ some s) where
    same_start : {u : ℕ} → m.start ≡ some u → u ≡ s
    same_start {u} e = let q : some u ≡ some s = sym e ∙ st in cc

    -- a finite distance, of a node other than the start, is attained by a link
    attained : (v : ℕ) (k : ℤ) → (v ≡ s → ⊥) → dist m v ≡ fin k → (l : ℕ) × (parent m v ≡ some l) × Parent v l
    attained v k n e = go (ends r)
      where
        x : (r : List ℕ) × FromStart m r v × (run_cost m r ≡ fin k)
        x = dist-attained m c v k e

        r : List ℕ
        r = x.0

        run : IsRun m x.1.0 r v
        run = x.1.2

        go : (r ≡ []) ⊎ ((q : List ℕ) × (l : ℕ) × (r ≡ q ++ (l ∷ []))) → (l : ℕ) × (parent m v ≡ some l) × Parent v l
        go (inl z) = absurd (n (sym (subst (λ r. IsRun m x.1.0 r v) z run) ∙ same_start x.1.1))
        go (inr z) =
            let l = z.1 in
            let y = run-last m z.0 x.1.0 l v (subst (λ r. IsRun m x.1.0 r v) z.2 run) in
            let up = ⊗-mono-left (link m l).weight (dist-le m c z.0 (link m l).source (x.1.0, x.1.1, y.0)) in
            let whole : run_cost m z.0 ⊗ (link m l).weight ≡ dist m v = sym (cost-snoc m z.0 l) ∙ ap (run_cost m) (sym z.2) ∙ x.2 ∙ sym e in
            parent-found v k e l y.1 y.2 (≼-antisym (≼_trans up (≼-eq whole)) (subst (λ u. dist m u ≼ via m l) y.2 (dist-link m c l y.1)))

    at-start : (v : ℕ) → v ≡ s → IsRun m s [] v × (run_cost m [] ≡ dist m v)
    unfolding run_cost
    at-start v e = (sym e, sym (ap (dist m) e ∙ dist-start m c s st))

    -- r is a run from the start to v that attains its distance
    abbrev pub Shortest : ℕ → List ℕ → Type 0
    Shortest v r = IsRun m s r v × (run_cost m r ≡ dist m v)

    -- following the parents gives one
    pub follows : (f v : ℕ) (k : ℤ) → v ≤ f → dist m v ≡ fin k → Shortest v (follow m f v)
    unfolding follow
    follows zero v k b e = at-start v (omega (arith, reached-above m c s v st (finite-reached m v k e)))
    follows (suc f) v k b e = go (ℕ_discrete v s) (λ u j h q. follows f u j h q)
      where
        go : Dec (v ≡ s) → ((u : ℕ) (j : ℤ) → u ≤ f → dist m u ≡ fin j → Shortest u (follow m f u))
            → Shortest v (cond (is_at m.start v) [] (step_back m (parent m v) (follow m f)))
        go (yes z) ih = subst (λ t. Shortest v (cond t [] (step_back m (parent m v) (follow m f)))) (sym (some_at m.start v (st ∙ ap some (sym z)))) (at-start v z)
        go (no z) ih =
            let a = attained v k z e in
            let l = a.0 in
            let p = a.2 in
            let u = (link m l).source in
            let t : is_at m.start v ≡ false = ap (λ x. is_at x v) st ∙ ne_eqb s v (λ w. z (sym w)) in
            let j = term (dist m u) (link m l).weight k (p.sum ∙ e) in
            let g = ih u j.0 (omega (arith, c.rises l p.inside, p.into)) j.1 in
            subst (Shortest v) (sym (ap₂ (λ t p. cond t [] (step_back m p (follow m f))) t a.1)) (
              subst (IsRun m s (follow m f u ++ (l ∷ []))) p.into (run-snoc m (follow m f u) s l g.0 p.inside),
              cost-snoc m (follow m f u) l ∙ ap (λ x. x ⊗ (link m l).weight) g.1 ∙ p.sum,
            )

  module _ (c : Climbs m) where
    -- ---- the best reading
    pub best-finite : (k : ℤ) → total m ≡ fin k → (x : Reading) × (best m ≡ some x) × IsReading m x × (reading_cost m x ≡ total m)
    unfolding best
    best-finite k e =
        let s = (total-attained m c k e).1 in
        let x = end-found k e in
        let v = x.0 in
        let d = term (dist m v) (final_weight (final m v)) k (x.2.sum ∙ e) in
        let w = marked (dist m v) (final m v) k (x.2.sum ∙ e) in
        let g = follows c s.from s.starts v v d.0 (omega arith) d.1 in
        let sum : reading_cost m (record { run = follow m v v; end = v }) ≡ total m = ap (λ y. y ⊗ final_weight (final m v)) g.1 ∙ x.2.sum in (
          record { run = follow m v v; end = v },
          ap (followed m) x.1,
          record { from = s.from; weight = w.0; starts = s.starts; runs = g.0; marked = w.1; costs = k; finite = sum ∙ e },
          sum,
        )

    pub best-infinite : total m ≡ inf → best m ≡ none
    unfolding best
    best-infinite e = ap (followed m) (end_none e)

    pub best-is : (x : Reading) → best m ≡ some x → IsReading m x × (reading_cost m x ≡ total m)
    best-is x e = go (total m) refl
      where
        go : (t : Tropical) → total m ≡ t → IsReading m x × (reading_cost m x ≡ total m)
        go (fin k) q =
            let b = best-finite k q in
            let p : some b.0 ≡ some x = sym b.1 ∙ e in
            let z : b.0 ≡ x = cc in
            subst (λ y. IsReading m y × (reading_cost m y ≡ total m)) z (b.2, b.3)
        go inf q = let p : some x ≡ none = sym e ∙ best-infinite q in let z : ◌≡◌ {A = ℕ} 0 1 = cc in absurd (omega arith)

    -- there is a best reading exactly where there is a reading
    pub best-some : (y : Reading) → IsReading m y → (x : Reading) × (best m ≡ some x) × IsReading m x × (reading_cost m x ≡ total m)
    best-some y i = let t = total-some m c y i in best-finite t.0 t.1

    pub no-best : best m ≡ none → (y : Reading) → IsReading m y → ⊥
    no-best e y i = let x = best-some y i in let q = x.1 in let z : ◌≡◌ {A = ℕ} 0 1 = cc in omega arith

    pub best_none : ((x : Reading) → IsReading m x → ⊥) → best m ≡ none
    best_none f = best-infinite (total-none m c f)
