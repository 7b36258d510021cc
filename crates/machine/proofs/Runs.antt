-- The enumeration of runs holds each run from the start once, and nothing else. Assumes nothing.
use mathlib.Core.Path.{◌≡◌, refl, sym, ap, ◌∙◌, subst}
use mathlib.Core.Logic.{◌⊎◌, inl, inr, ◌↔◌}
use mathlib.Core.Bool.{Bool, true, false, cond}
use mathlib.Core.Option.{Option, none, some}
use mathlib.Core.List.Memᴰ
use mathlib.Core.List.{List, [], ◌∷◌, ◌++◌, map, append_cancel_right}
use Prim.Native.Nat.{ℕ, zero, suc, ◌+◌, ◌≤◌, ◌<◌}
use native.Mathlib.Decide.{ℕ_discrete}
use native.Mathlib.Omega.{arith}
use lib.Dec.{eqb, leb}
use lib.ListN.{length}
use borrow.Author.Tests.{eqb-true, eq-eqb, leb-true, leb-false}
use Rattle.tropical_weight.specs.Tropical.{Tropical, ◌⊗◌, times_all}
use Rattle.tropical_weight.proofs.Semiring.{⊗-assoc, one-⊗, ⊗-one}
use Rattle.sheet.specs.Machine.{Machine}
use Rattle.machine.specs.Readings.{link, is_at, IsRun, end_from, run_cost, ways, ways_to}
use Rattle.machine.specs.Climbs.{Climbs}
use Rattle.machine.specs.Demand.{◌∈◌, NoDup}
use Rattle.machine.proofs.Lists.{here, mem-eq, map-mem, mem-map, nodup_append, nodup-map}

-- ---- lists of numbers below l
abbrev pub Below : ℕ → List ℕ → Type 0
Below l [] = Unit
Below l (k ∷ r) = (k < l) × Below l r

below-le : (k l : ℕ) (r : List ℕ) → k ≤ l → Below k r → Below l r
below-le k l [] h b = tt
below-le k l (j ∷ r) h b = (omega (arith, b.0), below-le k l r h b.1)

below-snoc : (l k : ℕ) (r : List ℕ) → Below l r → k < l → Below l (r ++ (k ∷ []))
below-snoc l k [] b h = (h, tt)
below-snoc l k (j ∷ r) b h = (b.0, below-snoc l k r b.1 h)

below_last : (l k : ℕ) (r : List ℕ) → Below l (r ++ (k ∷ [])) → k < l
below_last l k [] b = b.0
below_last l k (j ∷ r) b = below_last l k r b.1

-- a list is empty or has a last element
abbrev pub Ends : List ℕ → Type 0
Ends r = (r ≡ []) ⊎ ((q : List ℕ) × (k : ℕ) × (r ≡ q ++ (k ∷ [])))

pub ends : (r : List ℕ) → Ends r
ends [] = inl refl
ends (j ∷ r) = go (ends r)
  where
    go : Ends r → Ends (j ∷ r)
    go (inl e) = inr ([], j, ap (λ t. j ∷ t) e)
    go (inr x) = inr (j ∷ x.0, x.1, ap (λ t. j ∷ t) x.2)

-- ---- the test for the start
pub at_some : (s : Option ℕ) (v : ℕ) → is_at s v ≡ true → s ≡ some v
at_some none v e = let z : ◌≡◌ {A = ℕ} 0 1 = cc in absurd (omega arith)
at_some (some u) v e = ap some (eqb-true u v e)

pub some_at : (s : Option ℕ) (v : ℕ) → s ≡ some v → is_at s v ≡ true
some_at s v e = ap (λ x. is_at x v) e ∙ eq-eqb v v refl

module _ (m : Machine) where
  -- r is a run from the start to v
  abbrev pub FromStart : List ℕ → ℕ → Type 0
  FromStart r v = (s : ℕ) × (m.start ≡ some s) × IsRun m s r v

  -- ---- a run and one link more
  pub run-snoc : (r : List ℕ) (u l : ℕ) → IsRun m u r (link m l).source → l < length m.links → IsRun m u (r ++ (l ∷ [])) (link m l).next
  run-snoc [] u l h b = (b, sym h, refl)
  run-snoc (k ∷ r) u l h b = (h.0, h.1, run-snoc r (link m k).next l h.2 b)

  pub run-last : (r : List ℕ) (u l v : ℕ) → IsRun m u (r ++ (l ∷ [])) v → IsRun m u r (link m l).source × (l < length m.links) × ((link m l).next ≡ v)
  run-last [] u l v h = (sym h.1, h.0, h.2)
  run-last (k ∷ r) u l v h = let x = run-last r (link m k).next l v h.2 in ((h.0, h.1, x.0), x.1, x.2)

  pub cost-snoc : (r : List ℕ) (l : ℕ) → run_cost m (r ++ (l ∷ [])) ≡ run_cost m r ⊗ (link m l).weight
  unfolding run_cost
  cost-snoc [] l = ⊗-one (link m l).weight ∙ sym (one-⊗ (link m l).weight)
  cost-snoc (k ∷ r) l = ap (λ x. (link m k).weight ⊗ x) (cost-snoc r l) ∙ sym (⊗-assoc (link m k).weight (run_cost m r) (link m l).weight)

  -- and a run and another from where it ends
  pub run-append : (p q : List ℕ) (u v w : ℕ) → IsRun m u p v → IsRun m v q w → IsRun m u (p ++ q) w
  run-append [] q u v w h k = subst (λ x. IsRun m x q w) (sym h) k
  run-append (l ∷ p) q u v w h k = (h.0, h.1, run-append p q (link m l).next v w h.2 k)

  pub cost-append : (p q : List ℕ) → run_cost m (p ++ q) ≡ run_cost m p ⊗ run_cost m q
  unfolding run_cost
  cost-append [] q = sym (one-⊗ (run_cost m q))
  cost-append (l ∷ p) q = ap (λ x. (link m l).weight ⊗ x) (cost-append p q) ∙ sym (⊗-assoc (link m l).weight (run_cost m p) (run_cost m q))

  -- the sum of its weights from its front
  pub times-run : (a : Tropical) (r : List ℕ) → times_all a (map (λ l. (link m l).weight) r) ≡ a ⊗ run_cost m r
  unfolding times_all run_cost
  times-run a [] = sym (⊗-one a)
  times-run a (l ∷ r) = times-run (a ⊗ (link m l).weight) r ∙ ⊗-assoc a (link m l).weight (run_cost m r)

  -- the links of a run tell where it ends
  pub run_ends : (r : List ℕ) (u v : ℕ) → IsRun m u r v → end_from m u r ≡ v
  run_ends [] u v h = h
  run_ends (l ∷ r) u v h = run_ends r (link m l).next v h.2

  pub run_in : (r : List ℕ) (u v : ℕ) → IsRun m u r v → (l : ℕ) → l ∈ r → l < length m.links
  run_in [] u v h l k = absurd (Memᴰ.not-nil k)
  run_in (j ∷ r) u v h l k = elim (Memᴰ.cases_cons k) [ inl e ↦ omega (arith, e, h.0) | inr q ↦ run_in r (link m j).next v h.2 l q ]

  pub run_end : (r : List ℕ) (u v w : ℕ) → IsRun m u r v → IsRun m u r w → v ≡ w
  run_end [] u v w h k = sym h ∙ k
  run_end (l ∷ r) u v w h k = run_end r (link m l).next v w h.2 k.2

  -- ---- the enumeration
  -- the runs from the start that end in link l
  abbrev pub over : ℕ → List (List ℕ)
  over l = map (λ r. r ++ (l ∷ [])) (ways m l (link m l).source)

  pub more : (l v : ℕ) {r : List ℕ} → r ∈ ways m l v → r ∈ ways m (suc l) v
  unfolding ways
  more l v {r} h = go (eqb (link m l).next v)
    where
      go : (t : Bool) → r ∈ cond t (ways m l v ++ over l) (ways m l v)
      go true = Memᴰ.append_left (over l) h
      go false = h

  pub ways-sound : (l v : ℕ) (r : List ℕ) → l ≤ length m.links → r ∈ ways m l v → FromStart r v × Below l r
  unfolding ways
  ways-sound zero v r b h = go (is_at m.start v) refl h
    where
      go : (t : Bool) → is_at m.start v ≡ t → r ∈ cond t ([] ∷ []) [] → FromStart r v × Below 0 r
      go true e h = elim (Memᴰ.cases_cons h) [ inl q ↦ subst (λ x. FromStart x v × Below 0 x) (sym q) ((v, at_some m.start v e, refl), tt) | inr q ↦ absurd (Memᴰ.not-nil q) ]
      go false e h = absurd (Memᴰ.not-nil h)
  ways-sound (suc l) v r b h = go (eqb (link m l).next v) refl h (ways-sound l v r (omega arith)) (λ q. ways-sound l (link m l).source q (omega arith))
    where
      old : FromStart r v × Below l r → FromStart r v × Below (suc l) r
      old x = (x.0, below-le l (suc l) r (omega arith) x.1)

      go : (t : Bool) → eqb (link m l).next v ≡ t → r ∈ cond t (ways m l v ++ over l) (ways m l v)
          → (r ∈ ways m l v → FromStart r v × Below l r) → ((q : List ℕ) → q ∈ ways m l (link m l).source → FromStart q (link m l).source × Below l q) → FromStart r v × Below (suc l) r
      go false e h f g = old (f h)
      go true e h f g = elim (Memᴰ.append_cases (ways m l v) h) [
        | inl h ↦ old (f h)
        | inr h ↦
            let x = mem-map (λ q. q ++ (l ∷ [])) (ways m l (link m l).source) h in
            let y = g x.0 x.1 in
            subst (λ q. FromStart q v × Below (suc l) q) (sym x.2) (
              (y.0.0, y.0.1, subst (IsRun m y.0.0 (x.0 ++ (l ∷ []))) (eqb-true (link m l).next v e) (run-snoc x.0 y.0.0 l y.0.2 (omega arith))),
              below-snoc (suc l) l x.0 (below-le l (suc l) x.0 (omega arith) y.1) (omega arith),
            )
      ]

  pub ways-once : (l v : ℕ) → l ≤ length m.links → NoDup (ways m l v)
  unfolding ways
  ways-once zero v b = go (is_at m.start v)
    where
      go : (t : Bool) → NoDup {A = List ℕ} (cond t ([] ∷ []) [])
      go true = (λ q. Memᴰ.not-nil q, tt)
      go false = tt
  ways-once (suc l) v b = go (eqb (link m l).next v) (ways-once l v (omega arith)) (ways-once l (link m l).source (omega arith))
    where
      -- those that end in link l are new
      new : (r : List ℕ) → r ∈ ways m l v → r ∈ over l → ⊥
      new r h k =
          let x = mem-map (λ q. q ++ (l ∷ [])) (ways m l (link m l).source) k in
          let y : l < l = below_last l l x.0 (subst (Below l) x.2 (ways-sound l v r (omega arith) h).1) in
          omega arith

      go : (t : Bool) → NoDup (ways m l v) → NoDup (ways m l (link m l).source) → NoDup (cond t (ways m l v ++ over l) (ways m l v))
      go false f g = f
      go true f g = nodup_append (ways m l v) (over l) f (nodup-map (λ q. q ++ (l ∷ [])) (ways m l (link m l).source) (λ a c e. append_cancel_right a c (l ∷ []) e) g) new

  module _ (c : Climbs m) where
    -- as many nodes are passed as there are links
    pub run_length : (r : List ℕ) (u v : ℕ) → IsRun m u r v → length r + u ≤ v
    run_length [] u v h = omega (arith, h)
    run_length (l ∷ r) u v h = omega (arith, c.rises l h.0, h.1, run_length r (link m l).next v h.2)

    -- ---- link numbers rise along a run
    earlier : (k l : ℕ) → k < length m.links → (link m k).source < (link m l).source → (t : Bool) → leb l k ≡ t → k < l
    earlier k l b h true e = absurd (omega (arith, c.sorted l k (leb-true l k e) b))
    earlier k l b h false e = leb-false l k e

    rising : (r : List ℕ) (u l : ℕ) → IsRun m u r (link m l).source → Below l r
    rising [] u l h = tt
    rising (k ∷ r) u l h = (
      earlier k l h.0 (omega (arith, c.rises k h.0, run_length r (link m k).next (link m l).source h.2)) (leb l k) refl,
      rising r (link m k).next l h.2,
    )

    all-below : (r : List ℕ) (u v : ℕ) → IsRun m u r v → Below (length m.links) r
    all-below [] u v h = tt
    all-below (k ∷ r) u v h = (h.0, all-below r (link m k).next v h.2)

    ways-complete : (l v : ℕ) (r : List ℕ) → FromStart r v → Below l r → r ∈ ways m l v
    unfolding ways
    ways-complete zero v [] x b = subst (λ t. ◌∈◌ {A = List ℕ} [] (cond t ([] ∷ []) [])) (sym (some_at m.start v (x.1 ∙ ap some x.2))) (here [] [])
    ways-complete zero v (k ∷ r) x b = absurd (omega (arith, b.0))
    ways-complete (suc l) v r x b = go (ends r) (ways-complete l v r x) (λ q. ways-complete l (link m l).source q)
      where
        go : Ends r → (Below l r → r ∈ ways m l v) → ((q : List ℕ) → FromStart q (link m l).source → Below l q → q ∈ ways m l (link m l).source) → r ∈ ways m (suc l) v
        go (inl e) f g = more l v (f (subst (Below l) (sym e) tt))
        go (inr y) f g = elim (ℕ_discrete y.1 l) [
          | yes e ↦ last e
          | no n ↦ more l v (f (subst (Below l) (sym y.2) (below-snoc l y.1 y.0 (below-le y.1 l y.0 (omega (arith, at_most)) low) (omega (arith, at_most, n)))))
        ]
          where
            parts : IsRun m x.0 y.0 (link m y.1).source × (y.1 < length m.links) × ((link m y.1).next ≡ v)
            parts = run-last y.0 x.0 y.1 v (subst (λ q. IsRun m x.0 q v) y.2 x.2)

            low : Below y.1 y.0
            low = rising y.0 x.0 y.1 parts.0

            at_most : y.1 < suc l
            at_most = below_last (suc l) y.1 y.0 (subst (Below (suc l)) y.2 b)

            last : y.1 ≡ l → r ∈ ways m (suc l) v
            last e =
                subst (λ t. r ∈ cond t (ways m l v ++ over l) (ways m l v))
                (sym (eq-eqb (link m l).next v (subst (λ k. (link m k).next ≡ v) e parts.2)))
                (Memᴰ.append_right (ways m l v)
                (mem-eq (ap (λ k. y.0 ++ (k ∷ [])) (sym e) ∙ sym y.2)
                (map-mem (λ q. q ++ (l ∷ [])) (g y.0 (x.0, x.1, subst (λ k. IsRun m x.0 y.0 (link m k).source) e parts.0) (subst (λ k. Below k y.0) e low)))))

    -- each run from the start to v over the first l links, and nothing else
    pub ways-over : (l v : ℕ) (r : List ℕ) → l ≤ length m.links → (r ∈ ways m l v) ↔ (FromStart r v × Below l r)
    ways-over l v r b = (ways-sound l v r b, λ x. ways-complete l v r x.0 x.1)

    -- each run from the start to v, and nothing else
    pub ways-are : (v : ℕ) (r : List ℕ) → (r ∈ ways_to m v) ↔ FromStart r v
    ways-are v r = (λ h. (ways-sound (length m.links) v r (omega arith) h).0, λ x. ways-complete (length m.links) v r x (all-below r x.0 v x.2))
