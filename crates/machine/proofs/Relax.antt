-- Relaxing the links in sheet order gives the distances: after l links, ⊕ over the runs over the first l links. Assumes nothing.
use mathlib.Core.Path.{◌≡◌, refl, sym, ap, ap₂, ◌∙◌}
use mathlib.Core.Bool.{cond}
use mathlib.Core.Option.{Option, none, some}
use mathlib.Core.List.{[], ◌∷◌, ◌++◌, map, map-map}
use Prim.Native.Nat.{ℕ, zero, suc, ◌≤◌, ◌<◌}
use native.Mathlib.Decide.{ℕ_discrete}
use native.Mathlib.Omega.{arith}
use lib.ListN.{get_or, length, set, replicate, length-set, length-replicate, get_or-replicate}
use lib.Seq.{get_or-set_same, get_or-set_other}
use borrow.Author.Tests.{eq-eqb, ne_eqb}
use lib.IntN.{pos}
use Rattle.tropical_weight.specs.Tropical.{Tropical, ◌⊕◌, ◌⊗◌}
use Rattle.sheet.specs.Machine.{Link, Machine}
use Rattle.machine.specs.Readings.{link, is_at, run_cost, ways}
use Rattle.machine.specs.Climbs.{Climbs}
use Rattle.machine.specs.Distance.{Distance, reached, unreached, as_weight, nearer, onward, plus_all, dist, start_row, relax}
use Rattle.machine.proofs.Lists.{map-append, map_same}
use Rattle.machine.proofs.Sums.{plus_all-append, plus_all-⊗}
use Rattle.machine.proofs.Runs.{over, cost-snoc}
use Rattle.machine.proofs.Named.{step-weight}

-- the value of node v in the row after l links, as a weight
abbrev pub row_at : Machine → ℕ → ℕ → Tropical
row_at m l v = as_weight (get_or (relax m l) v unreached)

module _ (m : Machine) where
  -- ⊕ over the runs to v over the first l links
  abbrev pub dist_over : ℕ → ℕ → Tropical
  dist_over l v = plus_all (map (run_cost m) (ways m l v))

  pub more-runs : (l v : ℕ) → (link m l).next ≡ v → dist_over (suc l) v ≡ dist_over l v ⊕ dist_over l (link m l).source ⊗ (link m l).weight
  unfolding ways
  more-runs l v e =
      let f = run_cost m in
      let a = ways m l v in
      let b = ways m l (link m l).source in
      let w = (link m l).weight in
      ap (λ t. plus_all (map f (cond t (a ++ over m l) a))) (eq-eqb (link m l).next v e)
      ∙ ap plus_all (map-append f a (over m l))
      ∙ plus_all-append (map f a) (map f (over m l))
      ∙ ap (λ x. plus_all (map f a) ⊕ plus_all x)
      (map-map f (λ r. r ++ (l ∷ [])) b ∙ map_same (λ r. f (r ++ (l ∷ []))) (λ r. f r ⊗ w) b (λ r h. cost-snoc m r l) ∙ sym (map-map (λ x. x ⊗ w) f b))
      ∙ ap (λ x. plus_all (map f a) ⊕ x) (plus_all-⊗ (map f b) w)

  pub same_runs : (l v : ℕ) → ((link m l).next ≡ v → ⊥) → dist_over (suc l) v ≡ dist_over l v
  unfolding ways
  same_runs l v n = ap (λ t. plus_all (map (run_cost m) (cond t (ways m l v ++ over m l) (ways m l v)))) (ne_eqb (link m l).next v n)

  pub row-size : (l : ℕ) → length (relax m l) ≡ length m.finals
  unfolding relax
  row-size zero = go m.start
    where
      go : (o : Option ℕ) → length (start_row o (length m.finals)) ≡ length m.finals
      go none = length-replicate (length m.finals) unreached
      go (some s) = simp length-set (length-replicate (length m.finals) unreached)
  row-size (suc l) = simp length-set (row-size l)

  row-start : (v : ℕ) → v < length m.finals → as_weight (get_or (start_row m.start (length m.finals)) v unreached) ≡ dist_over 0 v
  unfolding ways run_cost plus_all
  row-start v b = go m.start
    where
      blank : get_or (replicate (length m.finals) unreached) v unreached ≡ unreached
      blank = get_or-replicate (length m.finals) v unreached unreached b

      go : (o : Option ℕ) → as_weight (get_or (start_row o (length m.finals)) v unreached) ≡ plus_all (map (run_cost m) (cond (is_at o v) ([] ∷ []) []))
      go none = ap as_weight blank
      go (some s) = elim (ℕ_discrete s v) [
        | yes e ↦
            ap as_weight (ap (λ k. get_or (set (replicate (length m.finals) unreached) k (reached (pos 0))) v unreached) e
            ∙ get_or-set_same (replicate (length m.finals) unreached) v (reached (pos 0)) unreached (simp length-replicate b))
            ∙ sym (ap (λ t. plus_all (map (run_cost m) (cond t ([] ∷ []) []))) (eq-eqb s v e))
        | no n ↦
            ap as_weight (get_or-set_other (replicate (length m.finals) unreached) s v (reached (pos 0)) unreached (λ e. n (sym e)) ∙ blank)
            ∙ sym (ap (λ t. plus_all (map (run_cost m) (cond t ([] ∷ []) []))) (ne_eqb s v n))
      ]

  module _ (c : Climbs m) where
    pub row_is : (l v : ℕ) → l ≤ length m.links → v < length m.finals → row_at m l v ≡ dist_over l v
    unfolding relax
    row_is zero v a b = row-start v b
    row_is (suc l) v a b = go (ℕ_discrete (link m l).next v) (λ u h. row_is l u (omega arith) h)
      where
        k : Link
        k = link m l

        next-in : k.next < length m.finals
        next-in = c.inside l (omega arith)

        source_in : k.source < length m.finals
        source_in = omega (arith, c.rises l (omega arith), next-in)

        new : Distance
        new = nearer (get_or (relax m l) k.next unreached) (onward (get_or (relax m l) k.source unreached) k.weight)

        go : Dec (k.next ≡ v) → ((u : ℕ) → u < length m.finals → row_at m l u ≡ dist_over l u) → as_weight (get_or (set (relax m l) k.next new) v unreached) ≡ dist_over (suc l) v
        go (yes e) ih =
            ap as_weight (ap (λ u. get_or (set (relax m l) k.next new) u unreached) (sym e)
            ∙ get_or-set_same (relax m l) k.next new unreached (omega (arith, row-size l, next-in)))
            ∙ step-weight (get_or (relax m l) k.next unreached) (get_or (relax m l) k.source unreached) k.weight
            ∙ ap₂ (λ x y. x ⊕ y ⊗ k.weight) (ih k.next next-in) (ih k.source source_in)
            ∙ sym (more-runs l k.next refl) ∙ ap (dist_over (suc l)) e
        go (no n) ih = ap as_weight (get_or-set_other (relax m l) k.next v new unreached (λ e. n (sym e))) ∙ ih v b ∙ sym (same_runs l v n)

    pub relax-is : (v : ℕ) → v < length m.finals → row_at m (length m.links) v ≡ dist m v
    unfolding dist
    relax-is v b = row_is (length m.links) v (omega arith) b

    -- no link from l on leads to the source of l, so that its distance stands before link l
    settled : (k l : ℕ) → l ≤ k → k ≤ length m.links → l < length m.links → dist_over k (link m l).source ≡ dist_over l (link m l).source
    settled zero l a b h = ap (λ i. dist_over i (link m l).source) (let z : 0 ≡ l = omega arith in z)
    settled (suc k) l a b h = go (ℕ_discrete (suc k) l) (settled k l)
      where
        go : Dec (suc k ≡ l) → (l ≤ k → k ≤ length m.links → l < length m.links → dist_over k (link m l).source ≡ dist_over l (link m l).source) → dist_over (suc k) (link m l).source ≡ dist_over l (link m l).source
        go (yes e) ih = ap (λ i. dist_over i (link m l).source) e
        go (no e) ih = same_runs k (link m l).source (λ q. omega (arith, c.rises k (omega arith), c.sorted l k (omega (arith, e)) (omega arith), q)) ∙ ih (omega (arith, e)) (omega arith) h

    pub source-settled : (l : ℕ) → l < length m.links → dist_over l (link m l).source ≡ dist m (link m l).source
    unfolding dist
    source-settled l h = sym (settled (length m.links) l (omega arith) (omega arith) h)
