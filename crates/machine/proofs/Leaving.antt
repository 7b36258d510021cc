-- How many links of a sheet's machine leave a node: as many as its field says. Assumes nothing.
use mathlib.Core.Path.{◌≡◌, refl, sym, ap, ◌∙◌}
use mathlib.Core.Bool.{Bool, true, false, cond}
use mathlib.Core.List.{List, [], ◌∷◌, ◌++◌, map}
use Prim.Native.Nat.{ℕ, zero, suc, ◌+◌, ◌<◌, ◌≤◌}
use native.Mathlib.Decide.{ℕ_discrete}
use native.Mathlib.Omega.{arith}
use lib.Dec.{eqb}
use lib.ListN.{length, replicate, length-map, get_or-map}
use lib.Seq.{ext_get_or}
use borrow.Author.Tests.{eq-eqb, ne_eqb}
use Rattle.sheet.specs.Sheet.{Parts, link_count, node_count, count, nodes_fit}
use Rattle.sheet.specs.Machine.{Link, machine_of, sources_below, leaving}
use Rattle.sheet.proofs.Sources.{length-sources, counts-sum, machine-link, machine-links}
use Rattle.machine.specs.Readings.{no_link}

-- how often v stands on a list
occurs : List ℕ → ℕ → ℕ
occurs [] v = 0
occurs (x ∷ l) v = cond (eqb x v) (suc (occurs l v)) (occurs l v)

occurs-append : (xs ys : List ℕ) (v : ℕ) → occurs (xs ++ ys) v ≡ occurs xs v + occurs ys v
unfolding occurs
occurs-append [] ys v = omega arith
occurs-append (x ∷ xs) ys v = go (eqb x v) (occurs-append xs ys v)
  where
    go : (b : Bool) → occurs (xs ++ ys) v ≡ occurs xs v + occurs ys v → cond b (suc (occurs (xs ++ ys) v)) (occurs (xs ++ ys) v) ≡ cond b (suc (occurs xs v)) (occurs xs v) + occurs ys v
    go true h = omega arith
    go false h = h

occurs-same : (n v : ℕ) → occurs (replicate n v) v ≡ n
unfolding occurs
occurs-same zero v = refl
occurs-same (suc n) v = simp (eq-eqb v v refl) (ap suc (occurs-same n v))

occurs-other : (n u v : ℕ) → (u ≡ v → ⊥) → occurs (replicate n u) v ≡ 0
unfolding occurs
occurs-other zero u v d = refl
occurs-other (suc n) u v d = simp (ne_eqb u v d) (occurs-other n u v d)

-- links are counted by their sources
leaving-occurs : (ks : List Link) (v : ℕ) → leaving ks v ≡ occurs (map (λ k. k.source) ks) v
unfolding leaving occurs
leaving-occurs [] v = refl
leaving-occurs (k ∷ ks) v = ap (λ (n : ℕ). cond (eqb k.source v) (suc n) n) (leaving-occurs ks v)

module _ (p : Parts) where
  none_before : (n v : ℕ) → n ≤ v → occurs (sources_below p n) v ≡ 0
  unfolding sources_below
  none_before zero v h = unfold occurs in refl
  none_before (suc n) v h = occurs-append (sources_below p n) (replicate (count p n) n) v ∙ omega (arith, none_before n v (omega arith), occurs-other (count p n) n v (λ e. omega (arith, e)))

  all_of : (n v : ℕ) → v < n → occurs (sources_below p n) v ≡ count p v
  unfolding sources_below
  all_of zero v h = absurd (omega arith)
  all_of (suc n) v h = occurs-append (sources_below p n) (replicate (count p n) n) v ∙ go (ℕ_discrete n v) (all_of n v)
    where
      go : Dec (n ≡ v) → (v < n → occurs (sources_below p n) v ≡ count p v) → occurs (sources_below p n) v + occurs (replicate (count p n) n) v ≡ count p v
      go (yes e) r = (λ i. occurs (sources_below p (e i)) v + occurs (replicate (count p (e i)) (e i)) v) ∙ omega (arith, none_before v v (omega arith), occurs-same (count p v) v)
      go (no d) r = omega (arith, r (omega (arith, d)), occurs-other (count p n) n v d)

  module _ (fit : nodes_fit p ≡ true) where
    sized : length (sources_below p (node_count p)) ≡ link_count p
    sized = length-sources p (node_count p) ∙ counts-sum p fit

    sources-are : map (λ k. k.source) (machine_of p).links ≡ sources_below p (node_count p)
    sources-are =
        let source : Link → ℕ = λ k. k.source in
        let ks = (machine_of p).links in
        let long : length (map source ks) ≡ link_count p = length-map ks source ∙ machine-links p in
        ext_get_or 0 (map source ks) (sources_below p (node_count p)) (long ∙ sym sized)
        (λ l h. get_or-map source ks l no_link ∙ ap source (machine-link p l no_link (omega (arith, long))))

    -- node v has so many links
    pub leaving-is : (v : ℕ) → v < node_count p → leaving (machine_of p).links v ≡ count p v
    leaving-is v h = leaving-occurs (machine_of p).links v ∙ ap (λ (l : List ℕ). occurs l v) sources-are ∙ all_of (node_count p) v h
