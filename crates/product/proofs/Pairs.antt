-- The pairs of links of two machines: each pair of one label once, in the order of the nodes they leave. Assumes nothing.
use mathlib.Core.Path.{◌≡◌, refl, sym, ap, ◌∙◌, subst}
use mathlib.Core.Bool.{Bool, true, false, ◌&&◌, cond}
use mathlib.Core.List.Memᴰ
use mathlib.Core.List.{List, [], ◌∷◌}
use Prim.Native.Nat.{ℕ, ◌*◌, ◌≤◌, ◌<◌}
use native.Mathlib.Omega.{arith}
use lib.Dec.{eqb}
use lib.ListN.{length, get_or}
use borrow.Author.Tests.{eqb-true, eq-eqb}
use Rattle.sheet.specs.Machine.{Machine}
use Rattle.sheet.proofs.Apart.{both}
use Rattle.machine.specs.Readings.{link}
use Rattle.machine.specs.Climbs.{Climbs}
use Rattle.machine.specs.Demand.{◌∈◌, NoDup}
use Rattle.machine.proofs.Lists.{here}
use Rattle.product.specs.Joins.{join_below}
use Rattle.product.specs.Product.{Pair, nodes, source_for, meet, pair_if, pairs}
use Rattle.product.proofs.Joins.{join-mem, mem-join, join-nodup, join-sorted}
use Rattle.product.proofs.Nodes.{node-lt}

if-mem : {A : Type 0} (t : Bool) (a : A) {x : A} → x ∈ cond t (a ∷ []) [] → (t ≡ true) × (x ≡ a)
if-mem true a h = (refl, Memᴰ.eq_of_singleton h)
if-mem false a h = absurd (Memᴰ.not-nil h)

if-nodup : {A : Type 0} (t : Bool) (a : A) → NoDup (cond t (a ∷ []) [])
if-nodup true a = (λ h. Memᴰ.not-nil h, tt)
if-nodup false a = tt

module _ (a b : Machine) where
  -- a pair of links of one label
  pub record Meets (p : Pair) : Type 0 where
    pub in-first : p.first < length a.links
    pub in-second : p.second < length b.links
    pub same-label : (link a p.first).ilabel ≡ (link b p.second).ilabel

  abbrev pub of-link : ℕ → ℕ → List Pair
  of-link v l = join_below (length b.links) (λ k. pair_if a b v l k)

  abbrev pub of_node : ℕ → List Pair
  of_node v = join_below (length a.links) (of-link v)

  pub in_one : (v l k : ℕ) {p : Pair} → p ∈ pair_if a b v l k → (meet a b v l k ≡ true) × (p ≡ record { first = l; second = k })
  in_one v l k h = if-mem (meet a b v l k) (record { first = l; second = k }) h

  pub in-link : (v l : ℕ) {p : Pair} → p ∈ of-link v l → p.first ≡ l
  in-link v l h = let r = mem-join (length b.links) (λ k. pair_if a b v l k) h in ap (λ (p : Pair). p.first) (in_one v l r.0 r.2).1

  pub in-node : (v : ℕ) {p : Pair} → p ∈ of_node v → Meets p × (source_for a b p.first p.second ≡ v)
  in-node v {p} h =
      let r = mem-join (length a.links) (of-link v) h in
      let s = mem-join (length b.links) (λ k. pair_if a b v r.0 k) r.2 in
      let t = in_one v r.0 s.0 s.2 in
      let u = both (eqb (source_for a b r.0 s.0) v) (eqb (link a r.0).ilabel (link b s.0).ilabel) t.0 in
      subst (λ (p : Pair). Meets p × (source_for a b p.first p.second ≡ v)) (sym t.1)
      (record { in-first = r.1; in-second = s.1; same-label = eqb-true _ _ u.1 }, eqb-true (source_for a b r.0 s.0) v u.0)

  pub pairs-meet : {p : Pair} → p ∈ pairs a b → Meets p
  unfolding pairs
  pairs-meet h = let r = mem-join (nodes a * nodes b) of_node h in (in-node r.0 r.2).0

  pub pairs-once : NoDup (pairs a b)
  unfolding pairs
  pairs-once = join-nodup (nodes a * nodes b) of_node
      (λ v. join-nodup (length a.links) (of-link v)
      (λ l. join-nodup (length b.links) (λ k. pair_if a b v l k) (λ k. if-nodup (meet a b v l k) (record { first = l; second = k })) (λ i j p x y. sym (ap (λ (p : Pair). p.second) (in_one v l i x).1) ∙ ap (λ (p : Pair). p.second) (in_one v l j y).1))
      (λ i j p x y. sym (in-link v i x) ∙ in-link v j y))
      (λ i j p x y. sym (in-node i x).1 ∙ (in-node j y).1)

  module _ (c : Climbs a) (d : Climbs b) where
    pub first-inside : (l : ℕ) → l < length a.links → ((link a l).source < nodes a) × ((link a l).next < nodes a)
    first-inside l h = (omega (arith, c.rises l h, c.inside l h), c.inside l h)

    pub second-inside : (l : ℕ) → l < length b.links → ((link b l).source < nodes b) × ((link b l).next < nodes b)
    second-inside l h = (omega (arith, d.rises l h, d.inside l h), d.inside l h)

    pub meet-pairs : (p : Pair) → Meets p → p ∈ pairs a b
    unfolding pairs
    meet-pairs p m =
        let v = source_for a b p.first p.second in
        let t : meet a b v p.first p.second ≡ true = λ i. eq-eqb v v refl i && eq-eqb _ _ m.same-label i in
        join-mem (nodes a * nodes b) of_node v (node-lt (nodes a) (nodes b) (link a p.first).source (link b p.second).source (first-inside p.first m.in-first).0 (second-inside p.second m.in-second).0)
        (join-mem (length a.links) (of-link v) p.first m.in-first
        (join-mem (length b.links) (λ k. pair_if a b v p.first k) p.second m.in-second
        (subst (λ (x : Bool). p ∈ cond x (record { first = p.first; second = p.second } ∷ []) []) (sym t) (here p []))))

  pub pairs-sorted : (d : Pair) (i j : ℕ) → i ≤ j → j < length (pairs a b)
      → source_for a b (get_or (pairs a b) i d).first (get_or (pairs a b) i d).second ≤ source_for a b (get_or (pairs a b) j d).first (get_or (pairs a b) j d).second
  unfolding pairs
  pairs-sorted d i j h o = join-sorted (λ (p : Pair). source_for a b p.first p.second) d (nodes a * nodes b) of_node (λ v p m. (in-node v m).1) i j h o
