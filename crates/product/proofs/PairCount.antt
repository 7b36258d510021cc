-- How many pairs of links have one label, counted over both lists of links, without the nodes. Assumes nothing.
use mathlib.Core.Path.{◌≡◌, refl, sym, ap, ◌∙◌}
use mathlib.Core.Bool.{Bool, true, false, ◌&&◌, cond}
use mathlib.Core.List.{List, [], ◌∷◌}
use Prim.Native.Nat.{ℕ, zero, suc, ◌+◌, ◌*◌, ◌<◌}
use lib.Dec.{eqb}
use lib.ListN.{length, length-append}
use borrow.Author.Tests.{eq-eqb, ne_eqb}
use Rattle.sheet.specs.Below.{sum_below}
use Rattle.sheet.specs.Machine.{Machine}
use Rattle.sheet.proofs.Below.{sum_below-same, sum_below-add, sum_below-none, sum_below-only}
use Rattle.machine.specs.Readings.{link}
use Rattle.machine.specs.Climbs.{Climbs}
use Rattle.product.specs.Joins.{join_below}
use Rattle.product.specs.Product.{Pair, nodes, source_for, meet, pair_if, pairs}
use Rattle.product.specs.Refused.{alike}
use Rattle.product.proofs.Nodes.{node-lt}
use Rattle.product.proofs.Pairs.{first-inside, second-inside}

length-join : {A : Type 0} (n : ℕ) (f : ℕ → List A) → length (join_below n f) ≡ sum_below n (λ i. length (f i))
unfolding join_below sum_below
length-join zero f = refl
length-join (suc n) f = length-append (join_below n f) (f n) ∙ ap (λ (k : ℕ). k + length (f n)) (length-join n f)

-- two sums, one inside the other, in either order
exchange : (n m : ℕ) (f : ℕ → ℕ → ℕ) → sum_below n (λ i. sum_below m (f i)) ≡ sum_below m (λ j. sum_below n (λ i. f i j))
unfolding sum_below
exchange zero m f = sym (sum_below-none m (λ j. 0) (λ i h. refl))
exchange (suc n) m f = ap (λ (k : ℕ). k + sum_below m (f n)) (exchange n m f) ∙ sym (sum_below-add m (λ j. sum_below n (λ i. f i j)) (f n))

module _ (a b : Machine) (c : Climbs a) (d : Climbs b) where
  -- 1 where links l and k have one label
  abbrev matches : ℕ → ℕ → ℕ
  matches l k = cond (eqb (link a l).ilabel (link b k).ilabel) 1 0

  one : (t : Bool) (p : Pair) → length (cond t (p ∷ []) []) ≡ cond t 1 0
  one true p = refl
  one false p = refl

  -- a pair of one label leaves one node
  at-one : (l k : ℕ) → l < length a.links → k < length b.links → sum_below (nodes a * nodes b) (λ v. length (pair_if a b v l k)) ≡ matches l k
  at-one l k h o =
      let s = source_for a b l k in
      let e = eqb (link a l).ilabel (link b k).ilabel in
      let p : Pair = record { first = l; second = k } in
      sum_below-only (nodes a * nodes b) (λ v. length (pair_if a b v l k)) s
      (λ v n. one (meet a b v l k) p ∙ ap (λ (t : Bool). cond (t && e) 1 0) (ne_eqb s v (λ q. n (sym q))))
      (node-lt (nodes a) (nodes b) (link a l).source (link b k).source (first-inside a b c d l h).0 (second-inside a b c d k o).0)
      ∙ one (meet a b s l k) p ∙ ap (λ (t : Bool). cond (t && e) 1 0) (eq-eqb s s refl)

  pub pair-count : length (pairs a b) ≡ alike a b
  unfolding pairs
  pair-count =
      let N = nodes a * nodes b in
      let T = length a.links in
      let U = length b.links in
      let of-link : ℕ → ℕ → ℕ = λ v l. sum_below U (λ k. length (pair_if a b v l k)) in
      length-join N (λ v. join_below T (λ l. join_below U (λ k. pair_if a b v l k)))
      ∙ sum_below-same N (λ v. length (join_below T (λ l. join_below U (λ k. pair_if a b v l k)))) (λ v. sum_below T (of-link v))
      (λ v h. length-join T (λ l. join_below U (λ k. pair_if a b v l k)) ∙ sum_below-same T (λ l. length (join_below U (λ k. pair_if a b v l k))) (of-link v) (λ l o. length-join U (λ k. pair_if a b v l k)))
      ∙ exchange N T of-link
      ∙ sum_below-same T (λ l. sum_below N (λ v. of-link v l)) (λ l. sum_below U (matches l))
      (λ l h. exchange N U (λ v k. length (pair_if a b v l k)) ∙ sum_below-same U (λ k. sum_below N (λ v. length (pair_if a b v l k))) (matches l) (λ k o. at-one l k h o))
