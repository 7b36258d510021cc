-- Links, nodes, final weights, start and form of the product, by those of the two machines; it climbs. Assumes nothing.
use mathlib.Core.Path.{◌≡◌, refl, sym, subst}
use mathlib.Core.Option.{none}
use Prim.Native.Nat.{ℕ, ◌*◌, ◌/◌, ◌%◌, ◌≤◌, ◌<◌}
use native.Mathlib.Omega.{arith}
use lib.ListN.{length, length-map}
use Rattle.sheet.specs.Machine.{Machine}
use Rattle.sheet.proofs.Below.{length-list_below, get_or-list_below}
use Rattle.machine.specs.Readings.{no_link, link, final}
use Rattle.machine.specs.Climbs.{Climbs}
use Rattle.machine.proofs.Lists.{get_or-mem, get_d_map}
use Rattle.product.specs.Product.{nodes, node_for, source_for, pairs, link_for, final_for, start_for, product}
use Rattle.product.specs.Halves.{no_pair, pair_at}
use Rattle.product.proofs.Nodes.{node-lt, node-rises}
use Rattle.product.proofs.Pairs.{Meets, pairs-meet, pairs-sorted, first-inside, second-inside}

module _ (a b : Machine) where
  pub product-links : length (product a b).links ≡ length (pairs a b)
  unfolding product
  product-links = length-map (pairs a b) (link_for a b)

  pub product-link : (q : ℕ) → q < length (pairs a b) → link (product a b) q ≡ link_for a b (pair_at a b q)
  unfolding product
  product-link q h = get_d_map (link_for a b) (pairs a b) q no_pair no_link h

  pub product-nodes : length (product a b).finals ≡ nodes a * nodes b
  unfolding product
  product-nodes = length-list_below (nodes a * nodes b) (λ v. final_for (final a (v / nodes b)) (final b (v % nodes b)))

  pub product-final : (v : ℕ) → v < nodes a * nodes b → final (product a b) v ≡ final_for (final a (v / nodes b)) (final b (v % nodes b))
  unfolding product
  product-final v h = get_or-list_below (nodes a * nodes b) (λ v. final_for (final a (v / nodes b)) (final b (v % nodes b))) v none h

  pub product-start : (product a b).start ≡ start_for a b a.start b.start
  unfolding product
  product-start = refl

  pub product-form : (product a b).form ≡ a.form
  unfolding product
  product-form = refl

  module _ (c : Climbs a) (d : Climbs b) where
    pub meets_at : (q : ℕ) → q < length (pairs a b) → Meets a b (pair_at a b q)
    meets_at q h = pairs-meet a b (get_or-mem (pairs a b) q no_pair h)

    pub climbs-product : Climbs (product a b)
    climbs-product = record {
      rises = λ q h.
          let o : q < length (pairs a b) = omega (arith, product-links) in
          let m = meets_at q o in
          subst (λ x. x.source < x.next) (sym (product-link q o))
          (node-rises (nodes b) _ _ _ _ (c.rises (pair_at a b q).first m.in-first) (second-inside a b c d (pair_at a b q).second m.in-second).0);
      inside = λ q h.
          let o : q < length (pairs a b) = omega (arith, product-links) in
          let m = meets_at q o in
          subst (λ x. x.next < length (product a b).finals) (sym (product-link q o))
          (subst (λ (n : ℕ). node_for a b (link a (pair_at a b q).first).next (link b (pair_at a b q).second).next < n) (sym product-nodes)
          (node-lt (nodes a) (nodes b) _ _ (first-inside a b c d (pair_at a b q).first m.in-first).1 (second-inside a b c d (pair_at a b q).second m.in-second).1));
      sorted = λ i j h o.
          let n : j < length (pairs a b) = omega (arith, product-links) in
          let k : i < length (pairs a b) = omega arith in
          subst (λ x. x.source ≤ (link (product a b) j).source) (sym (product-link i k)) (subst (λ x. source_for a b (pair_at a b i).first (pair_at a b i).second ≤ x.source) (sym (product-link j n)) (pairs-sorted a b no_pair i j h n));
    }
