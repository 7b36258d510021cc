-- The pairs of two sheets, as an area has them: found with the keys of both sorted, and sorted themselves. Assumes nothing.
use mathlib.Core.Path.{◌≡◌, sym, ap, ◌∙◌}
use mathlib.Core.List.{List, ◌++◌, flat_map, append_assoc, append-nil}
use Prim.Native.Nat.{ℕ, ◌+◌, ◌≤◌}
use native.Mathlib.Omega.{arith}
use lib.ListN.{length, take, drop, drop_of_length-le}
use lib.Seq.{sets, sets-eq, take-length, length-take-le, take-append_seam}
use Rattle.std.specs.Prelude.{Some, None}
use Rattle.tropical_weight.specs.Limits.{node_limit, link_limit}
use Rattle.sheet.specs.Machine.{Machine}
use Rattle.sheet.proofs.Below.{length-list_below}
use Rattle.machine.proofs.Lists.{Perm, same, skip, flip, thru, perm-eq, perm-left, perm-right, perm-swap, perm-length}
use Rattle.machine.proofs.SheetFields.{SheetFields}
use Rattle.sorted_keys.specs.Sorted.{Sorted}
use Rattle.product.specs.Product.{nodes, pairs}
use Rattle.product.specs.Keys.{link_keys}
use Rattle.link_pairs.specs.Found.{pairs_of, found, Put, PairsFound}
use Rattle.link_pairs.proofs.LinkKeys.{key_at}
use Rattle.link_pairs.proofs.Finding.{found-length, found-sorted}

-- where all keys were sorted
sorted-front : (before after : List ℕ) → Sorted (length before) before after → take (length before) after ≡ after
sorted-front before after s = ap (λ (n : ℕ). take n after) (sym s.size) ∙ take-length after

-- the keys of a sheet's links, stored in an area for them alone, and sorted
pub keys-sorted : {bytes : List ℕ} {T N : ℕ} {m : Machine} → SheetFields bytes T N m → (area before after : List ℕ) → length area ≡ T → before ≡ sets area 0 (link_keys m) → Sorted (length before) before after → Perm after (link_keys m)
unfolding link_keys
keys-sorted {m = m} f area before after size put s =
    let keys : List ℕ = link_keys m in
    let long : length area ≡ 0 + length keys = omega (arith, size, f.links-are, length-list_below (length m.links) (key_at m)) in
    let whole : before ≡ keys = put ∙ sets-eq keys area 0 (omega (arith, long)) ∙ ap (λ (l : List ℕ). keys ++ l) (drop_of_length-le area {i = 0 + length keys} (omega (arith, long))) ∙ append-nil keys in
    thru (perm-eq (sym (sorted-front before after s))) (thru s.same (perm-eq (take-length before ∙ whole)))

-- lists joined, in another order
flat-perm : (f : ℕ → List ℕ) {l k : List ℕ} → Perm l k → Perm (flat_map f l) (flat_map f k)
unfolding flat_map
flat-perm f same = same
flat-perm f (skip x p) = perm-left (f x) (flat-perm f p)
flat-perm f (flip x y l) =
    thru (perm-eq (sym (append_assoc (f x) (f y) (flat_map f l))))
    (thru (perm-right (flat_map f l) (perm-swap (f x) (f y))) (perm-eq (append_assoc (f y) (f x) (flat_map f l))))
flat-perm f (thru p q) = thru (flat-perm f p) (flat-perm f q)

module _ {bytes others : List ℕ} {T N U M : ℕ} {a b : Machine} (f : SheetFields bytes T N a) (g : SheetFields others U M b) (firsts seconds : List ℕ) (sorted-first : Perm firsts (link_keys a)) (sorted-second : Perm seconds (link_keys b)) (n : ℕ) (own : n ≡ M) where
  nodes-few : nodes a ≤ node_limit
  nodes-few = omega (arith, f.nodes-are, f.few-nodes)

  others-few : nodes b ≤ node_limit
  others-few = omega (arith, g.nodes-are, g.few-nodes)

  links-few : length a.links ≤ link_limit
  links-few = omega (arith, f.links-are, f.few-links)

  partners-few : length b.links ≤ link_limit
  partners-few = omega (arith, g.links-are, g.few-links)

  -- the order in which they are found does not matter
  any-order : Perm (found n seconds firsts) (found (nodes b) seconds (link_keys a))
  unfolding found
  any-order = thru (flat-perm (pairs_of n seconds) sorted-first) (perm-eq (ap (λ (k : ℕ). found k seconds (link_keys a)) (own ∙ sym g.nodes-are)))

  as_many : length (found n seconds firsts) ≡ length (pairs a b)
  as_many = perm-length any-order ∙ found-length a b f.climbs g.climbs nodes-few others-few links-few partners-few seconds sorted-second

  -- too many to put are too many pairs
  pub too-many : (before after : List ℕ) → Put 0 (found n seconds firsts) before after None → PairsFound a b after None
  too-many before after p = record { placed = omega (arith, p.placed, as_many) }

  -- what was put, sorted, is all of them
  pub all-sorted : (before after keys : List ℕ) (count : ℕ) → link_limit ≤ length before → Put 0 (found n seconds firsts) before after (Some count) → Sorted (length (take count after)) (take count after) keys
      → PairsFound a b (keys ++ drop count after) (Some count)
  all-sorted before after keys count room p s =
      let l = found n seconds firsts in
      let q = p.placed in
      let long : count ≡ length l = omega (arith, q.1) in
      let front : take count after ≡ l = (λ i. take (long i) ((q.2 ∙ sets-eq l before 0 (omega (arith, q.0, long))) i)) ∙ take-append_seam l (drop (0 + length l) before) in
      let size : count ≡ length keys = omega (arith, s.size, length-take-le count after (omega (arith, q.0, p.size))) in record {
        placed = (
          q.0,
          long ∙ as_many,
          ap (λ (k : ℕ). take k (keys ++ drop count after)) size ∙ take-append_seam keys (drop count after) ∙ sym (sorted-front (take count after) keys s)
              ∙ found-sorted a b f.climbs g.climbs nodes-few others-few links-few partners-few seconds sorted-second (take count after) keys (thru (perm-eq front) any-order) s,
        );
      }
