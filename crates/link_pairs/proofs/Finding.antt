-- The pairs that are found are the pairs of the product, each once; their keys climb in the product's order. Assumes nothing.
use mathlib.Core.Path.{◌≡◌, refl, sym, ap, ◌∙◌, subst}
use mathlib.Core.Bool.{Bool, true, false, cond}
use mathlib.Core.List.Memᴰ
use mathlib.Core.List.{List, [], ◌∷◌, ◌++◌, map, map-id}
use Prim.Native.Nat.{ℕ, zero, suc, ◌+◌, ◌*◌, ◌≤◌, ◌<◌}
use native.Mathlib.Omega.{arith}
use lib.Dec.{eqb}
use lib.ListN.{length, take, length-map}
use lib.Seq.{take-length}
use borrow.Author.Tests.{eqb-true, eq-eqb}
use Rattle.tropical_weight.specs.Limits.{node_limit, link_limit}
use Rattle.sheet.specs.Below.{list_below}
use Rattle.sheet.specs.Machine.{Machine}
use Rattle.sheet.proofs.Apart.{both}
use Rattle.machine.specs.Readings.{link, keep}
use Rattle.machine.specs.Climbs.{Climbs}
use Rattle.machine.specs.Demand.{◌∈◌, NoDup}
use Rattle.machine.proofs.Lists.{Perm, thru, perm-eq, mem-eq, map-mem, mem-map, below-mem, mem_below, map-append, nodup_append, nodup-map-in, nodup-length, perm-mem, perm-sym, perm-nodup, keep-mem, mem-keep, keep-nodup}
use Rattle.sorted_keys.specs.Sorted.{Sorted, Climbing}
use Rattle.sorted_keys.proofs.Orders.{climbing-one, climbing-append, sorted-is}
use Rattle.product.specs.Joins.{join_below}
use Rattle.product.specs.Product.{Pair, nodes, source_for, meet, pair_if, pairs}
use Rattle.product.specs.Keys.{link_key, key_label, key_node, key_link, link_keys, pair_key, pair_keys}
use Rattle.product.proofs.Joins.{flat-below, join-same, join-mem, mem-join, join-nodup-below}
use Rattle.product.proofs.Pairs.{pairs-meet, pairs-once, meet-pairs, of_node, of-link, in_one, first-inside, second-inside}
use Rattle.link_pairs.specs.Found.{partners, pair_of, pairs_of, found}
use Rattle.link_pairs.proofs.LinkKeys.{key_at}

-- ---- lists below a bound, joined
map-join : (g : Pair → ℕ) (n : ℕ) (f : ℕ → List Pair) → map g (join_below n f) ≡ join_below n (λ i. map g (f i))
unfolding join_below
map-join g zero f = refl
map-join g (suc n) f = map-append g (join_below n f) (f n) ∙ ap (λ (l : List ℕ). l ++ map g (f n)) (map-join g n f)

join-climbs : (n : ℕ) (f : ℕ → List ℕ) → ((i : ℕ) → i < n → Climbing (f i)) → ((i j x y : ℕ) → i < j → j < n → x ∈ f i → y ∈ f j → x < y) → Climbing (join_below n f)
unfolding join_below
join-climbs zero f each across = tt
join-climbs (suc n) f each across =
    climbing-append (join_below n f) (f n) (join-climbs n f (λ i h. each i (omega arith)) (λ i j x y h o. across i j x y h (omega arith))) (each n (omega arith))
    (λ x y p q. let r = mem-join n f p in across r.0 n x y r.1 (omega arith) r.2 q)

-- different values below a bound
nodup-below : (f : ℕ → ℕ) (n : ℕ) → ((i j : ℕ) → i < n → j < n → f i ≡ f j → i ≡ j) → NoDup (list_below n f)
unfolding list_below
nodup-below f zero one = tt
nodup-below f (suc n) one =
    nodup_append (list_below n f) (f n ∷ []) (nodup-below f n (λ i j h o. one i j (omega arith) (omega arith))) (λ h. Memᴰ.not-nil h, tt)
    (λ x p q. let r = mem_below f n p in let e = one r.0 n (omega (arith, r.1)) (omega arith) (sym r.2 ∙ Memᴰ.eq_of_singleton q) in omega (arith, e, r.1))

-- ---- keys tell what they are made of
module _ (label node l : ℕ) (h : node < node_limit) (o : l < link_limit) where
  key-label : key_label (link_key label node l) ≡ label
  key-label = omega arith

  key-node : key_node (link_key label node l) ≡ node
  key-node = omega arith

  key-link : key_link (link_key label node l) ≡ l
  key-link = omega arith

-- the key of a pair
abbrev key_of : Machine → Machine → Pair → ℕ
key_of a b p = pair_key (source_for a b p.first p.second) p.first p.second

module _ (a b : Machine) (c : Climbs a) (d : Climbs b) (few-first : nodes a ≤ node_limit) (few-second : nodes b ≤ node_limit)
    (short-first : length a.links ≤ link_limit) (short-second : length b.links ≤ link_limit) where
  -- ---- the keys of the product's pairs climb
  in-key : (v l k : ℕ) {x : ℕ} → x ∈ map (key_of a b) (pair_if a b v l k) → x ≡ pair_key v l k
  in-key v l k m =
      let r = mem-map (key_of a b) (pair_if a b v l k) m in
      let s = in_one a b v l k r.1 in
      let t = both (eqb (source_for a b l k) v) (eqb (link a l).ilabel (link b k).ilabel) s.0 in
      r.2 ∙ ap (key_of a b) s.1 ∙ ap (λ (u : ℕ). pair_key u l k) (eqb-true (source_for a b l k) v t.0)

  one-climbs : (t : Bool) (p : Pair) → Climbing (map (key_of a b) (cond t (p ∷ []) []))
  one-climbs true p = climbing-one (key_of a b p)
  one-climbs false p = tt

  abbrev keys-link : ℕ → ℕ → List ℕ
  keys-link v l = join_below (length b.links) (λ k. map (key_of a b) (pair_if a b v l k))

  abbrev keys-node : ℕ → List ℕ
  keys-node v = join_below (length a.links) (keys-link v)

  in-keys : (v l : ℕ) {x : ℕ} → x ∈ keys-link v l → (k : ℕ) × (k < length b.links) × (x ≡ pair_key v l k)
  in-keys v l m = let r = mem-join (length b.links) (λ k. map (key_of a b) (pair_if a b v l k)) m in (r.0, r.1, in-key v l r.0 r.2)

  in-nodes : (v : ℕ) {x : ℕ} → x ∈ keys-node v → (l k : ℕ) × (l < length a.links) × (k < length b.links) × (x ≡ pair_key v l k)
  in-nodes v m = let r = mem-join (length a.links) (keys-link v) m in let s = in-keys v r.0 r.2 in (r.0, s.0, r.1, s.1, s.2)

  keys-joined : pair_keys a b ≡ join_below (nodes a * nodes b) keys-node
  unfolding pair_keys pairs
  keys-joined =
      map-join (key_of a b) (nodes a * nodes b) (of_node a b)
      ∙ join-same (nodes a * nodes b) (λ v. map (key_of a b) (of_node a b v)) keys-node (λ v.
      map-join (key_of a b) (length a.links) (of-link a b v)
      ∙ join-same (length a.links) (λ l. map (key_of a b) (of-link a b v l)) (keys-link v) (λ l. map-join (key_of a b) (length b.links) (λ k. pair_if a b v l k)))

  pub pair-keys-climb : Climbing (pair_keys a b)
  pair-keys-climb = subst Climbing (sym keys-joined)
      (join-climbs (nodes a * nodes b) keys-node
      (λ v h. join-climbs (length a.links) (keys-link v)
      (λ l o. join-climbs (length b.links) (λ k. map (key_of a b) (pair_if a b v l k)) (λ k e. one-climbs (meet a b v l k) (record { first = l; second = k }))
      (λ i j x y e f p q. omega (arith, in-key v l i p, in-key v l j q)))
      (λ i j x y e f p q. let r = in-keys v i p in let s = in-keys v j q in omega (arith, r.1, r.2, s.2)))
      (λ i j x y e f p q. let r = in-nodes i p in let s = in-nodes j q in omega (arith, r.2, r.3, r.4, s.4)))

  -- none of them is there twice, nor is one of the second's links
  keys-once : NoDup (pair_keys a b)
  unfolding pair_keys
  keys-once = nodup-map-in (key_of a b) (pairs a b) (λ p q m n e.
      let r = pairs-meet a b m in
      let s = pairs-meet a b n in
      let same-first : p.first ≡ q.first = omega (arith, e, r.in-first, r.in-second, s.in-first, s.in-second) in
      let same-second : p.second ≡ q.second = omega (arith, e, r.in-first, r.in-second, s.in-first, s.in-second) in
      λ i. record { first = same-first i; second = same-second i }) (pairs-once a b)

  seconds-once : NoDup (link_keys b)
  unfolding link_keys
  seconds-once = nodup-below (key_at b) (length b.links) (λ i j h o e. omega (arith, e, h, o))

  -- ---- what is found, by any order of the second's keys
  module _ (seconds : List ℕ) (same : Perm seconds (link_keys b)) where
    abbrev of-key : ℕ → List ℕ
    of-key l = pairs_of (nodes b) seconds (key_at a l)

    found-joined : found (nodes b) seconds (link_keys a) ≡ join_below (length a.links) of-key
    unfolding found link_keys
    found-joined = flat-below (pairs_of (nodes b) seconds) (length a.links) (key_at a)

    -- the pair of two keys
    made : (l k : ℕ) → l < length a.links → k < length b.links → pair_of (nodes b) (key_at a l) (key_at b k) ≡ pair_key (source_for a b l k) l k
    made l k h o =
        let i = (first-inside a b c d l h).0 in
        let j = (second-inside a b c d k o).0 in
        let p : (link a l).source < node_limit = omega (arith, i) in
        let q : (link b k).source < node_limit = omega (arith, j) in
        let r : l < link_limit = omega arith in
        let s : k < link_limit = omega arith in
        λ z. pair_key (key-node (link a l).ilabel (link a l).source l p r z * nodes b + key-node (link b k).ilabel (link b k).source k q s z) (key-link (link a l).ilabel (link a l).source l p r z) (key-link (link b k).ilabel (link b k).source k q s z)

    label-first : (l : ℕ) → l < length a.links → key_label (key_at a l) ≡ (link a l).ilabel
    label-first l h = key-label (link a l).ilabel (link a l).source l (omega (arith, (first-inside a b c d l h).0)) (omega arith)

    label-second : (k : ℕ) → k < length b.links → key_label (key_at b k) ≡ (link b k).ilabel
    label-second k h = key-label (link b k).ilabel (link b k).source k (omega (arith, (second-inside a b c d k h).0)) (omega arith)

    -- a partner of a link
    in-partners : (l : ℕ) → l < length a.links → {x : ℕ} → x ∈ partners (key_at a l) seconds → (k : ℕ) × (k < length b.links) × (x ≡ key_at b k) × ((link a l).ilabel ≡ (link b k).ilabel)
    unfolding partners link_keys
    in-partners l h m =
        let r = keep-mem (λ k. eqb (key_label k) (key_label (key_at a l))) seconds m in
        let s = mem_below (key_at b) (length b.links) (perm-mem same r.0) in
        (s.0, s.1, s.2, sym (label-first l h) ∙ sym (eqb-true _ _ r.1) ∙ ap key_label s.2 ∙ label-second s.0 s.1)

    of-partner : (l k : ℕ) → l < length a.links → k < length b.links → (link a l).ilabel ≡ (link b k).ilabel → key_at b k ∈ partners (key_at a l) seconds
    unfolding partners link_keys
    of-partner l k h o e =
        mem-keep (λ k. eqb (key_label k) (key_label (key_at a l))) seconds (perm-mem (perm-sym same) (below-mem (key_at b) (length b.links) k o))
        (eq-eqb (key_label (key_at b k)) (key_label (key_at a l)) (label-second k o ∙ sym e ∙ sym (label-first l h)))

    in-found : (l : ℕ) → l < length a.links → {x : ℕ} → x ∈ of-key l → (k : ℕ) × (k < length b.links) × (x ≡ pair_key (source_for a b l k) l k) × ((link a l).ilabel ≡ (link b k).ilabel)
    in-found l h m =
        let r = mem-map (pair_of (nodes b) (key_at a l)) (partners (key_at a l) seconds) m in
        let s = in-partners l h r.1 in
        (s.0, s.1, r.2 ∙ ap (pair_of (nodes b) (key_at a l)) s.2 ∙ made l s.0 h s.1, s.3)

    found-pairs : (x : ℕ) → x ∈ found (nodes b) seconds (link_keys a) → x ∈ pair_keys a b
    unfolding pair_keys
    found-pairs x m =
        let r = mem-join (length a.links) of-key (subst (λ (l : List ℕ). x ∈ l) found-joined m) in
        let s = in-found r.0 r.1 r.2 in
        mem-eq (sym s.2) (map-mem (key_of a b) (meet-pairs a b c d (record { first = r.0; second = s.0 }) (record { in-first = r.1; in-second = s.1; same-label = s.3 })))

    pairs-found : (x : ℕ) → x ∈ pair_keys a b → x ∈ found (nodes b) seconds (link_keys a)
    unfolding pair_keys
    pairs-found x m =
        let r = mem-map (key_of a b) (pairs a b) m in
        let p = r.0 in
        let s = pairs-meet a b r.1 in
        subst (λ (l : List ℕ). x ∈ l) (sym found-joined)
        (join-mem (length a.links) of-key p.first s.in-first
        (mem-eq (made p.first p.second s.in-first s.in-second ∙ sym r.2)
        (map-mem (pair_of (nodes b) (key_at a p.first)) (of-partner p.first p.second s.in-first s.in-second s.same-label))))

    -- none of it twice
    partners-once : (key : ℕ) → NoDup (partners key seconds)
    unfolding partners
    partners-once key =
        let p : ℕ → Bool = λ k. eqb (key_label k) (key_label key) in
        subst NoDup (map-id (keep p seconds)) (keep-nodup (λ k. k) p seconds (subst NoDup (sym (map-id seconds)) (perm-nodup (perm-sym same) seconds-once)))

    of-key-once : (l : ℕ) → l < length a.links → NoDup (of-key l)
    of-key-once l h = nodup-map-in (pair_of (nodes b) (key_at a l)) (partners (key_at a l) seconds) (λ x y m n e.
        let r = in-partners l h m in
        let s = in-partners l h n in
        let z : pair_key (source_for a b l r.0) l r.0 ≡ pair_key (source_for a b l s.0) l s.0 = sym (made l r.0 h r.1) ∙ ap (pair_of (nodes b) (key_at a l)) (sym r.2) ∙ e ∙ ap (pair_of (nodes b) (key_at a l)) s.2 ∙ made l s.0 h s.1 in
        let k : r.0 ≡ s.0 = omega (arith, z, r.1, s.1) in
        r.2 ∙ ap (key_at b) k ∙ sym s.2) (partners-once (key_at a l))

    found-once : NoDup (found (nodes b) seconds (link_keys a))
    found-once = subst NoDup (sym found-joined) (join-nodup-below (length a.links) of-key of-key-once (λ i j x h o p q.
        let r = in-found i h p in
        let s = in-found j o q in
        omega (arith, sym r.2 ∙ s.2, r.1, s.1, h, o)))

    -- so there are as many
    pub found-length : length (found (nodes b) seconds (link_keys a)) ≡ length (pairs a b)
    unfolding pair_keys
    found-length =
        let l = found (nodes b) seconds (link_keys a) in
        omega (arith, nodup-length l (pair_keys a b) found-once found-pairs, nodup-length (pair_keys a b) l keys-once pairs-found, length-map (pairs a b) (key_of a b))

    -- and sorted they are the product's, in whatever order they were found
    pub found-sorted : (before after : List ℕ) → Perm before (found (nodes b) seconds (link_keys a)) → Sorted (length before) before after → take (length before) after ≡ pair_keys a b
    found-sorted before after p s =
        let all : Perm (take (length before) before) (found (nodes b) seconds (link_keys a)) = thru (perm-eq (take-length before)) p in
        sorted-is (length before) before after (pair_keys a b) s (omega arith) (perm-nodup (perm-sym all) found-once) pair-keys-climb
        (λ x m. perm-mem (perm-sym all) (pairs-found x m)) (λ x m. found-pairs x (perm-mem all m))
