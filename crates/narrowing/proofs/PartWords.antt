-- The words of the two parts by those of the whole: of the first part's links and of both parts' nodes. Assumes nothing.
use mathlib.Core.Path.{◌≡◌, refl, sym, ap, ◌∙◌}
use mathlib.Core.Logic.{◌⊎◌, inl, inr}
use mathlib.Core.Bool.{Bool, true, false, cond}
use mathlib.Core.Option.{Option, none, some}
use mathlib.Core.List.{List, [], ◌∷◌, ◌++◌, map, flat_map, append_assoc}
use Prim.Native.Nat.{ℕ, zero, suc, ◌+◌, ◌-◌, ◌*◌, ◌≤◌, ◌<◌}
use native.Mathlib.Nat.{zero-add}
use native.Mathlib.Decide.{ℕ_discrete}
use native.Mathlib.Omega.{arith}
use lib.Dec.{eqb}
use lib.ListN.{length, take, drop}
use lib.Seq.{take-nil, drop-nil, length-take-le}
use borrow.Author.Tests.{lt-ltb, le-ltb, le-leb, lt-leb, eq-eqb, ne_eqb}
use Rattle.tropical_weight.specs.Tropical.{Tropical, one}
use Rattle.sheet.specs.Sheet.{link_words, node_words}
use Rattle.sheet.specs.Machine.{Link, Machine, unit_in, link_fields, leaving, final_fields, node_fields}
use Rattle.sheet.proofs.Apart.{not-both}
use Rattle.sheet.proofs.Below.{split_at}
use Rattle.sheet.proofs.Encoding.{bits-one}
use Rattle.sheet.proofs.Forms.{covered}
use Rattle.machine.specs.Readings.{keep}
use Rattle.machine.specs.Climbs.{Climbs}
use Rattle.narrowing.specs.Parts.{is_before, is_after, preheat, from_node, bake}
use Rattle.narrowing.proofs.Seam.{seam, before-take}

-- ---- how many links leave a node, of those that pass a test
-- all of them, where the node's links do
leaving-kept : (p : Link → Bool) (v : ℕ) (ks : List Link) → ((k : Link) → k.source ≡ v → p k ≡ true) → leaving (keep p ks) v ≡ leaving ks v
unfolding keep leaving
leaving-kept p v [] f = refl
leaving-kept p v (k ∷ ks) f = go (p k) refl (leaving-kept p v ks f)
  where
    go : (t : Bool) → p k ≡ t → leaving (keep p ks) v ≡ leaving ks v → leaving (cond t (k ∷ keep p ks) (keep p ks)) v ≡ cond (eqb k.source v) (suc (leaving ks v)) (leaving ks v)
    go true q h = ap (λ (n : ℕ). cond (eqb k.source v) (suc n) n) h
    go false q h = h ∙ sym (ap (λ (b : Bool). cond b (suc (leaving ks v)) (leaving ks v)) (ne_eqb k.source v (λ e. not-both (f k e) q)))

-- none, where they do not
leaving-none : (p : Link → Bool) (v : ℕ) (ks : List Link) → ((k : Link) → k.source ≡ v → p k ≡ false) → leaving (keep p ks) v ≡ 0
unfolding keep leaving
leaving-none p v [] f = refl
leaving-none p v (k ∷ ks) f = go (p k) refl (leaving-none p v ks f)
  where
    go : (t : Bool) → p k ≡ t → leaving (keep p ks) v ≡ 0 → leaving (cond t (k ∷ keep p ks) (keep p ks)) v ≡ 0
    go true q h = ap (λ (b : Bool). cond b (suc (leaving (keep p ks) v)) (leaving (keep p ks) v)) (ne_eqb k.source v (λ e. not-both q (f k e))) ∙ h
    go false q h = h

-- nodes counted from c
leaving-from : (c v : ℕ) (ks : List Link) → leaving (map (from_node c) (keep (is_after c) ks)) v ≡ leaving ks (c + v)
unfolding keep leaving
leaving-from c v [] = refl
leaving-from c v (k ∷ ks) = go (split_at k.source c) (leaving-from c v ks)
  where
    rest : List Link
    rest = map (from_node c) (keep (is_after c) ks)

    go : (k.source < c) ⊎ (c ≤ k.source) → leaving rest v ≡ leaving ks (c + v)
        → leaving (map (from_node c) (cond (is_after c k) (k ∷ keep (is_after c) ks) (keep (is_after c) ks))) v ≡ cond (eqb k.source (c + v)) (suc (leaving ks (c + v))) (leaving ks (c + v))
    go (inl b) h = simp (lt-leb c k.source b, ne_eqb k.source (c + v) (λ e. omega (arith, e))) h
    go (inr b) h = simp (le-leb c k.source b) ((λ i. cond (same i) (suc (h i)) (h i)))
      where
        same : eqb (k.source - c) v ≡ eqb k.source (c + v)
        same = elim (ℕ_discrete k.source (c + v)) [
          | yes e ↦ eq-eqb (k.source - c) v (omega (arith, e)) ∙ sym (eq-eqb k.source (c + v) e)
          | no d ↦ ne_eqb (k.source - c) v (λ e. d (omega (arith, e))) ∙ sym (ne_eqb k.source (c + v) d)
        ]

-- ---- the words of the first links, four a link, and of the first nodes and the others, three a node, in units of 1 / 2 ^ j
module _ (j : ℕ) where
  take-links : (n : ℕ) (ks : List Link) → flat_map (link_fields j) (take n ks) ≡ take (link_words * n) (flat_map (link_fields j) ks)
  unfolding flat_map
  take-links zero ks = refl
  take-links (suc n) [] = sym (take-nil (link_words * suc n))
  take-links (suc n) (k ∷ ks) =
      ap (λ (l : List ℕ). link_fields j k ++ l) (take-links n ks)
      ∙ ap (λ (i : ℕ). take i (link_fields j k ++ flat_map (link_fields j) ks)) (let e : suc (suc (suc (suc (link_words * n)))) ≡ link_words * suc n = omega arith in e)

  take-nodes : (n : ℕ) (ks : List Link) (v : ℕ) (fs : List (Option Tropical)) → node_fields j ks v (take n fs) ≡ take (node_words * n) (node_fields j ks v fs)
  unfolding node_fields
  take-nodes zero ks v fs = refl
  take-nodes (suc n) ks v [] = sym (take-nil (node_words * suc n))
  take-nodes (suc n) ks v (f ∷ fs) =
      ap (λ (l : List ℕ). (leaving ks v ∷ final_fields j f) ++ l) (take-nodes n ks (suc v) fs) ∙ go f
      ∙ ap (λ (i : ℕ). take i ((leaving ks v ∷ final_fields j f) ++ node_fields j ks (suc v) fs)) (let e : suc (suc (suc (node_words * n))) ≡ node_words * suc n = omega arith in e)
    where
      go : (f : Option Tropical) → (leaving ks v ∷ final_fields j f) ++ take (node_words * n) (node_fields j ks (suc v) fs) ≡ take (suc (suc (suc (node_words * n)))) ((leaving ks v ∷ final_fields j f) ++ node_fields j ks (suc v) fs)
      go none = refl
      go (some w) = refl

  drop-nodes : (n : ℕ) (ks : List Link) (v : ℕ) (fs : List (Option Tropical)) → node_fields j ks (v + n) (drop n fs) ≡ drop (node_words * n) (node_fields j ks v fs)
  unfolding node_fields
  drop-nodes zero ks v fs = ap (λ (u : ℕ). node_fields j ks u fs) (let e : v + 0 ≡ v = omega arith in e)
  drop-nodes (suc n) ks v [] = sym (drop-nil (node_words * suc n))
  drop-nodes (suc n) ks v (f ∷ fs) =
      ap (λ (u : ℕ). node_fields j ks u (drop n fs)) (let e : v + suc n ≡ suc v + n = omega arith in e)
      ∙ drop-nodes n ks (suc v) fs ∙ go f
      ∙ ap (λ (i : ℕ). drop i ((leaving ks v ∷ final_fields j f) ++ node_fields j ks (suc v) fs)) (let e : suc (suc (suc (node_words * n))) ≡ node_words * suc n = omega arith in e)
    where
      go : (f : Option Tropical) → drop (node_words * n) (node_fields j ks (suc v) fs) ≡ drop (suc (suc (suc (node_words * n)))) ((leaving ks v ∷ final_fields j f) ++ node_fields j ks (suc v) fs)
      go none = refl
      go (some w) = refl

  nodes-append : (ks : List Link) (v : ℕ) (fs gs : List (Option Tropical)) → node_fields j ks v (fs ++ gs) ≡ node_fields j ks v fs ++ node_fields j ks (v + length fs) gs
  unfolding node_fields
  nodes-append ks v [] gs = ap (λ (u : ℕ). node_fields j ks u gs) (let e : v ≡ v + 0 = omega arith in e)
  nodes-append ks v (f ∷ fs) gs =
      ap (λ (l : List ℕ). (leaving ks v ∷ final_fields j f) ++ l) (nodes-append ks (suc v) fs gs ∙ ap (λ (u : ℕ). node_fields j ks (suc v) fs ++ node_fields j ks u gs) (let e : suc v + length fs ≡ v + suc (length fs) = omega arith in e))
      ∙ sym (append_assoc (leaving ks v ∷ final_fields j f) (node_fields j ks (suc v) fs) (node_fields j ks (v + suc (length fs)) gs))

  -- of nodes that as many links leave
  nodes-same : (ks ls : List Link) (v u : ℕ) (fs : List (Option Tropical)) → ((i : ℕ) → i < length fs → leaving ks (v + i) ≡ leaving ls (u + i)) → node_fields j ks v fs ≡ node_fields j ls u fs
  unfolding node_fields
  nodes-same ks ls v u [] h = refl
  nodes-same ks ls v u (f ∷ fs) h = λ i. (first i ∷ final_fields j f) ++ nodes-same ks ls (suc v) (suc u) fs rest i
    where
      first : leaving ks v ≡ leaving ls u
      first = ap (leaving ks) (let e : v ≡ v + 0 = omega arith in e) ∙ h 0 (omega arith) ∙ ap (leaving ls) (let e : u + 0 ≡ u = omega arith in e)

      rest : (i : ℕ) → i < length fs → leaving ks (suc v + i) ≡ leaving ls (suc u + i)
      rest i b = ap (leaving ks) (let e : suc v + i ≡ v + suc i = omega arith in e) ∙ h (suc i) (omega arith) ∙ ap (leaving ls) (let e : u + suc i ≡ suc u + i = omega arith in e)

-- ---- the two parts
module _ (c : ℕ) (m : Machine) where
  -- as many links leave a node below c, none leaves c in the first part, and in the second as many as in the whole
  leaving-before : (v : ℕ) → v < c → leaving (preheat c m).links v ≡ leaving m.links v
  unfolding preheat
  leaving-before v h = leaving-kept (is_before c) v m.links (λ k e. lt-ltb k.source c (omega (arith, e)))

  leaving-at : leaving (preheat c m).links c ≡ 0
  unfolding preheat
  leaving-at = leaving-none (is_before c) c m.links (λ k e. le-ltb k.source c (omega (arith, e)))

  leaving-after : (v : ℕ) → leaving (bake c m).links v ≡ leaving m.links (c + v)
  unfolding bake
  leaving-after v = leaving-from c v m.links

  -- the links that leave nodes below c are the first
  pub first-words : Climbs m → flat_map (link_fields (unit_in (preheat c m))) (preheat c m).links ≡ take (link_words * seam c m) (flat_map (link_fields (unit_in m)) m.links)
  unfolding preheat
  first-words k = ap (flat_map (link_fields (unit_in m))) (before-take c m k) ∙ take-links (unit_in m) (seam c m) m.links

  -- the nodes below c, and c with mark 1, weight 0 and no links
  pub first-node-words : c < length m.finals
      → node_fields (unit_in (preheat c m)) (preheat c m).links 0 (preheat c m).finals ≡ take (node_words * c) (node_fields (unit_in m) m.links 0 m.finals) ++ (0 ∷ 1 ∷ 0 ∷ [])
  unfolding preheat node_fields
  first-node-words h =
      let j = unit_in m in
      let ks = keep (is_before c) m.links in
      let front = take c m.finals in
      let size : length front ≡ c = length-take-le c m.finals (omega arith) in
      let same = nodes-same j ks m.links 0 0 front (λ v b. leaving-before (0 + v) (omega (arith, size))) ∙ take-nodes j c m.links 0 m.finals in
      let at : leaving ks (0 + length front) ≡ 0 = ap (leaving ks) (zero-add (length front) ∙ size) ∙ leaving-at in
      nodes-append j ks 0 front (some one ∷ []) ∙ λ i. same i ++ (at i ∷ 1 ∷ bits-one j (covered m.form) i ∷ [])

  -- the nodes from c on, as they are
  pub second-node-words : node_fields (unit_in (bake c m)) (bake c m).links 0 (bake c m).finals ≡ drop (node_words * c) (node_fields (unit_in m) m.links 0 m.finals)
  unfolding bake
  second-node-words =
      let j = unit_in m in
      nodes-same j (bake c m).links m.links 0 c (drop c m.finals) (λ v h. ap (leaving (bake c m).links) (zero-add v) ∙ leaving-after v)
      ∙ ap (λ (u : ℕ). node_fields j m.links u (drop c m.finals)) (sym (zero-add c)) ∙ drop-nodes j c m.links 0 m.finals
