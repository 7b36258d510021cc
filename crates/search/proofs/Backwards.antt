-- What links the reversed machine has: its distances are consistent with them, none comes twice, and each leads to a node from 1 to N. Assumes nothing.
use mathlib.Core.Path.{◌≡◌, refl, sym, ap, ap₂, ◌∙◌, subst}
use mathlib.Core.Logic.{◌⊎◌, inl, inr}
use mathlib.Core.Bool.{Bool, true, false, cond}
use mathlib.Core.Option.{Option, none, some, some-injective}
use mathlib.Core.List.Memᴰ
use mathlib.Core.List.{List, [], ◌∷◌}
use Prim.Native.Nat.{ℕ, zero, suc, ◌+◌, ◌<◌}
use native.Mathlib.Omega.{arith}
use lib.Dec.{eqb}
use lib.ListN.{get_or, length}
use borrow.Author.Tests.{eqb-true, eq-eqb}
use Rattle.tropical_weight.specs.Tropical.{Tropical, one, ◌≼◌, ◌⊗◌}
use Rattle.tropical_weight.proofs.Semiring.{≼-eq, ≼_trans}
use Rattle.sheet.specs.Machine.{Link, Machine}
use Rattle.machine.specs.Readings.{no_link, link, final, final_weight}
use Rattle.machine.specs.Climbs.{Climbs}
use Rattle.machine.specs.Distance.{as_weight, dist, total}
use Rattle.machine.proofs.Named.{weight-of}
use Rattle.machine.specs.Demand.{◌∈◌, NoDup}
use Rattle.machine.proofs.Runs.{at_some}
use Rattle.machine.proofs.Readings.{final-in}
use Rattle.machine.proofs.Distance.{total-below, dist-start, dist-link}
use Rattle.search.specs.Reversed.{Back, out_of_zero, links_into, out_of, is_end, distance_to, reversed}
use Rattle.search.proofs.Trails.{Consistent}

-- ---- numbered lists
-- x has number i on the list, whose first has number k
abbrev At : {A : Type 0} → List A → ℕ → ℕ → A → Type 0
At [] k i x = ⊥
At (y ∷ l) k i x = ((i ≡ k) × (x ≡ y)) ⊎ At l (suc k) i x

at-get : {A : Type 0} (d : A) (l : List A) (k i : ℕ) (x : A) → At l k i x → (j : ℕ) × (i ≡ k + j) × (j < length l) × (x ≡ get_or l j d)
at-get d [] k i x h = absurd h
at-get d (y ∷ l) k i x h = elim h [
  | inl e ↦ (0, omega (arith, e.0), omega arith, e.1)
  | inr q ↦ let r = at-get d l (suc k) i x q in (suc r.0, omega (arith, r.1), omega (arith, r.2), r.3)
]

get_at : {A : Type 0} (d : A) (l : List A) (k i j : ℕ) → i ≡ k + j → j < length l → At l k i (get_or l j d)
get_at d [] k i j e h = absurd (omega arith)
get_at d (y ∷ l) k i zero e h = inl (omega arith, refl)
get_at d (y ∷ l) k i (suc j) e h = inr (get_at d l (suc k) i j (omega arith) (omega arith))

-- where the first has number 0
at_place : {A : Type 0} (d : A) (l : List A) (i : ℕ) (x : A) → At l 0 i x → (i < length l) × (x ≡ get_or l i d)
at_place d l i x h =
    let r = at-get d l 0 i x h in
    let e : r.0 ≡ i = omega (arith, r.1) in
    (omega (arith, r.2), r.3 ∙ ap (λ j. get_or l j d) e)

-- ---- the links of the reversed machine
-- to a final node
abbrev pub to_final : ℕ → Tropical → Back
to_final v w = record { input = none; weight = w; next = suc v }

-- against link k, whose number is l
abbrev pub against : ℕ → Link → Back
against l k = record { input = some l; weight = k.weight; next = suc k.source }

zero-at : (fs : List (Option Tropical)) (v : ℕ) (b : Back) → b ∈ out_of_zero fs v → (u : ℕ) × (w : Tropical) × At fs v u (some w) × (b ≡ to_final u w)
unfolding out_of_zero
zero-at [] v b h = absurd (Memᴰ.not-nil h)
zero-at (none ∷ fs) v b h = let x = zero-at fs (suc v) b h in (x.0, x.1, inr x.2, x.3)
zero-at (some w ∷ fs) v b h = elim (Memᴰ.cases_cons h) [
  | inl e ↦ (v, w, inl (refl, refl), e)
  | inr q ↦ let x = zero-at fs (suc v) b q in (x.0, x.1, inr x.2, x.3)
]

at_zero : (fs : List (Option Tropical)) (v u : ℕ) (w : Tropical) → At fs v u (some w) → to_final u w ∈ out_of_zero fs v
unfolding out_of_zero
at_zero [] v u w h = absurd h
at_zero (none ∷ fs) v u w h = elim h [
  | inl e ↦ let q = e.1 in let z : ◌≡◌ {A = ℕ} 0 1 = cc in absurd (omega arith)
  | inr q ↦ at_zero fs (suc v) u w q
]
at_zero (some x ∷ fs) v u w h = elim h [
  | inl e ↦ Memᴰ.head (ap₂ to_final e.0 (some-injective w x e.1))
  | inr q ↦ Memᴰ.tail (at_zero fs (suc v) u w q)
]

zero-once : (fs : List (Option Tropical)) (v : ℕ) → NoDup (out_of_zero fs v)
unfolding out_of_zero
zero-once [] v = tt
zero-once (none ∷ fs) v = zero-once fs (suc v)
zero-once (some w ∷ fs) v = (later, zero-once fs (suc v))
  where
    later : to_final v w ∈ out_of_zero fs (suc v) → ⊥
    later h = let x = zero-at fs (suc v) (to_final v w) h in let y = at-get none fs (suc v) x.0 (some x.1) x.2 in omega (arith, ap (λ (b : Back). b.next) x.3, y.1)

-- number i is a link into v, and b goes against it
abbrev Into : ℕ → List Link → ℕ → Back → Type 0
Into v ks l b = (i : ℕ) × (k : Link) × At ks l i k × (k.next ≡ v) × (b ≡ against i k)

into-at : (v : ℕ) (ks : List Link) (l : ℕ) (b : Back) → b ∈ links_into v ks l → Into v ks l b
unfolding links_into
into-at v [] l b h = absurd (Memᴰ.not-nil h)
into-at v (k ∷ ks) l b h = go (eqb k.next v) refl h (into-at v ks (suc l) b)
  where
    later : Into v ks (suc l) b → Into v (k ∷ ks) l b
    later x = (x.0, x.1, inr x.2, x.3, x.4)

    go : (t : Bool) → eqb k.next v ≡ t → b ∈ cond t (against l k ∷ links_into v ks (suc l)) (links_into v ks (suc l)) → (b ∈ links_into v ks (suc l) → Into v ks (suc l) b) → Into v (k ∷ ks) l b
    go false e h ih = later (ih h)
    go true e h ih = elim (Memᴰ.cases_cons h) [ inl q ↦ (l, k, inl (refl, refl), eqb-true k.next v e, q) | inr q ↦ later (ih q) ]

at_into : (v : ℕ) (ks : List Link) (l i : ℕ) (k : Link) → At ks l i k → k.next ≡ v → against i k ∈ links_into v ks l
unfolding links_into
at_into v [] l i k h e = absurd h
at_into v (j ∷ ks) l i k h e = elim h [
  | inl q ↦
      subst (λ t. against i k ∈ cond t (against l j ∷ links_into v ks (suc l)) (links_into v ks (suc l)))
      (sym (eq-eqb j.next v (ap (λ (y : Link). y.next) (sym q.1) ∙ e)))
      (Memᴰ.head (ap₂ against q.0 q.1))
  | inr q ↦ kept (eqb j.next v) (at_into v ks (suc l) i k q e)
]
  where
    kept : (t : Bool) → against i k ∈ links_into v ks (suc l) → against i k ∈ cond t (against l j ∷ links_into v ks (suc l)) (links_into v ks (suc l))
    kept true q = Memᴰ.tail q
    kept false q = q

into-once : (v : ℕ) (ks : List Link) (l : ℕ) → NoDup (links_into v ks l)
unfolding links_into
into-once v [] l = tt
into-once v (k ∷ ks) l = go (eqb k.next v) (into-once v ks (suc l))
  where
    later : against l k ∈ links_into v ks (suc l) → ⊥
    later h =
        let x = into-at v ks (suc l) (against l k) h in
        let y = at-get no_link ks (suc l) x.0 x.1 x.2 in
        omega (arith, some-injective l x.0 (ap (λ (b : Back). b.input) x.4), y.1)

    go : (t : Bool) → NoDup (links_into v ks (suc l)) → NoDup (cond t (against l k ∷ links_into v ks (suc l)) (links_into v ks (suc l)))
    go true n = (later, n)
    go false n = n

-- the distances that ranks are made of, as weights
abbrev pub weight_to : Machine → ℕ → Tropical
weight_to m zero = total m
weight_to m (suc v) = dist m v

pub weight-to : (m : Machine) (q : ℕ) → as_weight (distance_to m q) ≡ weight_to m q
weight-to m zero = weight-of (total m)
weight-to m (suc v) = weight-of (dist m v)

module _ (m : Machine) where
  -- ---- out of node 0 to the final nodes
  pub out-final : (b : Back) → b ∈ out_of m 0 → (u : ℕ) × (w : Tropical) × (final m u ≡ some w) × (b ≡ to_final u w)
  out-final b h = let x = zero-at m.finals 0 b h in (x.0, x.1, sym (at_place none m.finals x.0 (some x.1) x.2).1, x.3)

  pub final-out : (u : ℕ) (w : Tropical) → final m u ≡ some w → to_final u w ∈ out_of m 0
  final-out u w e = at_zero m.finals 0 u w (subst (At m.finals 0 u) e (get_at none m.finals 0 u u (omega arith) (final-in m u w e)))

  -- ---- out of v + 1 against the links into v
  pub out-link : (v : ℕ) (b : Back) → b ∈ out_of m (suc v) → (l : ℕ) × (l < length m.links) × ((link m l).next ≡ v) × (b ≡ against l (link m l))
  out-link v b h =
      let x = into-at v m.links 0 b h in
      let y = at_place no_link m.links x.0 x.1 x.2 in
      (x.0, y.0, ap (λ (k : Link). k.next) (sym y.1) ∙ x.3, x.4 ∙ ap (against x.0) y.1)

  pub link-out : (l : ℕ) → l < length m.links → against l (link m l) ∈ out_of m (suc (link m l).next)
  link-out l h = at_into (link m l).next m.links 0 l (link m l) (get_at no_link m.links 0 l l (omega arith) h) refl

  out_once : (v : ℕ) → NoDup (out_of m v)
  out_once zero = zero-once m.finals 0
  out_once (suc v) = into-once v m.links 0

  -- no link leads to node 0
  pub leads-up : (v : ℕ) (b : Back) → b ∈ out_of m v → 0 < b.next
  leads-up zero b h = let x = out-final b h in omega (arith, ap (λ (b : Back). b.next) x.3)
  leads-up (suc v) b h = let x = out-link v b h in omega (arith, ap (λ (b : Back). b.next) x.3)

  module _ (c : Climbs m) where
    pub leads-in : (v : ℕ) (b : Back) → b ∈ out_of m v → b.next < suc (length m.finals)
    leads-in zero b h = let x = out-final b h in omega (arith, ap (λ (b : Back). b.next) x.3, final-in m x.0 x.1 x.2)
    leads-in (suc v) b h = let x = out-link v b h in omega (arith, ap (λ (b : Back). b.next) x.3, c.rises x.0 x.1, c.inside x.0 x.1)

    -- no link beats the distances
    link-step : (v : ℕ) (b : Back) → b ∈ out_of m v → weight_to m v ≼ weight_to m b.next ⊗ b.weight
    link-step zero b h =
        let x = out-final b h in
        ≼_trans (total-below m x.0 (final-in m x.0 x.1 x.2))
        (≼-eq (ap (λ o. dist m x.0 ⊗ final_weight o) x.2 ∙ ap (λ (y : Back). weight_to m y.next ⊗ y.weight) (sym x.3)))
    link-step (suc v) b h =
        let x = out-link v b h in
        ≼_trans (≼-eq (ap (dist m) (sym x.2))) (≼_trans (dist-link m c x.0 x.1) (≼-eq (ap (λ (y : Back). weight_to m y.next ⊗ y.weight) (sym x.3))))

    end_step : (v : ℕ) → is_end m v ≡ true → weight_to m v ≼ one
    end_step zero e = let z : ◌≡◌ {A = ℕ} 0 1 = cc in absurd (omega arith)
    end_step (suc v) e = ≼-eq (dist-start m c v (at_some m.start v e))

    pub consistent : Consistent (reversed m)
    consistent = record {
      on-link = λ v b h. ≼_trans (≼-eq (weight-to m v)) (≼_trans (link-step v b h) (≼-eq (ap (λ x. x ⊗ b.weight) (sym (weight-to m b.next)))));
      at-end = λ v e. ≼_trans (≼-eq (weight-to m v)) (end_step v e);
      once = out_once;
    }
