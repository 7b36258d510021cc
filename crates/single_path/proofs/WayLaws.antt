-- The way back in the slots is the parents' way of the machine, and its nodes fall. Assumes nothing.
use mathlib.Core.Path.{◌≡◌, refl, sym, ap, ◌∙◌}
use mathlib.Core.Bool.{Bool, true, false, cond}
use mathlib.Core.Option.{Option, none, some}
use mathlib.Core.List.{List, [], ◌∷◌, reverse, reverse-append}
use Prim.Native.Nat.{ℕ, zero, suc, ◌+◌, ◌*◌, ◌≤◌, ◌<◌}
use native.Mathlib.Omega.{arith}
use lib.ListN.{length}
use Rattle.sheet.specs.Sheet.{link_length}
use Rattle.sheet.specs.Machine.{Machine}
use Rattle.machine.specs.Readings.{link, is_at}
use Rattle.machine.specs.Climbs.{Climbs}
use Rattle.machine.specs.Distance.{dist}
use Rattle.machine.specs.Parents.{parent, step_back, follow}
use Rattle.machine.proofs.Parents.{parent_is, term}
use Rattle.machine.proofs.Reached.{finite-reached, reached-above}
use Rattle.machine.proofs.Runs.{at_some}
use Rattle.std.specs.Prelude as Core
use Rattle.slots.specs.Slots.{slot_length}
use Rattle.shortest_distance.specs.declared.parent.Parent.{Parent}
use Rattle.shortest_distance.specs.ParentWords.{by, parent_at, parent_from}
use Rattle.single_path.specs.SingleWords.{on_from, way_back, Traced}

-- the link and the source of a parent
abbrev link_in : Core.Option Parent → ℕ
link_in Core.None = 0
link_in (Core.Some p) = p.link

abbrev source_in : Core.Option Parent → ℕ
source_in Core.None = 0
source_in (Core.Some p) = p.source

module _ (m : Machine) (c : Climbs m) where
  -- a parent leads up to its node
  pub parent_up : (v l : ℕ) → parent m v ≡ some l → (l < length m.links) × ((link m l).source < v)
  parent_up v l e =
      let p = (parent_is m v l e).0 in
      (p.inside, omega (arith, p.into, c.rises l p.inside))

  -- the start has none: its sources are not reached
  start_none : (v l : ℕ) → m.start ≡ some v → parent m v ≡ some l → ⊥
  start_none v l s e =
      let p = parent_is m v l e in
      let u = term (dist m (link m l).source) (link m l).weight p.1.0 (p.0.sum ∙ p.1.1) in
      let up = reached-above m c v (link m l).source s (finite-reached m (link m l).source u.0 u.1) in
      omega (arith, (parent_up v l e).1)

  module _ (work : List ℕ) (parents : (v : ℕ) → v < length m.finals → parent_at work v ≡ parent_from m (parent m v)) where
    -- ---- following the slots is following the parents
    pub way-is : (f v : ℕ) → v < length m.finals → way_back work f v ≡ reverse (follow m f v)
    unfolding way_back follow
    way-is zero v h = refl
    way-is (suc f) v h = ap (λ (p : Core.Option Parent). on_from p (way_back work f)) (parents v h) ∙ go (parent m v) refl (is_at m.start v) refl (λ u k. way-is f u k)
      where
        go : (o : Option ℕ) → parent m v ≡ o → (b : Bool) → is_at m.start v ≡ b → ((u : ℕ) → u < length m.finals → way_back work f u ≡ reverse (follow m f u))
            → on_from (parent_from m o) (way_back work f) ≡ reverse (cond b [] (step_back m o (follow m f)))
        go none e true s ih = refl
        go none e false s ih = refl
        go (some l) e true s ih = absurd (start_none v l (at_some m.start v s) e)
        go (some l) e false s ih =
            let p = parent_up v l e in
            ap (λ (r : List ℕ). l ∷ r) (ih (link m l).source (omega arith)) ∙ sym (reverse-append (follow m f (link m l).source) (l ∷ []))

    -- ---- what the code asks of the slots
    pub traced-from : (bytes : List ℕ) (end : ℕ) → end < length m.finals → slot_length * length m.finals ≤ length work → link_length * length m.links ≤ length bytes → Traced bytes work end
    traced-from bytes end h room long = record {
      falls = record { slots = omega arith; sources = λ v l u b e. (by-link v l u (omega arith) e).0 };
      among = λ v l u b e. (by-link v l u (omega arith) e).1;
    }
      where
        by-link : (v l u : ℕ) → v < length m.finals → parent_at work v ≡ by l u → (u < v) × (link_length * l + link_length ≤ length bytes)
        by-link v l u b e = go (parent m v) refl (sym (parents v b) ∙ e)
          where
            go : (o : Option ℕ) → parent m v ≡ o → parent_from m o ≡ by l u → (u < v) × (link_length * l + link_length ≤ length bytes)
            go none q w = let z : ◌≡◌ {A = ℕ} 0 1 = cc in absurd (omega arith)
            go (some k) q w =
                let p = parent_up v k q in
                let same : k ≡ l = ap link_in w in
                let from : (link m k).source ≡ u = ap source_in w in
                (omega arith, omega arith)
