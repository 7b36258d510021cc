-- The entries of a search were put in by links of the machine, or by links from node 0 to final nodes. Assumes nothing.
use mathlib.Core.Path.{◌≡◌, refl, sym, ap, ◌∙◌}
use mathlib.Core.Option.{none, some}
use mathlib.Core.List.{List, [], ◌∷◌}
use Prim.Native.Nat.{ℕ, zero, suc, ◌+◌, ◌^◌, ◌≤◌, ◌<◌}
use native.Mathlib.Omega.{arith}
use lib.ListN.{length}
use Rattle.tropical_weight.specs.Tropical.{Tropical}
use Rattle.sheet.specs.Machine.{Machine}
use Rattle.machine.specs.Readings.{final}
use Rattle.machine.specs.Climbs.{Climbs}
use Rattle.machine.specs.Demand.{◌∈◌, NoDup}
use Rattle.machine.proofs.Lists.{mem-eq, get_or-mem, perm-sym, perm-nodup}
use Rattle.search.specs.Reversed.{Back, Reversed, reversed}
use Rattle.search.specs.Search.{Search, search}
use Rattle.search.proofs.Trails.{back, stop, Trail, site, cost, Made, back_from}
use Rattle.search.proofs.Backwards.{out-final, out-link}
use Rattle.search.proofs.Mirror.{at, last_input, half-site}
use Rattle.search.proofs.Complete.{holds}
use Rattle.search.proofs.Entries.{entry-made, inputs_in}
use Rattle.list_machine.specs.TrimWords.{Sourced}

-- only the first trail has no move
moved : (ts : List Trail) (i : ℕ) → NoDup ts → at ts 0 ≡ [] → 0 < i → i < length ts → at ts i ≡ [] → ⊥
moved [] i d z a b e = omega arith
moved (t ∷ ts) zero d z a b e = omega arith
moved (t ∷ ts) (suc i) d z a b e = d.0 (mem-eq (e ∙ sym z) (get_or-mem ts i [] (omega arith)))

module _ (m : Machine) (c : Climbs m) (n : ℕ) where
  abbrev s : Search
  s = search m n

  abbrev r : Reversed
  r = reversed m

  abbrev ts : List Trail
  ts = (holds m c n).trails

  once : NoDup ts
  once = perm-nodup (perm-sym (holds m c n).all) (holds m c n).sound.once

  abbrev ToFinal : ℕ → Type 0
  ToFinal v = (u : ℕ) × (w : Tropical) × (v ≡ suc u) × (final m u ≡ some w)

  -- a link that repeats none leads to a final node
  back-final : (x : ℕ) (b : Back) → b ∈ r.out x → b.input ≡ none → ToFinal b.next
  back-final zero b h q = let f = out-final m b h in (f.0, f.1, ap (λ (k : Back). k.next) f.3, f.2)
  back-final (suc x) b h q = let f = out-link m x b h in let y = f.3 in let z : ◌≡◌ {A = ℕ} 0 1 = cc in absurd (omega arith)

  from-trail : (t : Trail) (v : ℕ) → Made r t → (t ≡ [] → ⊥) → last_input t ≡ none → site t ≡ some v → ToFinal v
  from-trail [] v h k q e = absurd (k refl)
  from-trail (stop ∷ t) v h k q e = let z : ◌≡◌ {A = ℕ} 0 1 = cc in absurd (omega arith)
  from-trail (back b ∷ t) v h k q e =
      let x = back_from r (site t) b h.0 in
      let f = back-final x.0 b x.2 q in
      let same : b.next ≡ v = cc in
      (f.0, f.1, sym same ∙ f.2, f.3)

  pub sourced : length (search m n).listed + length (search m n).entries ≤ 2 ^ 28 → Sourced m (search m n)
  sourced few = record {
    few = few;
    inputs_in = λ i l b e. inputs_in m c n i b l e;
    finals-in = λ i v k a b q e.
        let told = (holds m c n).mirrors.told i in
        from-trail (at ts i) v (entry-made m c n (search m n) (holds m c n) i b) (moved ts i once (holds m c n).mirrors.zeroth a (omega (arith, (holds m c n).mirrors.size))) (sym told.input ∙ q) (half-site (site (at ts i)) (cost (at ts i)) v k (sym e ∙ told.entry)).0;
  }
