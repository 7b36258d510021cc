-- The search with a number of removals allowed: it keeps what holds, and it stops or makes them all. Assumes nothing.
use mathlib.Core.Path.{◌≡◌, refl, ap}
use mathlib.Core.Logic.{◌⊎◌, inl, inr}
use mathlib.Core.Bool.{Bool, true, false, cond, ◌||◌}
use mathlib.Core.List.{List, [], ◌∷◌, ◌++◌}
use Rattle.tropical_weight.specs.Tropical.{inf, lt_t}
use Prim.Native.Nat.{ℕ, zero, suc, ◌+◌, ◌≤◌, ◌<◌}
use native.Mathlib.Omega.{arith}
use lib.Dec.{eqb, leb}
use lib.ListN.{get_or, set, length, length-append}
use borrow.Author.Tests.{leb-true, leb-false, eqb-true, eqb-false, eq-eqb}
use Rattle.sheet.proofs.Apart.{not-both}
use Rattle.machine.specs.Demand.{◌∈◌}
use Rattle.search.specs.Reversed.{Back, Reversed}
use Rattle.search.specs.Heap.{popped}
use Rattle.search.specs.Search.{Entry, half, finished, first, Search, before, put_all, expansion, taken_by, step, stopped, after}
use Rattle.search.proofs.Trails.{Consistent}
use Rattle.search.proofs.Mirror.{put_all-keeps}
use Rattle.search.proofs.Steps.{Holds, holds-step}

module _ (r : Reversed) (n : ℕ) where
  -- ---- what one removal adds to the list and to the count
  -- one more taken, and at most one more listed
  abbrev pub OneMore : Search → Search → Type 0
  OneMore s z = (length z.listed ≤ suc (length s.listed)) × (z.taken ≡ suc s.taken)

  taken-one : (x : ℕ) (h : List ℕ) (e : Entry) (s : Search) → OneMore s (taken_by r n x h e s)
  taken-one x h (finished c) s = (go (lt_t c inf), refl)
    where
      go : (t : Bool) → length (cond t (s.listed ++ (x ∷ [])) s.listed) ≤ suc (length s.listed)
      go true = omega (arith, length-append s.listed (x ∷ []))
      go false = omega arith
  taken-one x h (half v c) s = go (leb (suc (get_or s.visits v 0)) n)
    where
      z : Search
      z = record { entries = s.entries; heap = h; visits = set s.visits v (suc (get_or s.visits v 0)); listed = s.listed; taken = suc s.taken }

      go : (t : Bool) → OneMore s (cond t (put_all r (expansion r x v c) z) z)
      go true = let k = put_all-keeps r (expansion r x v c) z in (omega (arith, ap length k.1), k.2)
      go false = (omega arith, refl)

  pub step-one : (s : Search) → OneMore s (step r n s)
  unfolding step
  step-one s = taken-one (get_or s.heap 0 0) (popped (before r s.entries) s.heap) (get_or s.entries (get_or s.heap 0 0) first).entry s

  -- ---- when it stops
  pub stopped-is : (s : Search) → stopped r n s ≡ true → (length s.heap ≡ 0) ⊎ (n ≤ length s.listed)
  stopped-is s e = go (eqb (length s.heap) 0) (leb n (length s.listed)) refl refl e
    where
      go : (a b : Bool) → eqb (length s.heap) 0 ≡ a → leb n (length s.listed) ≡ b → a || b ≡ true → (length s.heap ≡ 0) ⊎ (n ≤ length s.listed)
      go true b p q e = inl (eqb-true (length s.heap) 0 p)
      go false true p q e = inr (leb-true n (length s.listed) q)
      go false false p q e = absurd (not-both e refl)

  pub stopped-not : (s : Search) → stopped r n s ≡ false → (0 < length s.heap) × (length s.listed < n)
  stopped-not s e = go (eqb (length s.heap) 0) (leb n (length s.listed)) refl refl e
    where
      go : (a b : Bool) → eqb (length s.heap) 0 ≡ a → leb n (length s.listed) ≡ b → a || b ≡ false → (0 < length s.heap) × (length s.listed < n)
      go true b p q e = absurd (not-both refl e)
      go false true p q e = absurd (not-both refl e)
      go false false p q e = (omega (arith, eqb-false (length s.heap) 0 p), leb-false n (length s.listed) q)

  pub stopped-empty : (s : Search) → length s.heap ≡ 0 → stopped r n s ≡ true
  stopped-empty s e = ap (λ (b : Bool). b || leb n (length s.listed)) (eq-eqb (length s.heap) 0 e)

  module _ (size : ℕ) (c : Consistent r) (room : 0 < size) (within : (v : ℕ) (b : Back) → b ∈ r.out v → b.next < size) where
    pub record Ran (k : ℕ) (s z : Search) : Type 0 where
      pub holds : Holds r n size z
      pub few : length z.listed ≤ n
      pub ended : (stopped r n z ≡ true) ⊎ (z.taken ≡ s.taken + k)

    pub ran : (k : ℕ) (s : Search) → Holds r n size s → length s.listed ≤ n → Ran k s (after r k n s)
    unfolding after
    ran zero s i b = record { holds = i; few = b; ended = inr (omega arith) }
    ran (suc k) s i b = go (stopped r n s) refl (ran k (step r n s))
      where
        go : (t : Bool) → stopped r n s ≡ t → (Holds r n size (step r n s) → length (step r n s).listed ≤ n → Ran k (step r n s) (after r k n (step r n s)))
            → Ran (suc k) s (elim t [ true ↦ s | false ↦ after r k n (step r n s) ])
        go true e on = record { holds = i; few = b; ended = inl e }
        go false e on =
            let x = stopped-not s e in
            let y = step-one s in
            let z = on (holds-step r n size c room within s i x.0) (omega (arith, y.0, x.1)) in
            record { holds = z.holds; few = z.few; ended = elim z.ended [ inl q ↦ inl q | inr q ↦ inr (omega (arith, q, y.1)) ] }
