-- The counts of a search: no node is taken more often than all are, what is listed was taken, and what one removal adds. Assumes nothing.
use mathlib.Core.Path.{◌≡◌, refl, ap}
use mathlib.Core.Bool.{Bool, true, false, cond}
use mathlib.Core.List.{List, [], ◌∷◌}
use Prim.Native.Nat.{ℕ, zero, suc, ◌≤◌}
use native.Mathlib.Omega.{arith}
use lib.Dec.{leb}
use lib.ListN.{get_or, set, length, length-map}
use Rattle.machine.proofs.Lists.{keep, keep-length}
use Rattle.search.specs.Reversed.{Reversed}
use Rattle.search.specs.Heap.{popped}
use Rattle.search.specs.Search.{Entry, half, finished, first, Search, before, put_all, expansion, taken_by, step, stopped, after, begun}
use Rattle.search.proofs.BestFirst.{Taken, is_listed}
use Rattle.search.proofs.Mirror.{at, put_all-keeps}
use Rattle.search.proofs.Steps.{Holds, no-visits}
use Rattle.search.proofs.Ran.{step-one}

-- what is at most b stays so where no more than b is set, at any place
set-most : (l : List ℕ) (i j a b : ℕ) → a ≤ b → get_or l j 0 ≤ b → get_or (set l i a) j 0 ≤ b
set-most [] i j a b p q = q
set-most (x ∷ l) zero zero a b p q = p
set-most (x ∷ l) zero (suc j) a b p q = q
set-most (x ∷ l) (suc i) zero a b p q = q
set-most (x ∷ l) (suc i) (suc j) a b p q = set-most l i j a b p q

module _ (r : Reversed) (n : ℕ) where
  -- ---- one removal, and those after it
  pub step-listed : (s : Search) → length (step r n s).listed ≤ suc (length s.listed)
  step-listed s = (step-one r n s).0

  pub after-step : (k : ℕ) (s : Search) → stopped r n s ≡ false → after r (suc k) n s ≡ after r k n (step r n s)
  unfolding after
  after-step k s e = ap (λ (b : Bool). elim b [ true ↦ s | false ↦ after r k n (step r n s) ]) e

  pub after-stopped : (k : ℕ) (s : Search) → stopped r n s ≡ true → after r k n s ≡ s
  unfolding after
  after-stopped zero s e = refl
  after-stopped (suc k) s e = ap (λ (b : Bool). elim b [ true ↦ s | false ↦ after r k n (step r n s) ]) e

  -- ---- how often a node was taken
  -- no node more often than all together
  abbrev pub Few : Search → Type 0
  Few s = (v : ℕ) → get_or s.visits v 0 ≤ s.taken

  taken-few : (x : ℕ) (h : List ℕ) (e : Entry) (s : Search) → Few s → Few (taken_by r n x h e s)
  taken-few x h (finished c) s f v = omega (arith, f v)
  taken-few x h (half u c) s f v = go (leb (suc (get_or s.visits u 0)) n)
    where
      z : Search
      z = record { entries = s.entries; heap = h; visits = set s.visits u (suc (get_or s.visits u 0)); listed = s.listed; taken = suc s.taken }

      few : get_or z.visits v 0 ≤ z.taken
      few = set-most s.visits u v (suc (get_or s.visits u 0)) (suc s.taken) (omega (arith, f u)) (omega (arith, f v))

      go : (t : Bool) → get_or (cond t (put_all r (expansion r x u c) z) z).visits v 0 ≤ (cond t (put_all r (expansion r x u c) z) z).taken
      go true = let k = put_all-keeps r (expansion r x u c) z in omega (arith, few, ap (λ l. get_or l v 0) k.0, k.2)
      go false = few

  pub step-few : (s : Search) → Few s → Few (step r n s)
  unfolding step
  step-few s = taken-few (get_or s.heap 0 0) (popped (before r s.entries) s.heap) (get_or s.entries (get_or s.heap 0 0) first).entry s

  pub after-few : (k : ℕ) (s : Search) → Few s → Few (after r k n s)
  unfolding after
  after-few zero s f = f
  after-few (suc k) s f = go (stopped r n s) (after-few k (step r n s) (step-few s f))
    where
      go : (t : Bool) → Few (after r k n (step r n s)) → Few (elim t [ true ↦ s | false ↦ after r k n (step r n s) ])
      go true g = f
      go false g = g

  module _ (size : ℕ) where
    pub visits-few : (k v : ℕ) → get_or (after r k n (begun size)).visits v 0 ≤ (after r k n (begun size)).taken
    visits-few k = after-few k (begun size) (λ v. omega (arith, no-visits size v))

    -- ---- what is listed
    pub listed-few : (s : Search) → Holds r n size s → length s.listed ≤ s.taken
    listed-few s h =
        let ends = keep is_listed h.done in
        omega (arith, length-map s.listed (at h.trails), ap length h.lists, length-map ends (λ (d : Taken). d.trail), keep-length is_listed h.done, h.counted)
