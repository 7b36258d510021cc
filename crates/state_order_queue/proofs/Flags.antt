-- The passes over the flags: a test of all of them, and the search for the first that is set. Assumes nothing.
use mathlib.Core.Path.{◌≡◌, refl, sym, ap, ◌∙◌}
use mathlib.Core.Bool.{Bool, true, false, not, ◌&&◌, ◌||◌, cond}
use mathlib.Core.List.{List}
use Prim.Native.Nat.{ℕ, zero, suc, ◌+◌, ◌-◌, ◌≤◌, ◌<◌}
use native.Mathlib.Omega.{arith}
use native.Mathlib.Decide.{ℕ_discrete}
use lib.Dec.{eqb}
use lib.ListN.{length, get_or, set}
use lib.Seq.{get_or-set_same, get_or-set_other}
use borrow.Author.Tests.{eq-eqb, ne_eqb}
use Rattle.state_order_queue.specs.Queues.{first_set}

-- ---- tests that hold together
pub both_true : (a b : Bool) → a ≡ true → b ≡ true → a && b ≡ true
both_true a b h k = simp (h, k)

pub implies_true : (a b : Bool) → (a ≡ true → b ≡ true) → not a || b ≡ true
implies_true true b h = h refl
implies_true false b h = refl

pub true_implies : (a b : Bool) → not a || b ≡ true → a ≡ true → b ≡ true
true_implies true b h k = h
true_implies false b h k = cc

-- ---- the first flag
module _ (flags : List Bool) where
  pub first-here : (v end : ℕ) → v < end → get_or flags v false ≡ true → first_set (end - v) v flags ≡ v
  unfolding first_set
  first-here v end l h = let e : end - v ≡ suc (end - (v + 1)) = omega arith in rw e (simp h)

  pub first-turn : (v end : ℕ) → v < end → get_or flags v false ≡ false → first_set (end - v) v flags ≡ first_set (end - (v + 1)) (v + 1) flags
  unfolding first_set
  first-turn v end l h = let e : end - v ≡ suc (end - (v + 1)) = omega arith in rw e (simp h)

  pub first-end : (v end : ℕ) → end ≤ v → first_set (end - v) v flags ≡ v
  unfolding first_set
  first-end v end l = let e : end - v ≡ 0 = omega arith in rw e refl

  -- the search stops at most k nodes on
  pub first-bounds : (k v : ℕ) → (v ≤ first_set k v flags) × (first_set k v flags ≤ v + k)
  unfolding first_set
  first-bounds zero v = (omega arith, omega arith)
  first-bounds (suc k) v = go (get_or flags v false) (first-bounds k (v + 1))
    where
      go : (t : Bool) → (v + 1 ≤ first_set k (v + 1) flags) × (first_set k (v + 1) flags ≤ v + 1 + k)
          → (v ≤ cond t v (first_set k (v + 1) flags)) × (cond t v (first_set k (v + 1) flags) ≤ v + suc k)
      go true h = (omega arith, omega arith)
      go false h = (omega arith, omega arith)

  -- it passes clear flags alone
  pub first-clear : (k v w : ℕ) → v ≤ w → w < first_set k v flags → get_or flags w false ≡ false
  unfolding first_set
  first-clear zero v w l h = absurd (omega arith)
  first-clear (suc k) v w l h = go (get_or flags v false) refl (ℕ_discrete v w) (first-clear k (v + 1) w) h
    where
      go : (t : Bool) → get_or flags v false ≡ t → Dec (v ≡ w) → (v + 1 ≤ w → w < first_set k (v + 1) flags → get_or flags w false ≡ false) → w < cond t v (first_set k (v + 1) flags) → get_or flags w false ≡ false
      go true e d later h = absurd (omega arith)
      go false e (yes s) later h = rw (sym s) e
      go false e (no n) later h = later (omega (arith, n)) h

  -- where it stops before the end it stops at a flag
  pub first-flag : (k v : ℕ) → first_set k v flags < v + k → get_or flags (first_set k v flags) false ≡ true
  unfolding first_set
  first-flag zero v h = absurd (omega arith)
  first-flag (suc k) v h = go (get_or flags v false) refl (first-flag k (v + 1)) h
    where
      go : (t : Bool) → get_or flags v false ≡ t → (first_set k (v + 1) flags < v + 1 + k → get_or flags (first_set k (v + 1) flags) false ≡ true) → cond t v (first_set k (v + 1) flags) < v + suc k → get_or flags (cond t v (first_set k (v + 1) flags)) false ≡ true
      go true e later h = e
      go false e later h = later (omega arith)

-- ---- one flag stored
pub flag-put : (flags : List Bool) (s v : ℕ) → s < length flags → get_or (set flags s true) v false ≡ eqb v s || get_or flags v false
flag-put flags s v l = elim (ℕ_discrete v s) [
  | yes e ↦ ap (λ (k : ℕ). get_or (set flags s true) k false) e ∙ get_or-set_same flags s true false l ∙ simp (eq-eqb v s e)
  | no n ↦ get_or-set_other flags s v true false n ∙ simp (ne_eqb v s n)
]

pub flag-taken : (flags : List Bool) (s v : ℕ) → s < length flags → get_or (set flags s false) v false ≡ not (eqb v s) && get_or flags v false
flag-taken flags s v l = elim (ℕ_discrete v s) [
  | yes e ↦ ap (λ (k : ℕ). get_or (set flags s false) k false) e ∙ get_or-set_same flags s false false l ∙ simp (eq-eqb v s e)
  | no n ↦ get_or-set_other flags s v false false n ∙ simp (ne_eqb v s n)
]
