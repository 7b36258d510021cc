-- The Rust's `clear` walks from front to back: of a valid record it leaves a new queue. Assumes nothing.
use mathlib.Core.Path.{◌≡◌, refl, sym, ap, ◌∙◌}
use mathlib.Core.Bool.{Bool, true, false}
use mathlib.Core.List.{List, [], ◌∷◌}
use Prim.Native.Nat.{ℕ, zero, suc, ◌+◌, ◌-◌, ◌≤◌, ◌<◌}
use native.Mathlib.Decide.{ℕ_discrete}
use native.Mathlib.Omega.{arith}
use lib.ListN.{length, get_or, set, replicate, length-set, length-replicate, get_or-replicate}
use lib.Seq.{get_or-set_other, ext_get_or}
use Rattle.tropical_weight.specs.Limits.{node_limit}
use Rattle.std.specs.Prelude.{Option, None, Some}
use Rattle.state_order_queue.specs.declared.Queue.{Queue}
use Rattle.state_order_queue.specs.Queues.{holds, is_valid, emptied, cleared_from, cleared_inside, cleared}
use Rattle.state_order_queue.specs.Conditions.{Accepted}
use Rattle.state_order_queue.proofs.Accepts.{valid-exactly}

pub set-clear : (flags : List Bool) (v : ℕ) → get_or (set flags v false) v false ≡ false
set-clear [] v = refl
set-clear (x ∷ xs) zero = refl
set-clear (x ∷ xs) (suc v) = set-clear xs v

stays-clear : (flags : List Bool) (v w : ℕ) → get_or flags w false ≡ false → get_or (set flags v false) w false ≡ false
stays-clear flags v w h = elim (ℕ_discrete w v) [
  | yes e ↦ ap (λ (k : ℕ). get_or (set flags v false) k false) e ∙ set-clear flags v
  | no n ↦ get_or-set_other flags v w false false n ∙ h
]

cleared-length : (k v : ℕ) (flags : List Bool) → length (cleared_from k v flags) ≡ length flags
unfolding cleared_from
cleared-length zero v flags = refl
cleared-length (suc k) v flags = cleared-length k (v + 1) (set flags v false) ∙ length-set flags v false

cleared-off : (k v : ℕ) (flags : List Bool) (w : ℕ) → get_or flags w false ≡ false → get_or (cleared_from k v flags) w false ≡ false
unfolding cleared_from
cleared-off zero v flags w h = h
cleared-off (suc k) v flags w h = cleared-off k (v + 1) (set flags v false) w (stays-clear flags v w h)

cleared_at : (k v : ℕ) (flags : List Bool) (w : ℕ) → v ≤ w → w < v + k → get_or (cleared_from k v flags) w false ≡ false
unfolding cleared_from
cleared_at zero v flags w l h = absurd (omega arith)
cleared_at (suc k) v flags w l h = elim (ℕ_discrete w v) [
  | yes e ↦ cleared-off k (v + 1) (set flags v false) w (ap (λ (i : ℕ). get_or (set flags v false) i false) e ∙ set-clear flags v)
  | no n ↦ cleared_at k (v + 1) (set flags v false) w (omega (arith, n)) (omega arith)
]

module _ (q : Queue) (full : length q.flags ≡ node_limit) (a : Accepted q) where
  all-clear : (xs : List Bool) → length xs ≡ node_limit → ((v : ℕ) → v < node_limit → get_or xs v false ≡ false) → xs ≡ replicate node_limit false
  all-clear xs n h = ext_get_or false xs (replicate node_limit false) (n ∙ sym (length-replicate node_limit false)) (λ v l. let m : v < node_limit = omega (arith, n) in h v m ∙ sym (get_or-replicate node_limit v false false m))

  inside-clear : (back : Option ℕ) → q.back ≡ back → cleared_inside q.front back q.flags ≡ replicate node_limit false
  inside-clear None e = all-clear q.flags full (λ v l. a.none-set v e l)
  inside-clear (Some b) e = all-clear _ (cleared-length (b + 1 - q.front) q.front q.flags ∙ full) (λ v l. go v l (holds q v) refl)
    where
      go : (v : ℕ) → v < node_limit → (t : Bool) → holds q v ≡ t → get_or (cleared_from (b + 1 - q.front) q.front q.flags) v false ≡ false
      go v l true h = let i = a.inside b v e l h in cleared_at (b + 1 - q.front) q.front q.flags v i.0 (omega arith)
      go v l false h = cleared-off (b + 1 - q.front) q.front q.flags v h

pub cleared-is : (q : Queue) → length q.flags ≡ node_limit → is_valid q ≡ true → cleared q ≡ emptied
cleared-is q full h = ap (λ (xs : List Bool). record { front = 0; back = None; flags = xs }) (inside-clear q full ((valid-exactly q).0 h) q.back refl)
