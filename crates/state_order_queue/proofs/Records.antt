-- What the tests of a record say of its ends, and what putting in and taking out make of it where the flag is stored first. Assumes nothing.
use mathlib.Core.Path.{◌≡◌, refl, sym, ap, ◌∙◌}
use mathlib.Core.Bool.{Bool, true, false, ◌&&◌, cond}
use mathlib.Core.List.{List}
use Prim.Native.Nat.{ℕ, ◌+◌, ◌-◌, ◌≤◌, ◌<◌}
use native.Mathlib.Omega.{arith}
use lib.Dec.{ltb}
use lib.ListN.{get_or, set}
use lib.Seq.{set-get_or, set-set}
use borrow.Author.Tests.{ltb-true, ltb-false, leb-true, le-ltb}
use Rattle.tropical_weight.specs.Limits.{node_limit}
use Rattle.std.specs.Prelude.{Option, None, Some}
use Rattle.state_order_queue.specs.declared.Queue.{Queue}
use Rattle.state_order_queue.specs.Queues.{first_set, next_front, holds, empty_from, is_empty, ends_fit, ends_set, is_valid, front_with, back_with, enqueued, without_front, dequeued}
use Rattle.sheet.proofs.Apart.{both, not-both}

-- the ends of a record with a back
pub ends-bound : (front b : ℕ) (back : Option ℕ) → back ≡ Some b → ends_fit front back ≡ true → (front ≤ node_limit) × (b < node_limit)
ends-bound front b back e h = let k = both _ _ (rw e at h) in (leb-true _ _ k.0, ltb-true _ _ k.1)

-- and of one not empty
pub filled-bound : (front b : ℕ) (back : Option ℕ) → back ≡ Some b → ends_fit front back ≡ true → empty_from front back ≡ false → (front ≤ b) × (b < node_limit)
filled-bound front b back e h l = (ltb-false b front (rw e at l), (ends-bound front b back e h).1)

pub front-bound : (front : ℕ) (back : Option ℕ) → ends_fit front back ≡ true → empty_from front back ≡ false → front < node_limit
front-bound front None h l = absurd (not-both refl l)
front-bound front (Some b) h l = let n = filled-bound front b (Some b) refl h l in omega arith

-- the ends of a valid record fit
pub valid-ends : (q : Queue) → is_valid q ≡ true → ends_fit q.front q.back ≡ true
unfolding is_valid
valid-ends q h = (both _ _ (both _ _ h).0).0

-- ---- a flag stored before the ends move
abbrev pub with_flag : Queue → ℕ → Bool → Queue
with_flag q v t = record { front = q.front; back = q.back; flags = set q.flags v t }

-- storing what stands there changes nothing
flag_same : (q : Queue) (v : ℕ) (t : Bool) → holds q v ≡ t → set q.flags v t ≡ q.flags
flag_same q v t h = ap (set q.flags v) (sym h) ∙ set-get_or q.flags v false

module _ (q : Queue) (v : ℕ) where
  -- its flag set before is the queue with it put in
  pub flagged-enqueued : enqueued (with_flag q v true) v ≡ enqueued q v
  flagged-enqueued = simp set-set

module _ (q : Queue) where
  -- where front's flag is clear, front alone moves
  pub dequeued-cleared : holds q q.front ≡ false → (f : ℕ) → f ≡ next_front q.front q.back q.flags → record { front = f; back = q.back; flags = q.flags } ≡ dequeued q
  unfolding dequeued first_set
  dequeued-cleared h f e = (λ i. record { front = e i; back = q.back; flags = q.flags }) ∙ go q.back
    where
      past : (b : ℕ) (t : Bool) → ltb b q.front ≡ t
          → record { front = first_set (b + 1 - q.front) q.front q.flags; back = Some b; flags = q.flags } ≡ cond t (record { front = q.front; back = Some b; flags = q.flags }) (without_front q.front (Some b) q.flags)
      past b true l = let none : b + 1 - q.front ≡ 0 = omega (arith, ltb-true b q.front l) in λ i. record { front = first_set (none i) q.front q.flags; back = Some b; flags = q.flags }
      past b false l = simp (flag_same q q.front false h)

      go : (back : Option ℕ) → record { front = next_front q.front back q.flags; back = back; flags = q.flags } ≡ cond (empty_from q.front back) (record { front = q.front; back = back; flags = q.flags }) (without_front q.front back q.flags)
      go None = refl
      go (Some b) = past b (ltb b q.front) refl

  -- its flag cleared before is the queue without it
  pub cleared-dequeued : is_empty q ≡ false → dequeued (with_flag q q.front false) ≡ dequeued q
  unfolding dequeued
  cleared-dequeued h = go q.back h
    where
      go : (back : Option ℕ) → empty_from q.front back ≡ false
          → cond (empty_from q.front back) (record { front = q.front; back = back; flags = set q.flags q.front false }) (without_front q.front back (set q.flags q.front false)) ≡ cond (empty_from q.front back) (record { front = q.front; back = back; flags = q.flags }) (without_front q.front back q.flags)
      go None l = absurd (not-both refl l)
      go (Some b) l = simp (l, set-set)

-- ---- a queue not empty without its front
module _ (q : Queue) (b : ℕ) (e : q.back ≡ Some b) where
  pub dequeued-at : q.front ≤ b → (f : ℕ) → f ≡ first_set (b + 1 - q.front) q.front (set q.flags q.front false)
      → record { front = f; back = Some b; flags = set q.flags q.front false } ≡ dequeued q
  unfolding dequeued
  dequeued-at l f h = simp (e, le-ltb _ _ l, h)
