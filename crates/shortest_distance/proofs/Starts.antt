-- The state before the first link. Assumes nothing.
use mathlib.Core.Path.{◌≡◌, sym, ap, ◌∙◌, subst}
use mathlib.Core.Logic.{◌⊎◌, inl, inr}
use mathlib.Core.Bool.{Bool, false, ◌&&◌, ◌||◌, and-false, or-false}
use mathlib.Core.Option.{some}
use mathlib.Core.List.{List}
use Prim.Native.Nat.{ℕ, ◌*◌, ◌≤◌, ◌<◌}
use native.Mathlib.Decide.{ℕ_discrete}
use native.Mathlib.Omega.{arith}
use lib.Dec.{leb, ltb, eqb}
use lib.ListN.{length, get_or, set, replicate, length-replicate, get_or-replicate}
use lib.Seq.{get_or-set_same, get_or-set_other}
use lib.IntN.{pos}
use borrow.Author.Tests.{le-leb, lt-ltb, le-ltb, eq-eqb, ne_eqb}
use Rattle.tropical_weight.specs.Limits.{node_limit}
use Rattle.sheet.specs.Machine.{Machine, unit_in}
use Rattle.sheet.proofs.Below.{split_at}
use Rattle.sheet.proofs.Forms.{covered}
use Rattle.machine.specs.Distance.{Distance, reached, unreached, as_weight, start_row, relax}
use Rattle.machine.specs.Parents.{lowest}
use Rattle.machine.proofs.SheetFields.{SheetFields}
use Rattle.machine.proofs.Fold.{chosen, offer}
use Rattle.machine.proofs.Relax.{row_at}
use Rattle.state_order_queue.specs.Queues.{holds, emptied, enqueued}
use Rattle.state_order_queue.proofs.Sets.{emptied-full, emptied-valid, emptied-empty, empty-exactly, enqueued-holds}
use Rattle.distance.specs.Held.{held, with_distance}
use Rattle.distance.proofs.Words.{put_back, put_other, put-drop, put-length}
use Rattle.shortest_distance.specs.ParentWords.{parent_at, parent_from}
use Rattle.shortest_distance.specs.NodeSlots.{distance_at, prepared}
use Rattle.shortest_distance.specs.Relaxation.{State}
use Rattle.shortest_distance.specs.Sound.{Sound}
use Rattle.shortest_distance.proofs.ParentWords.{put-parent}
use Rattle.shortest_distance.proofs.Areas.{length-prepared, prepared-words, prepared-beyond}
use Rattle.tropical_weight.proofs.Semiring.{is_finite}
use Rattle.shortest_distance.proofs.Rows.{Holds}

-- the start's distance
abbrev pub zero-cost : Distance
zero-cost = reached (pos 0)

module _ (bytes : List ℕ) (links : ℕ) (m : Machine) (f : SheetFields bytes links (length m.finals) m) (old : List ℕ) where
  -- ---- slots set up, the start reached at 0, and in the queue
  module _ (s : ℕ) (starts : m.start ≡ some s) (in-nodes : s < length m.finals) (room : 8 * length m.finals ≤ length old) where
    abbrev pub begun : State
    begun = record { work = with_distance (prepared bytes links (length m.finals) old) (8 * s) (held (unit_in m) zero-cost); queue = enqueued emptied s }

    row_zero : relax m 0 ≡ set (replicate (length m.finals) unreached) s zero-cost
    unfolding relax
    row_zero = ap (λ o. start_row o (length m.finals)) starts

    row-start : (v : ℕ) → v ≡ s → get_or (relax m 0) v unreached ≡ zero-cost
    row-start v e = ap (λ l. get_or l v unreached) row_zero ∙ ap (λ (k : ℕ). get_or (set (replicate (length m.finals) unreached) s zero-cost) k unreached) e ∙ get_or-set_same (replicate (length m.finals) unreached) s zero-cost unreached (simp length-replicate in-nodes)

    row-blank : (v : ℕ) → (v ≡ s → ⊥) → v < length m.finals → get_or (relax m 0) v unreached ≡ unreached
    row-blank v n b = ap (λ l. get_or l v unreached) row_zero ∙ get_or-set_other (replicate (length m.finals) unreached) s v zero-cost unreached n ∙ get_or-replicate (length m.finals) v unreached unreached b

    small : s < node_limit
    small = omega (arith, f.few-nodes)

    distance-begun : (v : ℕ) → v < length m.finals → distance_at begun.work v ≡ held (unit_in m) (get_or (relax m 0) v unreached)
    distance-begun v b = elim (ℕ_discrete v s) [
      | yes e ↦
          ap (distance_at begun.work) e
          ∙ put_back (prepared bytes links (length m.finals) old) (8 * s) (unit_in m) (covered m.form) zero-cost (omega (arith, length-prepared bytes links (length m.finals) old))
          ∙ ap (held (unit_in m)) (sym (row-start v e))
      | no n ↦
          put_other (prepared bytes links (length m.finals) old) (8 * s) (held (unit_in m) zero-cost) (8 * v) (λ e. n (omega arith)) (λ e. omega arith) (λ e. omega arith)
          ∙ (prepared-words bytes links (length m.finals) old v b room).0
          ∙ ap (held (unit_in m)) (sym (row-blank v n b))
    ]

    -- no link, no parent
    parent-begun : (v : ℕ) → v < length m.finals → parent_at begun.work v ≡ parent_from m (chosen (offer m v) 0)
    unfolding lowest
    parent-begun v b = put-parent (prepared bytes links (length m.finals) old) s (held (unit_in m) zero-cost) v ∙ (prepared-words bytes links (length m.finals) old v b room).1

    no-flags : (v : ℕ) → holds emptied v ≡ false
    no-flags = (empty-exactly emptied emptied-full emptied-valid).0 emptied-empty

    flag-begun : (v : ℕ) → holds (enqueued emptied s) v ≡ leb 0 v && (ltb v (length m.finals) && is_finite (row_at m 0 v))
    flag-begun v =
        enqueued-holds emptied s emptied-full small v
        ∙ ap (λ (t : Bool). eqb v s || t) (no-flags v) ∙ or-false (eqb v s)
        ∙ elim (ℕ_discrete v s) [
          | yes e ↦
              eq-eqb v s e
              ∙ sym (λ i. le-leb 0 v (omega arith) i && (lt-ltb v (length m.finals) (subst (λ (k : ℕ). k < length m.finals) (sym e) in-nodes) i && is_finite (as_weight (row-start v e i))))
          | no n ↦ ne_eqb v s n ∙ sym (ap (λ (t : Bool). t && (ltb v (length m.finals) && is_finite (row_at m 0 v))) (le-leb 0 v (omega arith)) ∙ other v n (split_at v (length m.finals)))
        ]
      where
        other : (v : ℕ) → (v ≡ s → ⊥) → (v < length m.finals) ⊎ (length m.finals ≤ v) → ltb v (length m.finals) && is_finite (row_at m 0 v) ≡ false
        other v n (inl b) = ap (λ (y : Distance). ltb v (length m.finals) && is_finite (as_weight y)) (row-blank v n b) ∙ and-false (ltb v (length m.finals))
        other v n (inr b) = ap (λ (t : Bool). t && is_finite (row_at m 0 v)) (le-ltb v (length m.finals) b)

    pub begun-holds : Sound bytes links (length m.finals) begun.work begun.queue → Holds bytes links m f old 0 0 begun
    begun-holds sound = record {
      distances = distance-begun;
      parents = parent-begun;
      sound = sound;
      size = put-length (prepared bytes links (length m.finals) old) (8 * s) (held (unit_in m) zero-cost) ∙ length-prepared bytes links (length m.finals) old;
      beyond = put-drop (prepared bytes links (length m.finals) old) (8 * s) (held (unit_in m) zero-cost) (8 * length m.finals) (omega arith) ∙ prepared-beyond bytes links (length m.finals) old;
      flags = flag-begun;
    }
