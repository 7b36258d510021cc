-- Relaxing links and heads keeps what `Sound` says, and what a turn of the loop makes. Assumes nothing.
use mathlib.Core.Path.{◌≡◌, refl, sym, ap, ◌∙◌, subst}
use mathlib.Core.Logic.{◌⊎◌, inl, inr}
use mathlib.Core.Bool.{Bool, true, false, not, cond}
use mathlib.Core.List.{List}
use Prim.Native.Nat.{ℕ, zero, suc, ◌+◌, ◌-◌, ◌*◌, ◌≤◌, ◌<◌}
use native.Mathlib.Numerals.{add-one}
use native.Mathlib.Omega.{arith}
use lib.Dec.{eqb}
use lib.Ieee.{Float, binary32, add}
use lib.ListN.{length}
use borrow.Author.Tests.{eqb-true}
use Rattle.tropical_weight.specs.Limits.{node_limit}
use Rattle.sheet.specs.declared.tr.Link.{Link}
use Rattle.sheet.specs.Below.{sum_below}
use Rattle.sheet.specs.Records.{link_at, count_at}
use Rattle.sheet.proofs.Below.{sum_mono}
use Rattle.state_order_queue.specs.declared.Queue.{Queue}
use Rattle.state_order_queue.specs.Queues.{holds, is_empty, enqueued, dequeued}
use Rattle.sheet.proofs.Apart.{both, or-either}
use Rattle.state_order_queue.proofs.Sets.{enqueued-full, enqueued-holds, enqueued-valid, dequeued-full, dequeued-valid, dequeued-holds, front-held}
use Rattle.distance.specs.Held.{Distance}
use Rattle.std.specs.Prelude.{Option, Some}
use Rattle.distance.specs.Held.{weight_in, with_distance}
use Rattle.distance.specs.Offer.{improves, reaches}
use Rattle.distance.proofs.Words.{put_word, put-length}
use Rattle.shortest_distance.specs.declared.parent.Parent.{Parent}
use Rattle.shortest_distance.specs.ParentWords.{by, parent_stored}
use Rattle.shortest_distance.specs.NodeSlots.{distance_at, first_word}
use Rattle.shortest_distance.specs.Relaxation.{State, taken_words, relax_link, relax_links, relax_head, relax_heads}
use Rattle.shortest_distance.specs.Sound.{Sound}
use Rattle.shortest_distance.proofs.ParentWords.{stored-length, stored-first}

-- distances are stored at words 0 and 1 of slots, parents at words 2 and 3, first links at words 4
first-kept : (work : List ℕ) (u v : ℕ) (d : Distance) → first_word (with_distance work (8 * u) d) v ≡ first_word work v
first-kept work u v d = put_word work (8 * u) d (8 * v + 4) (λ e. omega arith) (λ e. omega arith)

module _ (bytes : List ℕ) (links nodes : ℕ) where
  abbrev pub Kept : State → Type 0
  Kept s = Sound bytes links nodes s.work s.queue

  -- a node put in
  pub put-kept : (work : List ℕ) (q : Queue) (v : ℕ) → v < nodes → Sound bytes links nodes work q → Sound bytes links nodes work (enqueued q v)
  put-kept work q v l h =
      let small : v < node_limit = omega (arith, h.few) in
      record {
        laid_out = h.laid_out;
        slots = h.slots;
        few = h.few;
        counted = h.counted;
        inside = h.inside;
        firsts = h.firsts;
        full = enqueued-full q v ∙ h.full;
        valid = enqueued-valid q v h.full small h.valid;
        held = λ u e. new u (or-either (eqb u v) (holds q u) (sym (enqueued-holds q v h.full small u) ∙ e));
      }
    where
      new : (u : ℕ) → (eqb u v ≡ true) ⊎ (holds q u ≡ true) → u < nodes
      new u (inl e) = omega (arith, eqb-true u v e)
      new u (inr e) = h.held u e

  -- words stored that are no first links: a distance, or a parent
  area-kept : (work new : List ℕ) (q : Queue) → length new ≡ length work → ((u : ℕ) → first_word new u ≡ first_word work u) → Sound bytes links nodes work q → Sound bytes links nodes new q
  area-kept work new q size firsts h = record {
    laid_out = h.laid_out;
    slots = omega (arith, h.slots, size);
    few = h.few;
    counted = h.counted;
    inside = h.inside;
    firsts = λ u l. firsts u ∙ h.firsts u l;
    full = h.full;
    valid = h.valid;
    held = h.held;
  }

  pub store_kept : (work : List ℕ) (q : Queue) (v : ℕ) (d : Distance) → Sound bytes links nodes work q → Sound bytes links nodes (with_distance work (8 * v) d) q
  store_kept work q v d = area-kept work (with_distance work (8 * v) d) q (put-length work (8 * v) d) (λ u. first-kept work v u d)

  parent-kept : (work : List ℕ) (q : Queue) (v : ℕ) (p : Option Parent) → Sound bytes links nodes work q → Sound bytes links nodes (parent_stored work v p) q
  parent-kept work q v p = area-kept work (parent_stored work v p) q (stored-length work v p) (stored-first work v p)

  pub link-kept : (k : Link) (l v : ℕ) (distance : Float) (s : State) → k.nextstate < nodes → Kept s → Kept (relax_link k l v distance s)
  link-kept k l v distance s b h = store (improves (distance_at s.work k.nextstate) distance k.weight)
    where
      offer : Float
      offer = add binary32 distance k.weight

      first : Bool
      first = reaches (distance_at s.work k.nextstate) distance k.weight

      put : (b : Bool) → Sound bytes links nodes s.work (cond b (enqueued s.queue k.nextstate) s.queue)
      put true = put-kept s.work s.queue k.nextstate b h
      put false = h

      after : Queue
      after = cond first (enqueued s.queue k.nextstate) s.queue

      store : (b : Bool) → Sound bytes links nodes (cond b (taken_words k.nextstate offer l v s.work) s.work) after
      store true =
          parent-kept (with_distance s.work (8 * k.nextstate) (Some offer)) after k.nextstate (by l v)
          (store_kept s.work after k.nextstate (Some offer) (put first))
      store false = put first

  pub links-kept : (first v : ℕ) (distance : Float) (n : ℕ) (s : State) → first + n ≤ links → Kept s → Kept (relax_links bytes first v distance n s)
  unfolding relax_links
  links-kept first v distance zero s l h = h
  links-kept first v distance (suc n) s l h =
      link-kept (link_at bytes (first + n)) (first + n) v distance (relax_links bytes first v distance n s) (h.inside (first + n) (omega arith)) (links-kept first v distance n s (omega arith) h)

  -- the loop's turn: one link more
  pub link-again : (first v : ℕ) (distance : Float) (i : ℕ) (s t : State) → first + i < links → Kept t → t ≡ relax_links bytes first v distance i s
      → (k : Link) → k ≡ link_at bytes (first + i) → (u : State) → u ≡ relax_link k (first + i) v distance t → Kept u × (u ≡ relax_links bytes first v distance (i + 1) s)
  unfolding relax_links
  link-again first v distance i s t l h e k r u m =
      let made = m ∙ ap (λ (x : Link). relax_link x (first + i) v distance t) r in (
        subst Kept (sym made) (link-kept (link_at bytes (first + i)) (first + i) v distance t (h.inside (first + i) l) h),
        made ∙ ap (relax_link (link_at bytes (first + i)) (first + i) v distance) e ∙ sym (ap (λ (n : ℕ). relax_links bytes first v distance n s) (add-one i)),
      )

  -- ---- a head
  module _ (s : State) (h : Kept s) (filled : is_empty s.queue ≡ false) where
    pub front_below : s.queue.front < nodes
    front_below = h.held s.queue.front (front-held s.queue h.full h.valid filled)

    pub head-taken : Kept (record { work = s.work; queue = dequeued s.queue })
    head-taken = record {
      laid_out = h.laid_out;
      slots = h.slots;
      few = h.few;
      counted = h.counted;
      inside = h.inside;
      firsts = h.firsts;
      full = dequeued-full s.queue h.full;
      valid = dequeued-valid s.queue h.full h.valid;
      held = λ v e. h.held v (both (not (eqb v s.queue.front)) (holds s.queue v) (sym (dequeued-holds s.queue h.full h.valid filled v) ∙ e)).1;
    }

    -- its links are among those of the sheet
    pub head-links : first_word s.work s.queue.front + count_at bytes links s.queue.front ≤ links
    unfolding sum_below
    head-links =
        let v = s.queue.front in
        omega (arith, h.firsts v front_below, sum_mono (count_at bytes links) nodes (suc v) front_below, h.counted)

    pub head-kept : Kept (relax_head bytes links s)
    head-kept = links-kept (first_word s.work s.queue.front) s.queue.front (weight_in (distance_at s.work s.queue.front)) (count_at bytes links s.queue.front) (record { work = s.work; queue = dequeued s.queue }) head-links head-taken

-- ---- heads one after the other, as the loop takes them
module _ (bytes : List ℕ) (links : ℕ) (s : State) where
  -- a head's links relaxed, by what the calls answer
  pub head-made : (distance : Float) (count : ℕ) (q : Queue) → distance ≡ weight_in (distance_at s.work s.queue.front) → count ≡ count_at bytes links s.queue.front → q ≡ dequeued s.queue
      → (t : State) → t ≡ relax_links bytes (first_word s.work s.queue.front) s.queue.front distance count (record { work = s.work; queue = q }) → t ≡ relax_head bytes links s
  head-made distance count q d n e t h = h ∙ λ i. relax_links bytes (first_word s.work s.queue.front) s.queue.front (d i) (n i) (record { work = s.work; queue = e i })

  pub heads-none : relax_heads bytes links 0 s ≡ s
  unfolding relax_heads
  heads-none = refl

  -- an empty queue ends them
  pub heads-end : (n : ℕ) → is_empty s.queue ≡ true → relax_heads bytes links n s ≡ s
  unfolding relax_heads
  heads-end zero h = refl
  heads-end (suc n) h = ap (λ (b : Bool). cond b s (relax_heads bytes links n (relax_head bytes links s))) h

  -- else one is taken
  pub heads-turn : (n i : ℕ) → i < n → is_empty s.queue ≡ false → relax_heads bytes links (n - i) s ≡ relax_heads bytes links (n - (i + 1)) (relax_head bytes links s)
  unfolding relax_heads
  heads-turn n i l h =
      let e : n - i ≡ suc (n - (i + 1)) = omega arith in
      ap (λ (k : ℕ). relax_heads bytes links k s) e ∙ ap (λ (b : Bool). cond b s (relax_heads bytes links (n - (i + 1)) (relax_head bytes links s))) h

  -- the loop's turn
  pub heads-again : (n i : ℕ) (whole t : State) → i < n → is_empty s.queue ≡ false → Kept bytes links n s → t ≡ relax_head bytes links s → relax_heads bytes links (n - i) s ≡ whole
      → Kept bytes links n t × (relax_heads bytes links (n - (i + 1)) t ≡ whole)
  heads-again n i whole t l h k e w = (
    subst (Kept bytes links n) (sym e) (head-kept bytes links n s k h),
    ap (relax_heads bytes links (n - (i + 1))) e ∙ sym (heads-turn n i l h) ∙ w,
  )
