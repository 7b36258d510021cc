-- The words after any number of removals hold the search after as many, and each removal has the room that it asks. Assumes nothing.
use mathlib.Core.Path.{◌≡◌, refl, sym, ◌∙◌, subst}
use mathlib.Core.Bool.{Bool, true, false, ◌||◌}
use mathlib.Core.List.{List, []}
use Prim.Native.Nat.{ℕ, zero, suc, ◌+◌, ◌*◌, ◌≤◌, ◌<◌}
use native.Mathlib.Omega.{arith}
use lib.Dec.{eqb, leb}
use lib.Ieee.{binary32, of_bits}
use lib.ListN.{length, get_or, replicate, get_or-replicate}
use Rattle.tropical_weight.specs.Limits.{weight_limit, node_limit}
use Rattle.tropical_weight.specs.Tropical.{one}
use Rattle.tropical_weight.specs.Grid.{of_t}
use Rattle.tropical_weight.proofs.Exact.{one-of_t}
use Rattle.sheet.specs.Below.{list_below}
use Rattle.sheet.specs.Machine.{Machine, unit_in}
use Rattle.sheet.proofs.Forms.{covered}
use Rattle.machine.specs.Climbs.{Climbs, Small}
use Rattle.search.specs.Heap.{pushed}
use Rattle.search.specs.Reversed.{Reversed, reversed}
use Rattle.search.specs.Search.{first, Search, put, step, stopped, after, begun, most_taken}
use Rattle.search.proofs.Backwards.{consistent, leads-in}
use Rattle.search.proofs.Steps.{Holds, each, holds-step}
use Rattle.search.proofs.Within.{holds_after, put-room, entry-node, entry-within}
use Rattle.search.proofs.Tallies.{visits-few, listed-few, step-listed}
use Rattle.search.proofs.Ran.{stopped-not}
use Rattle.n_shortest.specs.declared.n_best.Places.{Places}
use Rattle.n_shortest.specs.declared.entry.Entry.TheVariants.{Half}
use Rattle.slots.specs.Slots.{slot_length, nothing}
use Rattle.search_slots.specs.Slots.{visits_word}
use Rattle.n_shortest.specs.SearchWords.{Words, put_w, step_w, stopped_w, after_w, none_w, begun_w, Sized, Ready}
use Rattle.n_shortest.proofs.Taking as W
use Rattle.n_shortest.proofs.Storing.{Laid, Fine, Stores, stores-put}
use Rattle.n_shortest.proofs.Stepping.{stores-step, ready}

module _ (m : Machine) (c : Climbs m) (b : Small weight_limit m) (few : length m.finals ≤ node_limit) (n : ℕ) (p : Places) (most : ℕ)
    (fans : (v : ℕ) → v < suc (length m.finals) → length ((reversed m).out v) ≤ most) (room : slot_length * most_taken m n ≤ p.nodes) (small : most_taken m n < 4294967295) where
  abbrev r : Reversed
  r = reversed m

  abbrev size : ℕ
  size = suc (length m.finals)

  fine : (s : Search) → Holds r n size s → (i : ℕ) → i < length s.entries → Fine size r (get_or s.entries i first).entry
  fine s h i l = let x = entry-within m c b few n s h i l in record { cost = x.0; ranked = x.1; node = λ v k e. entry-node m c n s h i l v k e }

  stop-same : (s : Search) (w : Words) → Stores (unit_in m) p size r s w → stopped_w n w ≡ stopped r n s
  stop-same s w t = λ i. eqb (t.heap-count i) 0 || leb n (t.listed-count i)

  next-holds : (s : Search) → Holds r n size s → 0 < length s.heap → Holds r n size (step r n s)
  next-holds s h some_in = holds-step r n size (consistent m c) (omega arith) (leads-in m c) s h some_in

  next-room : (s : Search) → Holds r n size s → 0 < length s.heap → slot_length * length (step r n s).entries ≤ p.nodes
  next-room s h some_in = omega (arith, put-room m c n (step r n s) (next-holds s h some_in), room)

  -- what is taken was put in
  before-all : (s : Search) → Holds r n size s → length s.entries ≡ length s.heap + s.taken
  before-all s h = h.mirrors.size ∙ each r n size s h

  pub stores_run : (k : ℕ) (s : Search) (w : Words) → Holds r n size s → Stores (unit_in m) p size r s w → Stores (unit_in m) p size r (after r k n s) (after_w p n most k w)
  unfolding after
  stores_run zero s w h t = subst (Stores (unit_in m) p size r s) (sym (W.after_none p n most w)) t
  stores_run (suc k) s w h t = go (stopped r n s) refl (stores_run k (step r n s) (step_w p n most w))
    where
      go : (q : Bool) → stopped r n s ≡ q → (Holds r n size (step r n s) → Stores (unit_in m) p size r (step r n s) (step_w p n most w) → Stores (unit_in m) p size r (after r k n (step r n s)) (after_w p n most k (step_w p n most w)))
          → Stores (unit_in m) p size r (elim q [ true ↦ s | false ↦ after r k n (step r n s) ]) (after_w p n most (suc k) w)
      go true e on = subst (Stores (unit_in m) p size r s) (sym (W.after-stopped p n most (suc k) w (stop-same s w t ∙ e))) t
      go false e on =
          let some_in = (stopped-not r n s e).0 in
          let g = next-holds s h some_in in
          subst (Stores (unit_in m) p size r (after r k n (step r n s))) (sym (W.after-step p n most k w (stop-same s w t ∙ e)))
          (on g (stores-step (unit_in m) (covered m.form) p size r n most s w t some_in h.wide fans (omega (arith, step-listed r n s, listed-few r n size s h, before-all s h)) (fine (step r n s) g) (next-room s h some_in)))

  -- ---- from the first entry on
  module _ (part : List ℕ) (laid : Laid (unit_in m) p size r part) (sized : Sized p (none_w part)) (fresh : (q : ℕ) → q < size → visits_word part p.nodes q ≡ 0) where
    empty : Search
    empty = record { entries = []; heap = []; visits = replicate size 0; listed = []; taken = 0 }

    stores-none : Stores (unit_in m) p size r empty (none_w part)
    unfolding empty list_below
    stores-none = record {
      sized = sized;
      entries-count = refl;
      heap-count = refl;
      listed-count = refl;
      taken-count = refl;
      entries = λ i l. absurd (omega arith);
      ranks = λ i l. absurd (omega arith);
      fine = λ i l. absurd (omega arith);
      heap = refl;
      listed = refl;
      listed-few = omega arith;
      visits = λ q l. fresh q l ∙ sym (get_or-replicate {A = ℕ} size q 0 0 l);
      laid = laid;
    }

    some-room : slot_length * 1 ≤ p.nodes
    some-room = omega (arith, room)

    first_fine : Fine size r first.entry
    unfolding after
    first_fine = fine (begun size) (holds_after m c n 0) 0 (omega arith)

    begun-is : put r first empty ≡ begun size
    unfolding empty pushed
    begun-is = refl

    cost-zero : of_t (unit_in m) one ≡ of_bits binary32 0
    unfolding of_bits
    cost-zero = sym (one-of_t (unit_in m) (covered m.form))

    pub stores-begun : Stores (unit_in m) p size r (begun size) (begun_w p part)
    unfolding begun_w empty
    stores-begun =
        subst (λ s. Stores (unit_in m) p size r s (begun_w p part)) begun-is
        (subst (λ f. Stores (unit_in m) p size r (put r first empty) (put_w p.nodes (Half 0 f) 0 nothing (none_w part))) cost-zero (stores-put (unit_in m) (covered m.form) p size r empty (none_w part) stores-none first first_fine some-room))

    begun-holds : Holds r n size (begun size)
    unfolding after
    begun-holds = holds_after m c n 0

    pub stores-after : (k : ℕ) → Stores (unit_in m) p size r (after r k n (begun size)) (after_w p n most k (begun_w p part))
    stores-after k = stores_run k (begun size) (begun_w p part) begun-holds stores-begun

    pub readies : (k : ℕ) → stopped_w n (after_w p n most k (begun_w p part)) ≡ false → Ready p n (after_w p n most k (begun_w p part))
    readies k e =
        let s = after r k n (begun size) in
        let w = after_w p n most k (begun_w p part) in
        let t = stores-after k in
        let h = holds_after m c n k in
        let some_in = (stopped-not r n s (sym (stop-same s w t) ∙ e)).0 in
        let all = before-all s h in
        let most-in = put-room m c n s h in
        ready (unit_in m) (covered m.form) p size r n s w t some_in (omega (arith, most-in, small)) (omega (arith, listed-few r n size s h, all)) (omega (arith, all, most-in, small)) (λ v l. omega (arith, visits-few r n size k v, all, most-in, small)) (next-room s h some_in)
