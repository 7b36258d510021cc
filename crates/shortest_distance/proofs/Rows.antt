-- Relaxation through the queue makes the distances and the parents: after each head the slots hold the row of the fold over the links, with the link that last
-- improved each value, and the queue the nodes that are reached and still to come. Assumes nothing.
use mathlib.Core.Path.{◌≡◌, refl, sym, ap, ◌∙◌, subst}
use mathlib.Core.Logic.{◌⊎◌, inl, inr}
use mathlib.Core.Bool.{Bool, true, false, not, ◌&&◌, ◌||◌, cond, and-false}
use mathlib.Core.Option.{Option, some}
use mathlib.Core.List.{List}
use Prim.Native.Nat.{ℕ, zero, suc, ◌+◌, ◌-◌, ◌*◌, ◌≤◌, ◌<◌}
use native.Mathlib.Nat.{add-zero}
use native.Mathlib.Decide.{ℕ_discrete}
use native.Mathlib.Omega.{arith}
use lib.Dec.{T, leb, ltb, eqb, leb→le, ltb→lt}
use lib.Ieee.Fits.{and_l, and_r}
use lib.ListN.{length, get_or, set, drop}
use lib.Seq.{get_or-set_same, get_or-set_other, set-get_or}
use lib.Ieee.{Float, binary32, add}
use borrow.Author.Tests.{le-leb, lt-leb, lt-ltb, eq-eqb, ne_eqb}
use Rattle.tropical_weight.specs.Limits.{weight_limit, node_limit, sum_limit}
use Rattle.tropical_weight.specs.Tropical.{Tropical, lt_t, ◌⊗◌, Within}
use Rattle.tropical_weight.specs.Grid.{of_t}
use Rattle.tropical_weight.proofs.Semiring.{is_finite, finite-⊕, not_finite}
use Rattle.tropical_weight.proofs.Sums.{within-mono, terms-within, limits}
use Rattle.sheet.specs.Below.{sum_below}
use Rattle.sheet.specs.Machine.{Machine, unit_in}
use Rattle.sheet.specs.Records.{link_at, count_at}
use Rattle.sheet.proofs.Below.{split_at}
use Rattle.sheet.proofs.Forms.{covered}
use Rattle.machine.specs.Readings.{link}
use Rattle.machine.specs.Distance.{Distance, unreached, as_weight, nearer, onward, dist, distance, relax}
use Rattle.machine.specs.Parents.{parent}
use Rattle.machine.proofs.Named.{weight-of, of-weight, same-weight, step-weight}
use Rattle.machine.proofs.Fold as Fold
use Rattle.sheet.proofs.NodeSources.{next-first}
use Rattle.machine.proofs.SheetFields.{SheetFields, first-in}
use Rattle.machine.proofs.Relax.{row_at, row-size, relax-is}
use Rattle.machine.proofs.Bounds.{row_within, step-within}
use Rattle.state_order_queue.specs.Queues.{holds, is_empty, enqueued, dequeued}
use Rattle.state_order_queue.proofs.Sets.{enqueued-holds, empty-exactly, front-held, front-least, dequeued-holds}
use Rattle.distance.specs.Held as Single
use Rattle.std.specs.Prelude.{Some}
use Rattle.distance.specs.Held.{held, weight_in}
use Rattle.distance.specs.Offer.{improves, reaches}
use Rattle.distance.proofs.Offers.{weight-held, improves-is, relaxed-is, reaches-is}
use Rattle.shortest_distance.specs.ParentWords.{by, parent_at, parent_from}
use Rattle.shortest_distance.specs.NodeSlots.{distance_at, first_word}
use Rattle.shortest_distance.specs.Relaxation.{State, taken_words, relax_link, relax_links, relax_head, relax_heads}
use Rattle.shortest_distance.specs.Sound.{Sound}
use Rattle.shortest_distance.proofs.ParentWords.{taken_here, taken-other, parent-here, parent-other, taken-length, taken-drop}
use Rattle.shortest_distance.proofs.Kept.{link-kept, head-taken}

module _ (bytes : List ℕ) (links : ℕ) (m : Machine) (f : SheetFields bytes links (length m.finals) m) (old : List ℕ) where
  -- the first link of node v
  abbrev first : ℕ → ℕ
  first v = sum_below v (count_at bytes links)

  -- past the last node come no links
  all-links : first (length m.finals) ≡ length m.links
  all-links = f.counted ∙ sym f.links-are

  -- ---- rows
  row-limit : (l v : ℕ) → l ≤ length m.links → v < length m.finals → Within sum_limit (row_at m l v)
  row-limit l v k h = terms-within node_limit weight_limit limits v (omega (arith, f.few-nodes)) (row_at m l v) (row_within m f.climbs weight_limit f.small l v k h)

  -- the distance that link l leaves at its next node, and at the others
  abbrev left : ℕ → Distance
  left l = nearer (get_or (relax m l) (link m l).next unreached) (onward (get_or (relax m l) (link m l).source unreached) (link m l).weight)

  row_next : (l : ℕ) → l < length m.links → get_or (relax m (suc l)) (link m l).next unreached ≡ left l
  unfolding relax
  row_next l h = get_or-set_same (relax m l) (link m l).next (left l) unreached (omega (arith, row-size m l, f.climbs.inside l h))

  row_other : (l v : ℕ) → (v ≡ (link m l).next → ⊥) → get_or (relax m (suc l)) v unreached ≡ get_or (relax m l) v unreached
  unfolding relax
  row_other l v n = get_or-set_other (relax m l) (link m l).next v (left l) unreached n

  -- ---- parents: of what the first l links offer node v, the first that attains the least
  abbrev chosen : ℕ → ℕ → Option ℕ
  chosen l v = Fold.chosen (Fold.offer m v) l

  -- link l is chosen where it improves the value of its next node
  chosen-next : (l v : ℕ) → l < length m.links → v < length m.finals
      → chosen (suc l) v ≡ cond (eqb (link m l).next v && lt_t (row_at m l (link m l).source ⊗ (link m l).weight) (row_at m l v)) (some l) (chosen l v)
  chosen-next l v h b = Fold.parent-step m f.climbs l v h b

  chosen-other : (l v : ℕ) → l < length m.links → v < length m.finals → (v ≡ (link m l).next → ⊥) → chosen (suc l) v ≡ chosen l v
  chosen-other l v h b n =
      chosen-next l v h b
      ∙ ap (λ (t : Bool). cond (t && lt_t (row_at m l (link m l).source ⊗ (link m l).weight) (row_at m l v)) (some l) (chosen l v)) (ne_eqb (link m l).next v (λ e. n (sym e)))

  -- after l links all is as it was after k
  record Same (l k : ℕ) : Type 0 where
    row : relax m l ≡ relax m k
    parents : (v : ℕ) → v < length m.finals → chosen l v ≡ chosen k v

  same-trans : {l k j : ℕ} → Same l k → Same k j → Same l j
  same-trans p q = record { row = p.row ∙ q.row; parents = λ v b. p.parents v b ∙ q.parents v b }

  same_at : {l k : ℕ} → l ≡ k → Same l k
  same_at e = record { row = ap (relax m) e; parents = λ v b. ap (λ (j : ℕ). chosen j v) e }

  -- an unreached source leaves the row, and changes no parent
  row_same : (l : ℕ) → l < length m.links → get_or (relax m l) (link m l).source unreached ≡ unreached → relax m (suc l) ≡ relax m l
  unfolding relax
  row_same l h e =
      let x = get_or (relax m l) (link m l).next unreached in
      ap (λ (d : Distance). set (relax m l) (link m l).next (nearer x (onward d (link m l).weight))) e
      ∙ ap (set (relax m l) (link m l).next) (of-weight x)
      ∙ set-get_or (relax m l) (link m l).next unreached

  chosen-same : (l : ℕ) → l < length m.links → get_or (relax m l) (link m l).source unreached ≡ unreached → (v : ℕ) → v < length m.finals → chosen (suc l) v ≡ chosen l v
  chosen-same l h e v b =
      chosen-next l v h b
      ∙ ap (λ (d : Distance). cond (eqb (link m l).next v && lt_t (as_weight d ⊗ (link m l).weight) (row_at m l v)) (some l) (chosen l v)) e
      ∙ ap (λ (t : Bool). cond t (some l) (chosen l v)) (and-false (eqb (link m l).next v))

  -- ---- the links of a node that is not reached change nothing, nor those of such nodes in a row
  skip-links : (v n : ℕ) → v < length m.finals → n ≤ count_at bytes links v → get_or (relax m (first v)) v unreached ≡ unreached → Same (first v + n) (first v)
  skip-links v zero h k e = same_at (add-zero (first v))
  skip-links v (suc n) h k e =
      let l = first v + n in
      let same = skip-links v n h (omega arith) e in
      let in-links : l < length m.links = omega (arith, next-first bytes links v, first-in f (suc v) h, f.links-are) in
      let source : (link m l).source ≡ v = f.source-at v l h (omega arith) (omega arith) in
      let unreached-source = ap (λ (x : List Distance). get_or x (link m l).source unreached) same.row ∙ ap (λ (x : ℕ). get_or (relax m (first v)) x unreached) source ∙ e in
      same-trans (same_at (let z : first v + suc n ≡ suc l = omega arith in z)) (same-trans (record { row = row_same l in-links unreached-source; parents = chosen-same l in-links unreached-source }) same)

  skip-nodes : (n k : ℕ) → k + n ≤ length m.finals → ((v : ℕ) → k ≤ v → v < k + n → get_or (relax m (first k)) v unreached ≡ unreached) → Same (first (k + n)) (first k)
  skip-nodes zero k h e = same_at (ap first (add-zero k))
  skip-nodes (suc n) k h e =
      let v = k + n in
      let same = skip-nodes n k (omega arith) (λ u a b. e u a (omega arith)) in
      let at : first (k + suc n) ≡ first v + count_at bytes links v = ap first (let z : k + suc n ≡ suc v = omega arith in z) ∙ next-first bytes links v in
      let skipped = skip-links v (count_at bytes links v) (omega arith) (omega arith) (ap (λ (x : List Distance). get_or x v unreached) same.row ∙ e v (omega arith) (omega arith)) in
      same-trans (same_at at) (same-trans skipped same)

  -- ---- what the slots and the queue hold beside what `Sound` says: the row after l links with its parents, and the nodes from k on that it reaches; beyond the
  -- slots the area is as it was
  pub record Holds (l k : ℕ) (s : State) : Type 0 where
    pub distances : (v : ℕ) → v < length m.finals → distance_at s.work v ≡ held (unit_in m) (get_or (relax m l) v unreached)
    pub parents : (v : ℕ) → v < length m.finals → parent_at s.work v ≡ parent_from m (chosen l v)
    pub sound : Sound bytes links (length m.finals) s.work s.queue
    pub size : length s.work ≡ length old
    pub beyond : drop (8 * length m.finals) s.work ≡ drop (8 * length m.finals) old
    pub flags : (v : ℕ) → holds s.queue v ≡ leb k v && (ltb v (length m.finals) && is_finite (row_at m l v))

  -- ---- one link of node u
  module _ (u l : ℕ) (hu : u < length m.finals) (lo : first u ≤ l) (hi : l < first (suc u)) where
    in-links : l < length m.links
    in-links = omega (arith, first-in f (suc u) hu, f.links-are)

    source : (link m l).source ≡ u
    source = f.source-at u l hu lo (subst (λ (n : ℕ). l < n) (next-first bytes links u) hi)

    in-sheet : l < links
    in-sheet = subst (λ (n : ℕ). l < n) f.links-are in-links

    abbrev nx : ℕ
    nx = (link m l).next

    nx-in : nx < length m.finals
    nx-in = f.climbs.inside l in-links

    nx-up : u < nx
    nx-up = subst (λ (x : ℕ). x < (link m l).next) source (f.climbs.rises l in-links)

    -- the distance of u, of the next node, and the weight
    abbrev x : Distance
    x = get_or (relax m l) (link m l).next unreached

    abbrev d : Distance
    d = get_or (relax m l) u unreached

    abbrev w : Tropical
    w = (link m l).weight

    weight-limit : Within sum_limit w
    weight-limit = within-mono weight_limit sum_limit w (let z : weight_limit ≤ sum_limit = omega arith in z) (f.small.on_link l in-links)

    offer-limit : Within sum_limit (as_weight d ⊗ w)
    offer-limit = step-within m f.climbs weight_limit f.small node_limit limits f.few-nodes l u (omega (arith, in-links)) hu l in-links

    x-limit : Within sum_limit (as_weight x)
    x-limit = row-limit l nx (omega (arith, in-links)) nx-in

    d-limit : Within sum_limit (as_weight d)
    d-limit = row-limit l u (omega (arith, in-links)) hu

    row_new : get_or (relax m (suc l)) nx unreached ≡ nearer x (onward d w)
    row_new = row_next l in-links ∙ ap (λ (k : ℕ). nearer x (onward (get_or (relax m l) k unreached) w)) source

    abbrev offer : Float
    offer = add binary32 (of_t (unit_in m) (as_weight d)) (of_t (unit_in m) w)

    -- what the code's link makes of a state that holds the row
    abbrev after : State → State
    after s = record {
      work = cond (improves (distance_at s.work nx) (of_t (unit_in m) (as_weight d)) (of_t (unit_in m) w)) (taken_words nx offer l u s.work) s.work;
      queue = cond (not (is_finite (as_weight x)) && is_finite (as_weight d ⊗ w)) (enqueued s.queue nx) s.queue;
    }

    module _ (s : State) (h : Holds l (suc u) s) where
      state-is : relax_link (link_at bytes l) l u (of_t (unit_in m) (as_weight d)) s ≡ after s
      state-is =
          let reach-is : reaches (distance_at s.work (link_at bytes l).nextstate) (of_t (unit_in m) (as_weight d)) (link_at bytes l).weight ≡ not (is_finite (as_weight x)) && is_finite (as_weight d ⊗ w) =
          (λ i. reaches ((ap (distance_at s.work) (f.next-at l in-sheet) ∙ h.distances nx nx-in) i) (of_t (unit_in m) (as_weight d)) (f.link-value l in-sheet i)) ∙ reaches-is (unit_in m) (covered m.form) x d w x-limit d-limit weight-limit offer-limit in
          λ i. record {
            work =
                cond
                (improves (distance_at s.work (f.next-at l in-sheet i)) (of_t (unit_in m) (as_weight d)) (f.link-value l in-sheet i))
                (taken_words (f.next-at l in-sheet i) (add binary32 (of_t (unit_in m) (as_weight d)) (f.link-value l in-sheet i)) l u s.work)
                s.work;
            queue = cond (reach-is i) (enqueued s.queue (f.next-at l in-sheet i)) s.queue;
          }

      -- the next node's distance after the offer
      becomes : cond (improves (distance_at s.work nx) (of_t (unit_in m) (as_weight d)) (of_t (unit_in m) w)) (Some offer) (held (unit_in m) x) ≡ held (unit_in m) (nearer x (onward d w))
      becomes = (λ i. cond (improves (h.distances nx nx-in i) (of_t (unit_in m) (as_weight d)) (of_t (unit_in m) w)) (Some offer) (held (unit_in m) x)) ∙ relaxed-is (unit_in m) (covered m.form) x d w x-limit d-limit weight-limit offer-limit

      small-next : nx < node_limit
      small-next = omega (arith, nx-in, f.few-nodes)

      new-flag : (t : Bool) (v : ℕ) → holds (cond t (enqueued s.queue nx) s.queue) v ≡ (t && eqb v nx) || holds s.queue v
      new-flag true v = enqueued-holds s.queue nx h.sound.full small-next v
      new-flag false v = refl

      -- the flag of the next node
      held_next : holds s.queue nx ≡ is_finite (as_weight x)
      held_next = h.flags nx ∙ λ i. le-leb (suc u) nx nx-up i && (lt-ltb nx (length m.finals) nx-in i && is_finite (as_weight x))

      either : (a b : Bool) → (not a && b && true) || a ≡ a || b
      either true b = refl
      either false true = refl
      either false false = refl

      flag-after : (v : ℕ) → holds (after s).queue v ≡ leb (suc u) v && (ltb v (length m.finals) && is_finite (row_at m (suc l) v))
      flag-after v = new-flag (not (is_finite (as_weight x)) && is_finite (as_weight d ⊗ w)) v ∙ elim (ℕ_discrete v nx) [
        | yes e ↦
            (λ i. (not (is_finite (as_weight x)) && is_finite (as_weight d ⊗ w) && eq-eqb v nx e i) || (ap (holds s.queue) e ∙ held_next) i)
            ∙ either (is_finite (as_weight x)) (is_finite (as_weight d ⊗ w))
            ∙ sym (ap (λ (k : ℕ). leb (suc u) k && (ltb k (length m.finals) && is_finite (row_at m (suc l) k))) e
            ∙ (λ i. le-leb (suc u) nx nx-up i && (lt-ltb nx (length m.finals) nx-in i && is_finite ((ap as_weight row_new ∙ step-weight x d w) i)))
            ∙ finite-⊕ (as_weight x) (as_weight d ⊗ w))
        | no n ↦
            ap (λ (t : Bool). (not (is_finite (as_weight x)) && is_finite (as_weight d ⊗ w) && t) || holds s.queue v) (ne_eqb v nx n)
            ∙ drop_false (not (is_finite (as_weight x)) && is_finite (as_weight d ⊗ w)) (holds s.queue v)
            ∙ h.flags v
            ∙ ap (λ (y : Distance). leb (suc u) v && (ltb v (length m.finals) && is_finite (as_weight y))) (sym (row_other l v n))
      ]
        where
          drop_false : (a b : Bool) → (a && false) || b ≡ b
          drop_false true b = refl
          drop_false false b = refl

      abbrev better : Bool
      better = improves (distance_at s.work nx) (of_t (unit_in m) (as_weight d)) (of_t (unit_in m) w)

      distance-after : (v : ℕ) → v < length m.finals → distance_at (after s).work v ≡ held (unit_in m) (get_or (relax m (suc l)) v unreached)
      distance-after v k = elim (ℕ_discrete v nx) [
        | yes e ↦
            ap (distance_at (after s).work) e
            ∙ taken_here s.work nx offer l u (unit_in m) (covered m.form) better x (nearer x (onward d w)) becomes (omega (arith, h.sound.slots, nx-in)) (h.distances nx nx-in)
            ∙ ap (held (unit_in m)) (sym (ap (λ (j : ℕ). get_or (relax m (suc l)) j unreached) e ∙ row_new))
        | no n ↦
            taken-other s.work nx offer l u better v n ∙ h.distances v k ∙ ap (held (unit_in m)) (sym (row_other l v n))
      ]

      -- the test by which the next node takes the offer is that by which link l is chosen
      better-is : better ≡ eqb nx nx && lt_t (row_at m l (link m l).source ⊗ w) (row_at m l nx)
      better-is =
          ap (λ (y : Single.Distance). improves y (of_t (unit_in m) (as_weight d)) (of_t (unit_in m) w)) (h.distances nx nx-in)
          ∙ improves-is (unit_in m) (covered m.form) x d w x-limit d-limit weight-limit offer-limit
          ∙ sym (λ i. eq-eqb nx nx refl i && lt_t (row_at m l (source i) ⊗ w) (row_at m l nx))

      by-test : (t : Bool) → cond t (by l u) (parent_from m (chosen l nx)) ≡ parent_from m (cond t (some l) (chosen l nx))
      by-test true = ap (by l) (sym source)
      by-test false = refl

      parent-after : (v : ℕ) → v < length m.finals → parent_at (after s).work v ≡ parent_from m (chosen (suc l) v)
      parent-after v k = elim (ℕ_discrete v nx) [
        | yes e ↦
            ap (parent_at (after s).work) e
            ∙ parent-here s.work nx offer l u better (omega (arith, in-sheet, f.few-links)) (omega (arith, h.sound.slots, nx-in))
            ∙ (λ i. cond (better-is i) (by l u) (h.parents nx nx-in i))
            ∙ by-test (eqb nx nx && lt_t (row_at m l (link m l).source ⊗ w) (row_at m l nx))
            ∙ ap (parent_from m) (sym (ap (chosen (suc l)) e ∙ chosen-next l nx in-links nx-in))
        | no n ↦ parent-other s.work nx offer l u better v n ∙ h.parents v k ∙ ap (parent_from m) (sym (chosen-other l v in-links k n))
      ]

      pub link-step : Holds (suc l) (suc u) (relax_link (link_at bytes l) l u (of_t (unit_in m) (as_weight d)) s)
      link-step = subst (λ (y : State). Holds (suc l) (suc u) y) (sym state-is) (record {
        distances = distance-after;
        parents = parent-after;
        sound = subst (λ (y : State). Sound bytes links (length m.finals) y.work y.queue) state-is (link-kept bytes links (length m.finals) (link_at bytes l) l u (of_t (unit_in m) (as_weight d)) s (subst (λ (n : ℕ). n < length m.finals) (sym (f.next-at l in-sheet)) nx-in) h.sound);
        size = taken-length s.work nx offer l u better ∙ h.size;
        beyond = taken-drop s.work nx offer l u better (8 * length m.finals) (omega (arith, nx-in)) ∙ h.beyond;
        flags = flag-after;
      })

  -- ---- the links of node u, so many of them
  links-step : (u : ℕ) → u < length m.finals → (n : ℕ) → n ≤ count_at bytes links u → (s : State) → Holds (first u) (suc u) s
      → Holds (first u + n) (suc u) (relax_links bytes (first u) u (of_t (unit_in m) (row_at m (first u) u)) n s) × (get_or (relax m (first u + n)) u unreached ≡ get_or (relax m (first u)) u unreached)
  unfolding relax_links
  links-step u hu zero k s h = (subst (λ (l : ℕ). Holds l (suc u) s) (sym (add-zero (first u))) h, ap (λ (l : ℕ). get_or (relax m l) u unreached) (add-zero (first u)))
  links-step u hu (suc n) k s h =
      let before = links-step u hu n (omega arith) s h in
      let l = first u + n in
      let lo : first u ≤ l = omega arith in
      let hi : l < first (suc u) = omega (arith, next-first bytes links u) in
      let at : suc l ≡ first u + suc n = omega arith in
      let step = link-step u l hu lo hi (relax_links bytes (first u) u (of_t (unit_in m) (row_at m (first u) u)) n s) before.0 in
      let same : of_t (unit_in m) (row_at m l u) ≡ of_t (unit_in m) (row_at m (first u) u) = ap (λ (y : Distance). of_t (unit_in m) (as_weight y)) before.1 in
      let apart : u ≡ (link m l).next → ⊥ = λ e. omega (arith, nx-up u l hu lo hi) in (
        subst (λ (j : ℕ). Holds j (suc u) (relax_link (link_at bytes l) l u (of_t (unit_in m) (row_at m (first u) u)) (relax_links bytes (first u) u (of_t (unit_in m) (row_at m (first u) u)) n s))) at
            (subst (λ (y : Float). Holds (suc l) (suc u) (relax_link (link_at bytes l) l u y (relax_links bytes (first u) u (of_t (unit_in m) (row_at m (first u) u)) n s))) same step),
        ap (λ (j : ℕ). get_or (relax m j) u unreached) (sym at) ∙ row_other l u apart ∙ before.1,
      )

  -- ---- a head of the queue
  module _ (k : ℕ) (s : State) (hk : k ≤ length m.finals) (h : Holds (first k) k s) where
    -- no flag, no distance
    blank : (v : ℕ) → k ≤ v → v < length m.finals → holds s.queue v ≡ false → get_or (relax m (first k)) v unreached ≡ unreached
    blank v a b e = same-weight (not_finite (row_at m (first k) v)
        (sym (h.flags v ∙ (λ i. le-leb k v a i && (lt-ltb v (length m.finals) b i && is_finite (row_at m (first k) v)))) ∙ e))

    module _ (filled : is_empty s.queue ≡ false) where
      abbrev u : ℕ
      u = s.queue.front

      head : (k ≤ u) × (u < length m.finals)
      head =
          let t : T (leb k u && (ltb u (length m.finals) && is_finite (row_at m (first k) u))) = subst T (sym (sym (h.flags u) ∙ front-held s.queue h.sound.full h.sound.valid filled)) tt in
          let t₁ = and_r (leb k u) (ltb u (length m.finals) && is_finite (row_at m (first k) u)) t in
          (leb→le k u (and_l (leb k u) (ltb u (length m.finals) && is_finite (row_at m (first k) u)) t), ltb→lt u (length m.finals) (and_l (ltb u (length m.finals)) (is_finite (row_at m (first k) u)) t₁))

      -- nothing below the head is in the queue
      below-clear : (v : ℕ) → v < u → holds s.queue v ≡ false
      below-clear v b = go (holds s.queue v) refl
        where
          go : (t : Bool) → holds s.queue v ≡ t → t ≡ false
          go true e = absurd (omega (arith, front-least s.queue h.sound.full h.sound.valid filled v e))
          go false e = refl

      rows : Same (first u) (first k)
      rows =
          let at : k + (u - k) ≡ u = omega (arith, head.0) in
          same-trans (same_at (ap first (sym at)))
          (skip-nodes (u - k) k (omega (arith, head.0, head.1)) (λ v a b. blank v a (omega (arith, head.0, head.1)) (below-clear v (omega (arith, head.0)))))

      flag-taken : (v : ℕ) → holds (dequeued s.queue) v ≡ leb (suc u) v && (ltb v (length m.finals) && is_finite (row_at m (first u) v))
      flag-taken v = dequeued-holds s.queue h.sound.full h.sound.valid filled v ∙ cases (split_at u v)
        where
          low : v ≤ u → leb (suc u) v && (ltb v (length m.finals) && is_finite (row_at m (first u) v)) ≡ false
          low a = ap (λ (t : Bool). t && (ltb v (length m.finals) && is_finite (row_at m (first u) v))) (lt-leb (suc u) v (omega arith))

          cases : (u < v) ⊎ (v ≤ u) → not (eqb v u) && holds s.queue v ≡ leb (suc u) v && (ltb v (length m.finals) && is_finite (row_at m (first u) v))
          cases (inl a) =
              (λ i. not (ne_eqb v u (λ e. omega arith) i) && h.flags v i)
              ∙ (λ i. le-leb k v (omega (arith, head.0)) i && (ltb v (length m.finals) && is_finite (as_weight (get_or (sym rows.row i) v unreached))))
              ∙ sym (ap (λ (t : Bool). t && (ltb v (length m.finals) && is_finite (row_at m (first u) v))) (le-leb (suc u) v a))
          cases (inr a) = elim (ℕ_discrete v u) [
            | yes e ↦ ap (λ (t : Bool). not t && holds s.queue v) (eq-eqb v u e) ∙ sym (low a)
            | no n ↦ ap (λ (t : Bool). not (eqb v u) && t) (below-clear v (omega (arith, n))) ∙ and-false (not (eqb v u)) ∙ sym (low a)
          ]

      taken : Holds (first u) (suc u) (record { work = s.work; queue = dequeued s.queue })
      taken = record {
        distances = λ v b. h.distances v b ∙ ap (λ (y : List Distance). held (unit_in m) (get_or y v unreached)) (sym rows.row);
        parents = λ v b. h.parents v b ∙ ap (parent_from m) (sym (rows.parents v b));
        sound = head-taken bytes links (length m.finals) s h.sound filled;
        size = h.size;
        beyond = h.beyond;
        flags = flag-taken;
      }

      pub head_step : Holds (first (suc u)) (suc u) (relax_head bytes links s)
      head_step =
          let distance : weight_in (distance_at s.work u) ≡ of_t (unit_in m) (row_at m (first u) u) = ap weight_in (taken.distances u head.1) ∙ weight-held (unit_in m) (get_or (relax m (first u)) u unreached) in
          let all = (links-step u head.1 (count_at bytes links u) (omega arith) (record { work = s.work; queue = dequeued s.queue }) taken).0 in
          subst (λ (y : Float). Holds (first (suc u)) (suc u) (relax_links bytes (first_word s.work u) u y (count_at bytes links u) (record { work = s.work; queue = dequeued s.queue }))) (sym distance)
          (subst (λ (j : ℕ). Holds (first (suc u)) (suc u) (relax_links bytes j u (of_t (unit_in m) (row_at m (first u) u)) (count_at bytes links u) (record { work = s.work; queue = dequeued s.queue }))) (sym (h.sound.firsts u head.1))
          (subst (λ (j : ℕ). Holds j (suc u) (relax_links bytes (first u) u (of_t (unit_in m) (row_at m (first u) u)) (count_at bytes links u) (record { work = s.work; queue = dequeued s.queue }))) (sym (next-first bytes links u)) all))

  -- ---- all heads: the slots hold Mohri's distances and the parents
  pub record Final (s : State) : Type 0 where
    pub distances : (v : ℕ) → v < length m.finals → distance_at s.work v ≡ held (unit_in m) (distance m v)
    pub parents : (v : ℕ) → v < length m.finals → parent_at s.work v ≡ parent_from m (parent m v)
    pub size : length s.work ≡ length old
    pub beyond : drop (8 * length m.finals) s.work ≡ drop (8 * length m.finals) old

  final-of : (k : ℕ) (s : State) → Holds (first k) k s → Same (first (length m.finals)) (first k) → Final s
  final-of k s h e = record {
    distances = λ v b.
        let last : get_or (relax m (length m.links)) v unreached ≡ distance m v = same-weight (relax-is m f.climbs v b ∙ sym (weight-of (dist m v))) in
        h.distances v b ∙ ap (λ (y : List Distance). held (unit_in m) (get_or y v unreached)) (sym e.row ∙ ap (relax m) all-links) ∙ ap (held (unit_in m)) last;
    parents = λ v b. h.parents v b ∙ ap (parent_from m) (sym (e.parents v b) ∙ ap (λ (l : ℕ). chosen l v) all-links ∙ sym (Fold.parent-chosen m f.climbs v));
    size = h.size;
    beyond = h.beyond;
  }

  pub heads : (n k : ℕ) (s : State) → k ≤ length m.finals → length m.finals ≤ k + n → Holds (first k) k s → Final (relax_heads bytes links n s)
  unfolding relax_heads
  heads zero k s a b h = final-of k s h (same_at (ap first (let z : length m.finals ≡ k = omega arith in z)))
  heads (suc n) k s a b h = go (is_empty s.queue) refl (λ filled. heads n (suc s.queue.front) (relax_head bytes links s) (omega (arith, (head k s a h filled).1)) (omega (arith, (head k s a h filled).0)) (head_step k s a h filled))
    where
      go : (t : Bool) → is_empty s.queue ≡ t → (is_empty s.queue ≡ false → Final (relax_heads bytes links n (relax_head bytes links s))) → Final (cond t s (relax_heads bytes links n (relax_head bytes links s)))
      go true e on =
          let at : k + (length m.finals - k) ≡ length m.finals = omega arith in
          final-of k s h
          (same-trans (same_at (ap first (sym at)))
          (skip-nodes (length m.finals - k) k (omega arith) (λ v c d. blank k s a h v c (omega arith) ((empty-exactly s.queue h.sound.full h.sound.valid).0 e v))))
      go false e on = on e
