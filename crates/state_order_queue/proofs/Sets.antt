-- The queue as a set of nodes, those with a flag: what each call makes of the set, and that it keeps the record valid. Assumes nothing.
use mathlib.Core.Path.{◌≡◌, refl, sym, ap, ◌∙◌}
use mathlib.Core.Bool.{Bool, true, false, not, ◌&&◌, ◌||◌, cond}
use mathlib.Core.List.{List}
use mathlib.Core.Logic.{◌⊎◌, inl, inr, ◌↔◌}
use Prim.Native.Nat.{ℕ, ◌+◌, ◌-◌, ◌≤◌, ◌<◌}
use native.Mathlib.Decide.{ℕ_discrete}
use native.Mathlib.Omega.{arith}
use lib.Dec.{ltb, eqb}
use lib.Seq.{set-get_or}
use lib.ListN.{length, get_or, set, length-set, length-replicate, get_or-replicate, get_or-eq_default}
use borrow.Author.Tests.{le-ltb, ltb-true, ltb-false, eqb-true, eq-eqb, ne_eqb}
use Rattle.tropical_weight.specs.Limits.{node_limit}
use Rattle.std.specs.Prelude.{Option, None, Some}
use Rattle.state_order_queue.specs.declared.Queue.{Queue}
use Rattle.state_order_queue.specs.Queues.{first_set, holds, empty_from, is_empty, is_valid, emptied, front_with, back_with, enqueued, dequeued}
use Rattle.state_order_queue.specs.Conditions.{Accepted}
use Rattle.sheet.proofs.Apart.{both, not-both, or-either, or_left, or_right}
use Rattle.state_order_queue.proofs.Flags.{first-bounds, first-clear, first-flag, flag-put, flag-taken}
use Rattle.state_order_queue.proofs.Records.{dequeued-at}
use Rattle.state_order_queue.proofs.Accepts.{none-at, at_none, at_same, valid-exactly}

-- ---- small facts on tests
pub clash : {A : Type 0} {t : Bool} → t ≡ false → t ≡ true → A
clash {A} {t} h k = absurd (not-both k h)

-- ---- a new queue
pub emptied-full : length emptied.flags ≡ node_limit
emptied-full = length-replicate node_limit false

pub emptied-valid : is_valid emptied ≡ true
emptied-valid = (valid-exactly emptied).1 (record {
  front_fits = omega arith;
  back_fits = λ b e. none-at e;
  inside = λ b v e l h. none-at e;
  none-set = λ v e l. get_or-replicate node_limit v false false l;
  first-set = λ b e l. none-at e;
  last_set = λ b e l. none-at e;
  none-at-0 = λ e. refl;
})

pub emptied-empty : is_empty emptied ≡ true
emptied-empty = refl

-- ---- a node put in
module _ (q : Queue) (s : ℕ) where
  pub enqueued-full : length (enqueued q s).flags ≡ length q.flags
  enqueued-full = length-set q.flags s true

  module _ (full : length q.flags ≡ node_limit) (small : s < node_limit) where
    -- the set is the old one and the node
    pub enqueued-holds : (v : ℕ) → holds (enqueued q s) v ≡ eqb v s || holds q v
    enqueued-holds v = flag-put q.flags s v (omega arith)

    -- new ends that the node is one of or lies between
    ends-kept : (f b : ℕ) → f ≤ s → s ≤ b → b < node_limit → (f ≡ s) ⊎ (holds q f ≡ true) → (b ≡ s) ⊎ (holds q b ≡ true)
        → ((v : ℕ) → v < node_limit → holds q v ≡ true → (f ≤ v) × (v ≤ b)) → Accepted (record { front = f; back = Some b; flags = set q.flags s true })
    ends-kept f b fs sb bl ff bb between = record {
      front_fits = omega arith;
      back_fits = λ c e. rw (sym (at_same e)) bl;
      inside = λ c v e l h. rw (sym (at_same e)) (within v l (or-either _ _ (sym (enqueued-holds v) ∙ h)));
      none-set = λ v e l. at_none e;
      first-set = λ c e l. set_at f ff;
      last_set = λ c e l. rw (sym (at_same e)) (set_at b bb);
      none-at-0 = λ e. at_none e;
    }
      where
        set_at : (v : ℕ) → (v ≡ s) ⊎ (holds q v ≡ true) → get_or (set q.flags s true) v false ≡ true
        set_at v (inl e) = enqueued-holds v ∙ or_left (eqb v s) (holds q v) (eq-eqb v s e)
        set_at v (inr h) = enqueued-holds v ∙ or_right (eqb v s) (holds q v) h

        within : (v : ℕ) → v < node_limit → (eqb v s ≡ true) ⊎ (holds q v ≡ true) → (f ≤ v) × (v ≤ b)
        within v l (inl e) = let k = eqb-true v s e in (omega arith, omega arith)
        within v l (inr h) = between v l h

    pub enqueued-accepted : Accepted q → Accepted (enqueued q s)
    enqueued-accepted a = go q.back refl
      where
        pick : (b : ℕ) → q.back ≡ Some b → (t u w : Bool) → ltb b q.front ≡ t → ltb s q.front ≡ u → ltb b s ≡ w
            → Accepted (record { front = cond (t || u) s q.front; back = Some (cond (t || w) s b); flags = set q.flags s true })
        pick b e true u w h k m = ends-kept s s (omega arith) (omega arith) small (inl refl) (inl refl) (λ v l y. let i = a.inside b v e l y in absurd (omega (arith, ltb-true b q.front h)))
        pick b e false true true h k m = absurd (omega (arith, ltb-false b q.front h, ltb-true s q.front k, ltb-true b s m))
        pick b e false true false h k m =
            let l = ltb-false b q.front h in let x = ltb-true s q.front k in
            ends-kept s b (omega arith) (ltb-false b s m) (a.back_fits b e) (inl refl) (inr (a.last_set b e l)) (λ v i y. let z = a.inside b v e i y in (omega arith, z.1))
        pick b e false false true h k m =
            let l = ltb-false b q.front h in let x = ltb-true b s m in
            ends-kept q.front s (ltb-false s q.front k) (omega arith) small (inr (a.first-set b e l)) (inl refl) (λ v i y. let z = a.inside b v e i y in (z.0, omega arith))
        pick b e false false false h k m =
            let l = ltb-false b q.front h in
            ends-kept q.front b (ltb-false s q.front k) (ltb-false b s m) (a.back_fits b e) (inr (a.first-set b e l)) (inr (a.last_set b e l)) (λ v i y. a.inside b v e i y)

        go : (back : Option ℕ) → q.back ≡ back → Accepted (record { front = front_with q.front back s; back = Some (back_with q.front back s); flags = set q.flags s true })
        go None e = ends-kept s s (omega arith) (omega arith) small (inl refl) (inl refl) (λ v l y. clash (a.none-set v e l) y)
        go (Some b) e = pick b e (ltb b q.front) (ltb s q.front) (ltb b s) refl refl refl

    pub enqueued-valid : is_valid q ≡ true → is_valid (enqueued q s) ≡ true
    enqueued-valid h = (valid-exactly (enqueued q s)).1 (enqueued-accepted ((valid-exactly q).0 h))

  -- a node that is in is put in again: the record is as it was
  pub enqueued-again : is_valid q ≡ true → s < node_limit → holds q s ≡ true → enqueued q s ≡ q
  enqueued-again h small in-set = go q.back refl
    where
      a : Accepted q
      a = (valid-exactly q).0 h

      same : set q.flags s true ≡ q.flags
      same = ap (λ (t : Bool). set q.flags s t) (sym in-set) ∙ set-get_or q.flags s false

      go : (back : Option ℕ) → q.back ≡ back → enqueued q s ≡ q
      go None e = clash (a.none-set s e small) in-set
      go (Some b) e =
          let i = a.inside b s e small in-set in
          let above : ltb b q.front ≡ false = le-ltb b q.front (omega (arith, i.0, i.1)) in
          let low : ltb s q.front ≡ false = le-ltb s q.front i.0 in
          let high : ltb b s ≡ false = le-ltb b s i.1 in
          (λ j. record { front = front_with q.front (e j) s; back = Some (back_with q.front (e j) s); flags = same j })
          ∙ (λ j. record { front = cond (above j || low j) s q.front; back = Some (cond (above j || high j) s b); flags = q.flags })
          ∙ λ j. record { front = q.front; back = sym e j; flags = q.flags }

-- ---- a node taken out
nonempty-at : (front : ℕ) (back : Option ℕ) → empty_from front back ≡ false → (b : ℕ) × (back ≡ Some b) × (front ≤ b)
nonempty-at front None h = clash h refl
nonempty-at front (Some b) h = (b, refl, ltb-false b front h)

module _ (q : Queue) where
  pub dequeued-empty : is_empty q ≡ true → dequeued q ≡ q
  unfolding dequeued
  dequeued-empty h = simp h

module _ (q : Queue) (full : length q.flags ≡ node_limit) where
  -- only nodes below the limit are in the set
  held_small : (v : ℕ) → holds q v ≡ true → v < node_limit
  held_small v h = go (ltb v node_limit) refl
    where
      go : (t : Bool) → ltb v node_limit ≡ t → v < node_limit
      go true e = ltb-true v node_limit e
      go false e = let l = ltb-false v node_limit e in clash (get_or-eq_default q.flags false {n = v} (omega arith)) h

  module _ (a : Accepted q) (b : ℕ) (e : q.back ≡ Some b) (l : q.front ≤ b) where
    front-in : q.front < length q.flags
    front-in = omega (arith, a.back_fits b e)

    rest-holds : (v : ℕ) → get_or (set q.flags q.front false) v false ≡ not (eqb v q.front) && holds q v
    rest-holds v = flag-taken q.flags q.front v front-in

    rest-accepted : Accepted (record { front = first_set (b + 1 - q.front) q.front (set q.flags q.front false); back = Some b; flags = set q.flags q.front false })
    rest-accepted = record {
      front_fits = omega (arith, a.back_fits b e, bounds);
      back_fits = λ c d. rw (sym (at_same d)) (a.back_fits b e);
      inside = λ c v d i h. let m = a.inside b v e i (both (not (eqb v q.front)) (holds q v) (sym (rest-holds v) ∙ h)).1 in rw (sym (at_same d)) (after v m.0 h (ltb v next) refl, m.1);
      none-set = λ v d i. at_none d;
      first-set = λ c d i. first-flag rest (b + 1 - q.front) q.front (omega (arith, at_same d));
      last_set = λ c d i. rw (sym (at_same d)) (last (omega (arith, at_same d)) (ℕ_discrete b q.front));
      none-at-0 = λ d. at_none d;
    }
      where
        rest : List Bool
        rest = set q.flags q.front false

        next : ℕ
        next = first_set (b + 1 - q.front) q.front rest

        bounds : (q.front ≤ next) × (next ≤ q.front + (b + 1 - q.front))
        bounds = first-bounds rest (b + 1 - q.front) q.front

        after : (v : ℕ) → q.front ≤ v → get_or rest v false ≡ true → (t : Bool) → ltb v next ≡ t → next ≤ v
        after v m h true k = clash (first-clear rest (b + 1 - q.front) q.front v m (ltb-true v next k)) h
        after v m h false k = ltb-false v next k

        last : next ≤ b → Dec (b ≡ q.front) → get_or rest b false ≡ true
        last i (yes same) =
            let stays : next ≡ q.front = omega (arith, bounds) in
            let flagged = first-flag rest (b + 1 - q.front) q.front (omega arith) in
            clash (rest-holds q.front ∙ simp (eq-eqb q.front q.front refl)) (sym (ap (λ (k : ℕ). get_or rest k false) stays) ∙ flagged)
        last i (no apart) = rest-holds b ∙ simp (ne_eqb b q.front apart, a.last_set b e l)

  pub dequeued-accepted : Accepted q → Accepted (dequeued q)
  dequeued-accepted a = go (is_empty q) refl
    where
      go : (t : Bool) → is_empty q ≡ t → Accepted (dequeued q)
      go true h = rw (dequeued-empty q h) a
      go false h = let n = nonempty-at q.front q.back h in rw (sym (dequeued-at q n.0 n.1 n.2 _ refl)) (rest-accepted a n.0 n.1 n.2)

  pub dequeued-valid : is_valid q ≡ true → is_valid (dequeued q) ≡ true
  dequeued-valid h = (valid-exactly (dequeued q)).1 (dequeued-accepted ((valid-exactly q).0 h))

  pub dequeued-full : length (dequeued q).flags ≡ node_limit
  dequeued-full = go (is_empty q) refl
    where
      go : (t : Bool) → is_empty q ≡ t → length (dequeued q).flags ≡ node_limit
      go true h = rw (dequeued-empty q h) full
      go false h = let n = nonempty-at q.front q.back h in rw (sym (dequeued-at q n.0 n.1 n.2 _ refl)) (length-set q.flags q.front false ∙ full)

  module _ (valid : is_valid q ≡ true) where
    -- an empty queue has no node, and a queue without a node is empty
    pub empty-exactly : (is_empty q ≡ true) ↔ ((v : ℕ) → holds q v ≡ false)
    empty-exactly = (λ h v. none h v (holds q v) refl, λ h. some h (is_empty q) refl)
      where
        a : Accepted q
        a = (valid-exactly q).0 valid

        out : (back : Option ℕ) → q.back ≡ back → empty_from q.front back ≡ true → (v : ℕ) → holds q v ≡ true → ⊥
        out None e h v k = clash (a.none-set v e (held_small v k)) k
        out (Some b) e h v k = let i = a.inside b v e (held_small v k) k in omega (arith, ltb-true b q.front h)

        none : is_empty q ≡ true → (v : ℕ) → (t : Bool) → holds q v ≡ t → holds q v ≡ false
        none h v true k = absurd (out q.back refl h v k)
        none h v false k = k

        some : ((v : ℕ) → holds q v ≡ false) → (t : Bool) → is_empty q ≡ t → is_empty q ≡ true
        some h true k = k
        some h false k = let n = nonempty-at q.front q.back k in clash (h q.front) (a.first-set n.0 n.1 n.2)

    module _ (filled : is_empty q ≡ false) where
      -- front is the least node of the set
      pub front-held : holds q q.front ≡ true
      front-held = let n = nonempty-at q.front q.back filled in ((valid-exactly q).0 valid).first-set n.0 n.1 n.2

      pub front-least : (v : ℕ) → holds q v ≡ true → q.front ≤ v
      front-least v h = let n = nonempty-at q.front q.back filled in (((valid-exactly q).0 valid).inside n.0 v n.1 (held_small v h) h).0

      -- and just it is taken out
      pub dequeued-holds : (v : ℕ) → holds (dequeued q) v ≡ not (eqb v q.front) && holds q v
      dequeued-holds v =
          let n = nonempty-at q.front q.back filled in
          rw (sym (dequeued-at q n.0 n.1 n.2 _ refl)) (rest-holds ((valid-exactly q).0 valid) n.0 n.1 n.2 v)
