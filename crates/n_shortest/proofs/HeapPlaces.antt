-- The moves of the heap on words are those of crate `search`, and keep the other words. Assumes nothing.
use mathlib.Core.Path.{◌≡◌, refl, sym, ap, ◌∙◌}
use mathlib.Core.Bool.{Bool, true, false, not, cond, ◌&&◌, ◌||◌}
use mathlib.Core.List.{List, [], ◌∷◌, ◌++◌}
use Prim.Native.Nat.{ℕ, zero, suc, ◌+◌, ◌-◌, ◌*◌, ◌%◌, ◌≤◌, ◌<◌}
use native.Mathlib.Decide.{ℕ_discrete}
use native.Mathlib.Omega.{arith}
use lib.Dec.{ltb, leb, eqb}
use lib.Ieee.{binary32, lt, of_bits}
use lib.ListN.{length, get_or, set, take, length-set}
use lib.Seq.{get_or-set_same, get_or-set_other, take_at, ext_get_or}
use borrow.Author.Tests.{leb-false, ltb-true}
use Rattle.tropical_weight.specs.Limits.{finest, sum_limit}
use Rattle.tropical_weight.specs.Tropical.{Tropical, le_t, lt_t, eq_t, Within}
use Rattle.tropical_weight.proofs.Semiring.{lt_t-not}
use Rattle.tropical_weight.proofs.Exact.{lt-of_t, bits_back}
use Rattle.sheet.specs.Below.{list_below}
use Rattle.sheet.specs.Machine.{bits_of}
use Rattle.sheet.proofs.Below.{length-list_below, get_or-list_below}
use Rattle.search.specs.Heap.{swapped, sift_up, child, sift_down, pushed, popped}
use Rattle.search.specs.Reversed.{Reversed}
use Rattle.search.specs.Search.{Entry, half, finished, is_half, rank, precedes}
use Rattle.slots.specs.Slots.{slot_length, nothing}
use Rattle.search_slots.specs.Slots.{node_word, rank_word, heap_word, heap_of, node_field}
use Rattle.n_shortest.specs.EntryWords.{entry_w}
use Rattle.n_shortest.specs.HeapWords.{half_first, less_w, store_w, swap_w, place_less, parent_of, sift_up_w, child_w, sift_down_w, push_w, pop_w}
use Rattle.n_shortest.proofs.HeapSteps.{place_same, place_other, Each, store-each, swap-each, child-in}
use Rattle.n_shortest.proofs.EntryWords.{entry-same, entry-half, entry-finished}

-- ---- what swaps of places below n keep, the moves keep
module _ (P : List ℕ → Type 0) (n : ℕ) (swap-keeps : (part : List ℕ) (i j : ℕ) → i < n → j < n → P part → P (swap_w part i j)) where
  up-keeps : (f : ℕ) (part : List ℕ) (i : ℕ) → i < n → P part → P (sift_up_w f part i)
  unfolding sift_up_w
  up-keeps zero part i l h = h
  up-keeps (suc f) part i l h =
      let p = parent_of i in
      go (eqb i 0) (place_less part i p) (up-keeps f (swap_w part i p) p (omega arith) (swap-keeps part i p l (omega arith) h))
    where
      go : (b c : Bool) → P (sift_up_w f (swap_w part i (parent_of i)) (parent_of i)) → P (cond b part (cond c (sift_up_w f (swap_w part i (parent_of i)) (parent_of i)) part))
      go true c e = h
      go false true e = e
      go false false e = h

  down-keeps : (f : ℕ) (part : List ℕ) (i : ℕ) → P part → P (sift_down_w f n part i)
  unfolding sift_down_w
  down-keeps zero part i h = h
  down-keeps (suc f) part i h =
      let c = child_w part n i in
      go (leb n (2 * i + 1)) (place_less part i c) refl (λ l k. down-keeps f (swap_w part i c) c (swap-keeps part i c l k h))
    where
      go : (b d : Bool) → leb n (2 * i + 1) ≡ b → (i < n → child_w part n i < n → P (sift_down_w f n (swap_w part i (child_w part n i)) (child_w part n i)))
          → P (cond b part (cond d part (sift_down_w f n (swap_w part i (child_w part n i)) (child_w part n i))))
      go true d e k = h
      go false true e k = h
      go false false e k = k (omega (arith, leb-false n (2 * i + 1) e)) (child-in part n i (leb-false n (2 * i + 1) e))

-- what stores at places below len keep, putting in and removing keep
module _ (P : List ℕ → Type 0) (len : ℕ) (store_keeps : (part : List ℕ) (i x : ℕ) → i < len → P part → P (store_w part i x)) where
  both-keep : (part : List ℕ) (i j : ℕ) → i < len → j < len → P part → P (swap_w part i j)
  both-keep part i j li lj h = store_keeps (store_w part i (heap_word part j)) j (heap_word part i) lj (store_keeps part i (heap_word part j) li h)

  pub pop-keeps : (part : List ℕ) → 0 < len → P part → P (pop_w part len)
  unfolding pop_w
  pop-keeps part l h = down-keeps P (len - 1) (λ q i j li lj. both-keep q i j (omega arith) (omega arith)) (len - 1) (store_w part 0 (heap_word part (len - 1))) 0 (store_keeps part 0 (heap_word part (len - 1)) l h)

pub push-keeps : (P : List ℕ → Type 0) (len : ℕ) → ((part : List ℕ) (i x : ℕ) → i < suc len → P part → P (store_w part i x)) → (part : List ℕ) (x : ℕ) → P part → P (push_w part len x)
unfolding push_w
push-keeps P len keeps part x h = up-keeps P (suc len) (both-keep P (suc len) keeps) len (store_w part len x) len (omega arith) (keeps part len x (omega arith) h)

-- ---- the length, and the words that are no place of the heap
module _ (part : List ℕ) where
  length-keeps : (q : List ℕ) (i x : ℕ) → length q ≡ length part → length (store_w q i x) ≡ length part
  length-keeps q i x h = length-set q (slot_length * i + 5) x ∙ h

  word_keeps : (j d : ℕ) (q : List ℕ) (i x : ℕ) → (j ≡ slot_length * i + 5 → ⊥) → get_or q j d ≡ get_or part j d → get_or (store_w q i x) j d ≡ get_or part j d
  word_keeps j d q i x n h = get_or-set_other q (slot_length * i + 5) j x d n ∙ h

module _ (part : List ℕ) (len x : ℕ) where
  pub push-length : length (push_w part len x) ≡ length part
  push-length = push-keeps (λ q. length q ≡ length part) len (λ q i y l. length-keeps part q i y) part x refl

  pub push-other : (j d : ℕ) → (j % 8 ≡ 5 → ⊥) → get_or (push_w part len x) j d ≡ get_or part j d
  push-other j d n = push-keeps (λ q. get_or q j d ≡ get_or part j d) len (λ q i y l. word_keeps part j d q i y (λ e. n (omega arith))) part x refl

  pub push-beyond : (j d : ℕ) → slot_length * suc len ≤ j → get_or (push_w part len x) j d ≡ get_or part j d
  push-beyond j d b = push-keeps (λ q. get_or q j d ≡ get_or part j d) len (λ q i y l. word_keeps part j d q i y (λ e. omega arith)) part x refl

module _ (part : List ℕ) (len : ℕ) (some : 0 < len) where
  pub pop-length : length (pop_w part len) ≡ length part
  pop-length = pop-keeps (λ q. length q ≡ length part) len (λ q i y l. length-keeps part q i y) part some refl

  pub pop-other : (j d : ℕ) → (j % 8 ≡ 5 → ⊥) → get_or (pop_w part len) j d ≡ get_or part j d
  pop-other j d n = pop-keeps (λ q. get_or q j d ≡ get_or part j d) len (λ q i y l. word_keeps part j d q i y (λ e. n (omega arith))) part some refl

  pub pop-beyond : (j d : ℕ) → slot_length * len ≤ j → get_or (pop_w part len) j d ≡ get_or part j d
  pop-beyond j d b = pop-keeps (λ q. get_or q j d ≡ get_or part j d) len (λ q i y l. word_keeps part j d q i y (λ e. omega arith)) part some refl

-- ---- the order depends on ranks and entries alone
less-same : (p q : List ℕ) → ((a : ℕ) → rank_word p a ≡ rank_word q a) → ((a : ℕ) → entry_w p a ≡ entry_w q a) → less_w p ≡ less_w q
unfolding less_w
less-same p q r e =
    λ k a b. lt (of_bits binary32 (r a k)) (of_bits binary32 (r b k)) || (not (lt (of_bits binary32 (r b k)) (of_bits binary32 (r a k))) && half_first (e a k) (e b k))

-- ---- what every entry in the heap has is kept
module _ (Q : ℕ → Type 0) where
  abbrev Roomy : ℕ → List ℕ → Type 0
  Roomy n q = (slot_length * n ≤ length q) × Each Q q n

  roomy-swap : (n : ℕ) (q : List ℕ) (i j : ℕ) → i < n → j < n → Roomy n q → Roomy n (swap_w q i j)
  roomy-swap n q i j li lj h = (simp length-set h.0, swap-each Q q n i j h.0 li lj h.1)

  stored_last : (part : List ℕ) (len x : ℕ) → slot_length * suc len ≤ length part → Each Q part len → Q x → Each Q (store_w part len x) (suc len)
  stored_last part len x r h b = store-each Q part (suc len) len x r (omega arith) b (λ k m ne. h k (omega arith))

  stored-first : (part : List ℕ) (len : ℕ) → slot_length * len ≤ length part → 0 < len → Each Q part len → Each Q (store_w part 0 (heap_word part (len - 1))) len
  stored-first part len r l h = store-each Q part len 0 (heap_word part (len - 1)) r l (h (len - 1) (omega arith)) (λ k m ne. h k m)

  pub push-each : (part : List ℕ) (len x : ℕ) → slot_length * suc len ≤ length part → Each Q part len → Q x → Each Q (push_w part len x) (suc len)
  unfolding push_w
  push-each part len x r h b = (up-keeps (Roomy (suc len)) (suc len) (roomy-swap (suc len)) len (store_w part len x) len (omega arith) (simp length-set r, stored_last part len x r h b)).1

  pub pop-each : (part : List ℕ) (len : ℕ) → slot_length * len ≤ length part → 0 < len → Each Q part len → Each Q (pop_w part len) (len - 1)
  unfolding pop_w
  pop-each part len r l h = (down-keeps (Roomy (len - 1)) (len - 1) (roomy-swap (len - 1)) (len - 1) (store_w part 0 (heap_word part (len - 1))) 0 (simp length-set (omega arith), λ k m. stored-first part len r l h k (omega arith))).1

-- ---- a heap of words as a list
pub heap-at : (part : List ℕ) (n i : ℕ) → i < n → get_or (heap_of part n) i 0 ≡ heap_word part i
heap-at part n i l = get_or-list_below n (heap_word part) i 0 l

pub heap-length : (part : List ℕ) (n : ℕ) → length (heap_of part n) ≡ n
heap-length part n = length-list_below n (heap_word part)

pub heap-same : (p q : List ℕ) (n : ℕ) → ((i : ℕ) → i < n → heap_word p i ≡ heap_word q i) → heap_of p n ≡ heap_of q n
heap-same p q n h = ext_get_or 0 (heap_of p n) (heap_of q n) (heap-length p n ∙ sym (heap-length q n)) (λ i l. let m : i < n = omega (arith, heap-length p n) in heap-at p n i m ∙ h i m ∙ sym (heap-at q n i m))

heap-store : (part : List ℕ) (n i x : ℕ) → slot_length * n ≤ length part → i < n → heap_of (store_w part i x) n ≡ set (heap_of part n) i x
heap-store part n i x r l =
    let q = store_w part i x in
    ext_get_or 0 (heap_of q n) (set (heap_of part n) i x) (heap-length q n ∙ sym (length-set (heap_of part n) i x ∙ heap-length part n)) (λ k m. let b : k < n = omega (arith, heap-length q n) in heap-at q n k b ∙ at k b (ℕ_discrete k i))
  where
    at : (k : ℕ) → k < n → Dec (k ≡ i) → heap_word (store_w part i x) k ≡ get_or (set (heap_of part n) i x) k 0
    at k b (yes e) = ap (heap_word (store_w part i x)) e ∙ place_same part i x (omega arith) ∙ sym (get_or-set_same (heap_of part n) i x 0 (omega (arith, heap-length part n))) ∙ ap (λ (k : ℕ). get_or (set (heap_of part n) i x) k 0) (sym e)
    at k b (no ne) = place_other part i x k ne ∙ sym (heap-at part n k b) ∙ sym (get_or-set_other (heap_of part n) i k x 0 ne)

heap-last : (part : List ℕ) (len x : ℕ) → slot_length * suc len ≤ length part → heap_of (store_w part len x) (suc len) ≡ heap_of part len ++ (x ∷ [])
unfolding list_below
heap-last part len x r = λ k. heap-same (store_w part len x) part len (λ i l. place_other part len x i (λ e. omega arith)) k ++ (place_same part len x (omega arith) k ∷ [])

heap-front : (part : List ℕ) (n : ℕ) → take n (heap_of part (suc n)) ≡ heap_of part n
unfolding list_below
heap-front part n = take_at (heap_of part n) (heap_word part n ∷ []) n (heap-length part n)

heap-cond : (n : ℕ) (x y : List ℕ) (b c : Bool) → heap_of (cond b x (cond c y x)) n ≡ cond b (heap_of x n) (cond c (heap_of y n) (heap_of x n))
heap-cond n x y true c = refl
heap-cond n x y false true = refl
heap-cond n x y false false = refl

-- ---- the moves, over any test that says what `less_w` says of the entries in the heap
module _ (before : ℕ → ℕ → Bool) (Q : ℕ → Type 0) where
  abbrev pub Agrees : List ℕ → Type 0
  Agrees part = (a b : ℕ) → Q a → Q b → less_w part a b ≡ before a b

  record Alike (n : ℕ) (part : List ℕ) : Type 0 where
    room : slot_length * n ≤ length part
    each : Each Q part n
    agrees : Agrees part

  agrees-store : (part : List ℕ) (i x : ℕ) → Agrees part → Agrees (store_w part i x)
  agrees-store part i x h a b p q = (λ k. kept k a b) ∙ h a b p q
    where
      kept : less_w (store_w part i x) ≡ less_w part
      kept = less-same (store_w part i x) part (λ a. get_or-set_other part (slot_length * i + 5) (slot_length * a + 4) x 0 (λ e. omega arith)) (λ a. entry-same (store_w part i x) part a (get_or-set_other part (slot_length * i + 5) (slot_length * a) x 0 (λ e. omega arith)) (get_or-set_other part (slot_length * i + 5) (slot_length * a + 1) x 0 (λ e. omega arith)))

  module _ (n : ℕ) where
    alike-swap : (part : List ℕ) (i j : ℕ) → i < n → j < n → Alike n part → Alike n (swap_w part i j)
    alike-swap part i j li lj s = record {
      room = simp length-set s.room;
      each = swap-each Q part n i j s.room li lj s.each;
      agrees = agrees-store (store_w part i (heap_word part j)) j (heap_word part i) (agrees-store part i (heap_word part j) s.agrees);
    }

    module _ (part : List ℕ) (s : Alike n part) where
      swap_is : (i j : ℕ) → i < n → j < n → heap_of (swap_w part i j) n ≡ swapped before (heap_of part n) i j
      swap_is i j li lj =
          heap-store (store_w part i (heap_word part j)) n j (heap_word part i) (simp length-set s.room) lj
          ∙ ap (λ (h : List ℕ). set h j (heap_word part i)) (heap-store part n i (heap_word part j) s.room li)
          ∙ sym (λ k. set (set (heap_of part n) i (heap-at part n j lj k)) j (heap-at part n i li k))

      order_is : (i j : ℕ) → i < n → j < n → place_less part i j ≡ before (get_or (heap_of part n) i 0) (get_or (heap_of part n) j 0)
      order_is i j li lj = s.agrees (heap_word part i) (heap_word part j) (s.each i li) (s.each j lj) ∙ sym (λ k. before (heap-at part n i li k) (heap-at part n j lj k))

      child-is : (i : ℕ) → 2 * i + 1 < n → child_w part n i ≡ child before (heap_of part n) n i
      unfolding child_w
      child-is i l = go (ltb (2 * i + 2) n) refl
        where
          go : (b : Bool) → ltb (2 * i + 2) n ≡ b → cond (b && place_less part (2 * i + 2) (2 * i + 1)) (2 * i + 2) (2 * i + 1) ≡ cond (b && before (get_or (heap_of part n) (2 * i + 2) 0) (get_or (heap_of part n) (2 * i + 1) 0)) (2 * i + 2) (2 * i + 1)
          go true e = ap (λ (b : Bool). cond b (2 * i + 2) (2 * i + 1)) (order_is (2 * i + 2) (2 * i + 1) (ltb-true (2 * i + 2) n e) l)
          go false e = refl

    up_is : (f : ℕ) (part : List ℕ) (i : ℕ) → i < n → Alike n part → heap_of (sift_up_w f part i) n ≡ sift_up before f (heap_of part n) i
    unfolding sift_up_w sift_up
    up_is zero part i l s = refl
    up_is (suc f) part i l s =
        let p = parent_of i in
        let h = heap_of part n in
        let lp : p < n = omega arith in
        let up = up_is f (swap_w part i p) p lp (alike-swap part i p l lp s) ∙ ap (λ (g : List ℕ). sift_up before f g p) (swap_is part s i p l lp) in
        heap-cond n part (sift_up_w f (swap_w part i p) p) (eqb i 0) (place_less part i p) ∙ λ k. cond (eqb i 0) h (cond (order_is part s i p l lp k) (up k) h)

    -- one step down, by what the rest of the way is
    down_turn : (f : ℕ) (part : List ℕ) (i c : ℕ) (rest : List ℕ) → Alike n part → 2 * i + 1 < n → c ≡ child_w part n i → c < n → heap_of rest n ≡ sift_down before f n (swapped before (heap_of part n) i c) c
        → heap_of (cond (place_less part i c) part rest) n ≡ (let h = heap_of part n in let d = child before h n i in cond (before (get_or h i 0) (get_or h d 0)) h (sift_down before f n (swapped before h i d) d))
    down_turn f part i c rest s l e lc down =
        let h = heap_of part n in
        split (place_less part i c)
        ∙ (λ k. cond (order_is part s i c (omega arith) lc k) h (down k))
        ∙ ap (λ (d : ℕ). cond (before (get_or h i 0) (get_or h d 0)) h (sift_down before f n (swapped before h i d) d)) (e ∙ child-is part s i l)
      where
        split : (b : Bool) → heap_of (cond b part rest) n ≡ cond b (heap_of part n) (heap_of rest n)
        split true = refl
        split false = refl

    down_is : (f : ℕ) (part : List ℕ) (i : ℕ) → Alike n part → heap_of (sift_down_w f n part i) n ≡ sift_down before f n (heap_of part n) i
    unfolding sift_down_w sift_down
    down_is zero part i s = refl
    down_is (suc f) part i s =
        go (leb n (2 * i + 1)) refl (λ l. let c = child_w part n i in let lc = child-in part n i l in down_is f (swap_w part i c) c (alike-swap part i c (omega arith) lc s) ∙ ap (λ (g : List ℕ). sift_down before f n g c) (swap_is part s i c (omega arith) lc))
      where
        go : (b : Bool) → leb n (2 * i + 1) ≡ b → (2 * i + 1 < n → let c = child_w part n i in heap_of (sift_down_w f n (swap_w part i c) c) n ≡ sift_down before f n (swapped before (heap_of part n) i c) c)
            → heap_of (cond b part (let c = child_w part n i in cond (place_less part i c) part (sift_down_w f n (swap_w part i c) c))) n
            ≡ (let h = heap_of part n in let d = child before h n i in cond b h (cond (before (get_or h i 0) (get_or h d 0)) h (sift_down before f n (swapped before h i d) d)))
        go true e down = refl
        go false e down =
            let c = child_w part n i in
            let l = leb-false n (2 * i + 1) e in
            down_turn f part i c (sift_down_w f n (swap_w part i c) c) s l refl (child-in part n i l) (down l)

  pub push-is : (part : List ℕ) (len x : ℕ) → slot_length * suc len ≤ length part → Each Q part len → Q x → Agrees part → heap_of (push_w part len x) (suc len) ≡ pushed before x (heap_of part len)
  unfolding push_w pushed
  push-is part len x r h b agrees =
      up_is (suc len) len (store_w part len x) len (omega arith) (record { room = simp length-set r; each = stored_last Q part len x r h b; agrees = agrees-store part len x agrees })
      ∙ ap (λ (h : List ℕ). sift_up before len h len) (heap-last part len x r)
      ∙ ap (λ (k : ℕ). sift_up before k (heap_of part len ++ (x ∷ [])) k) (sym (heap-length part len))

  pub pop-is : (part : List ℕ) (len : ℕ) → slot_length * len ≤ length part → 0 < len → Each Q part len → Agrees part → heap_of (pop_w part len) (len - 1) ≡ popped before (heap_of part len)
  unfolding pop_w popped
  pop-is part zero r l h agrees = absurd (omega arith)
  pop-is part (suc n) r l h agrees =
      let q = store_w part 0 (heap_word part n) in
      let one : suc n - 1 ≡ n = omega arith in
      let all = heap-length part (suc n) in
      ap (λ (m : ℕ). heap_of (sift_down_w m m (store_w part 0 (heap_word part m)) 0) m) one
      ∙ down_is n n q 0 (record { room = simp length-set (omega arith); each = λ k m. store-each Q part (suc n) 0 (heap_word part n) r l (h n (omega arith)) (λ k m ne. h k m) k (omega arith); agrees = agrees-store part 0 (heap_word part n) agrees })
      ∙ ap (λ (g : List ℕ). sift_down before n n g 0) (sym (heap-front q n) ∙ ap (take n) (heap-store part (suc n) 0 (heap_word part n) r l ∙ ap (set (heap_of part (suc n)) 0) (sym (heap-at part (suc n) n (omega arith)))))
      ∙ ap (λ (m : ℕ). sift_down before m m (take m (set (heap_of part (suc n)) 0 (get_or (heap_of part (suc n)) m 0))) 0) (sym (ap (λ (k : ℕ). k - 1) all ∙ one))

-- ---- the order on the grid
by_tests : (x y : Tropical) (t : Bool) → lt_t x y || (not (lt_t y x) && t) ≡ lt_t x y || (eq_t x y && t)
by_tests x y t = (λ k. lt_t-not x y k || (not (lt_t-not y x k) && t)) ∙ go (le_t x y) (le_t y x) ∙ sym (λ k. lt_t-not x y k || (eq_t x y && t))
  where
    go : (a b : Bool) → not b || (not (not a) && t) ≡ not b || (a && b && t)
    go true true = refl
    go true false = refl
    go false true = refl
    go false false = refl

module _ (unit : ℕ) (covered : unit ≤ finest) (part : List ℕ) (a b : ℕ) (x y : Tropical) (hx : Within sum_limit x) (hy : Within sum_limit y) (ex : rank_word part a ≡ bits_of unit x) (ey : rank_word part b ≡ bits_of unit y) where
  rank_less : (v w : Tropical) → Within sum_limit v → Within sum_limit w → (i j : ℕ) → i ≡ bits_of unit v → j ≡ bits_of unit w → lt (of_bits binary32 i) (of_bits binary32 j) ≡ lt_t v w
  rank_less v w hv hw i j ei ej = (λ k. lt (of_bits binary32 (ei k)) (of_bits binary32 (ej k))) ∙ (λ k. lt (bits_back unit covered v k) (bits_back unit covered w k)) ∙ lt-of_t unit covered v w hv hw

  pub less-grid : less_w part a b ≡ lt_t x y || (eq_t x y && half_first (entry_w part a) (entry_w part b))
  unfolding less_w
  less-grid =
      (λ k. rank_less x y hx hy (rank_word part a) (rank_word part b) ex ey k || (not (rank_less y x hy hx (rank_word part b) (rank_word part a) ey ex k) && half_first (entry_w part a) (entry_w part b)))
      ∙ by_tests x y (half_first (entry_w part a) (entry_w part b))

-- ---- the order of entries
-- a node's number is not that of none
abbrev pub Named : Entry → Type 0
Named (half v c) = v < nothing
Named (finished c) = Unit {0}

-- half-built in code and half-built in the search
half_is : (part : List ℕ) (a b : ℕ) (d e : Entry) → Named d → Named e → node_word part a ≡ node_field d → node_word part b ≡ node_field e → half_first (entry_w part a) (entry_w part b) ≡ is_half d && not (is_half e)
half_is part a b (half v c) (half w d) h k m n = λ i. half_first (entry-half part a (λ z. omega (arith, z, m)) i) (entry-half part b (λ z. omega (arith, z, n)) i)
half_is part a b (half v c) (finished d) h k m n = λ i. half_first (entry-half part a (λ z. omega (arith, z, m)) i) (entry-finished part b n i)
half_is part a b (finished c) e h k m n = ap (λ x. half_first x (entry_w part b)) (entry-finished part a m)

-- entry e is at slot a, with its rank in units of 1 / 2 ^ unit
pub record Ranked (unit : ℕ) (r : Reversed) (part : List ℕ) (a : ℕ) (e : Entry) : Type 0 where
  pub named : Named e
  pub node : node_word part a ≡ node_field e
  pub within : Within sum_limit (rank r e)
  pub bits : rank_word part a ≡ bits_of unit (rank r e)

pub less-precedes : (unit : ℕ) → unit ≤ finest → (r : Reversed) (part : List ℕ) (a b : ℕ) (d e : Entry) → Ranked unit r part a d → Ranked unit r part b e → less_w part a b ≡ precedes r d e
less-precedes unit covered r part a b d e s t =
    less-grid unit covered part a b (rank r d) (rank r e) s.within t.within s.bits t.bits
    ∙ ap (λ (h : Bool). lt_t (rank r d) (rank r e) || (eq_t (rank r d) (rank r e) && h)) (half_is part a b d e s.named t.named s.node t.node)
