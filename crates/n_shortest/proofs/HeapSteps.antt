-- One step of each of the heap's moves on words, at the bounds that the contracts name. Assumes nothing.
use mathlib.Core.Path.{◌≡◌, refl, sym, ap, ◌∙◌, subst}
use mathlib.Core.Bool.{Bool, true, false, cond, ◌&&◌}
use mathlib.Core.List.{List}
use Prim.Native.Nat.{ℕ, zero, suc, ◌+◌, ◌-◌, ◌*◌, ◌≤◌, ◌<◌}
use native.Mathlib.Decide.{ℕ_discrete}
use native.Mathlib.Omega.{arith}
use lib.Dec.{T, ltb, leb, eqb, ltb→lt}
use lib.ListN.{length, length-set}
use lib.Seq.{get_or-set_same, get_or-set_other}
use borrow.Author.Tests.{eq-eqb, ne_eqb, le-leb, lt-leb}
use Rattle.search_slots.specs.Slots.{heap_word}
use Rattle.n_shortest.specs.HeapWords.{store_w, swap_w, place_less, parent_of, sift_up_w, child_w, sift_down_w}
use Rattle.slots.specs.Slots.{slot_length}

-- ---- stores at places
pub place_same : (part : List ℕ) (i x : ℕ) → slot_length * i + 5 < length part → heap_word (store_w part i x) i ≡ x
place_same part i x l = get_or-set_same part (slot_length * i + 5) x 0 l

pub place_other : (part : List ℕ) (i x k : ℕ) → (k ≡ i → ⊥) → heap_word (store_w part i x) k ≡ heap_word part k
place_other part i x k n = get_or-set_other part (slot_length * i + 5) (slot_length * k + 5) x 0 (λ e. n (omega arith))

-- what every place below n holds: a store of such an entry keeps it
module _ (P : ℕ → Type 0) where
  abbrev pub Each : List ℕ → ℕ → Type 0
  Each part n = (i : ℕ) → i < n → P (heap_word part i)

  pub store-each : (part : List ℕ) (n i x : ℕ) → slot_length * n ≤ length part → i < n → P x → ((k : ℕ) → k < n → (k ≡ i → ⊥) → P (heap_word part k)) → Each (store_w part i x) n
  store-each part n i x r l p h k m = elim (ℕ_discrete k i) [
    | yes e ↦ subst (λ (k : ℕ). P (heap_word (store_w part i x) k)) (sym e) (subst P (sym (place_same part i x (omega arith))) p)
    | no ne ↦ subst P (sym (place_other part i x k ne)) (h k m ne)
  ]

  pub swap-each : (part : List ℕ) (n i j : ℕ) → slot_length * n ≤ length part → i < n → j < n → Each part n → Each (swap_w part i j) n
  swap-each part n i j r li lj h =
      store-each (store_w part i (heap_word part j)) n j (heap_word part i) (simp length-set r) lj (h i li)
      (λ k m ne. store-each part n i (heap_word part j) r li (h j lj) (λ k m ne. h k m) k m)

-- ---- up
up_root : (f : ℕ) (part : List ℕ) (i : ℕ) → i ≡ 0 → sift_up_w f part i ≡ part
unfolding sift_up_w
up_root zero part i e = refl
up_root (suc f) part i e = simp (eq-eqb i 0 e)

no_less : (i : ℕ) → i ≤ 0 → i ≡ 0
no_less i h = omega arith

parent-le : (i f : ℕ) → i ≤ suc f → parent_of i ≤ f
parent-le i f h = omega arith

-- a bound of i or more makes no difference
up-fuel : (f g : ℕ) (part : List ℕ) (i : ℕ) → i ≤ f → i ≤ g → sift_up_w f part i ≡ sift_up_w g part i
unfolding sift_up_w
up-fuel zero g part i a b = sym (up_root g part i (no_less i a))
up-fuel (suc f) zero part i a b = up_root (suc f) part i (no_less i b)
up-fuel (suc f) (suc g) part i a b =
    ap (λ (r : List ℕ). cond (eqb i 0) part (cond (place_less part i (parent_of i)) r part))
    (up-fuel f g (swap_w part i (parent_of i)) (parent_of i) (parent-le i f a) (parent-le i g b))

module _ (part : List ℕ) (i : ℕ) where
  up-moves : (f : ℕ) → (i ≡ 0 → ⊥) → place_less part i (parent_of i) ≡ true → sift_up_w (suc f) part i ≡ sift_up_w f (swap_w part i (parent_of i)) (parent_of i)
  unfolding sift_up_w
  up-moves f n t = simp (ne_eqb i 0 n, t)

  up-stays : (f : ℕ) → place_less part i (parent_of i) ≡ false → sift_up_w f part i ≡ part
  unfolding sift_up_w
  up-stays zero t = refl
  up-stays (suc f) t = go (eqb i 0)
    where
      go : (b : Bool) → cond b part (cond (place_less part i (parent_of i)) (sift_up_w f (swap_w part i (parent_of i)) (parent_of i)) part) ≡ part
      go true = refl
      go false = simp t

  pub up-zero : i ≡ 0 → sift_up_w i part i ≡ part
  up-zero e = up_root i part i e

  pub up_step : (i ≡ 0 → ⊥) → place_less part i (parent_of i) ≡ true → sift_up_w i part i ≡ sift_up_w (parent_of i) (swap_w part i (parent_of i)) (parent_of i)
  up_step n t = up-fuel i (suc i) part i (omega arith) (omega arith) ∙ up-moves i n t ∙ up-fuel i (parent_of i) (swap_w part i (parent_of i)) (parent_of i) (omega arith) (omega arith)

  pub up-stop : place_less part i (parent_of i) ≡ false → sift_up_w i part i ≡ part
  up-stop t = up-stays i t

-- ---- down
pub child-above : (part : List ℕ) (n i : ℕ) → i < child_w part n i
unfolding child_w
child-above part n i = go (ltb (2 * i + 2) n && place_less part (2 * i + 2) (2 * i + 1))
  where
    go : (b : Bool) → i < cond b (2 * i + 2) (2 * i + 1)
    go true = omega arith
    go false = omega arith

pub child-in : (part : List ℕ) (n i : ℕ) → 2 * i + 1 < n → child_w part n i < n
unfolding child_w
child-in part n i r = go (ltb (2 * i + 2) n) (place_less part (2 * i + 2) (2 * i + 1)) (ltb→lt (2 * i + 2) n)
  where
    go : (a b : Bool) → (T a → 2 * i + 2 < n) → cond (a && b) (2 * i + 2) (2 * i + 1) < n
    go true true k = k tt
    go true false k = r
    go false b k = r

down-leaf : (f n : ℕ) (part : List ℕ) (i : ℕ) → n ≤ 2 * i + 1 → sift_down_w f n part i ≡ part
unfolding sift_down_w
down-leaf zero n part i l = refl
down-leaf (suc f) n part i l = simp (le-leb n (2 * i + 1) l)

nothing_left : (n i : ℕ) → n - i ≤ 0 → n ≤ 2 * i + 1
nothing_left n i h = omega arith

child-left : (n i c f : ℕ) → i < c → n - i ≤ suc f → n - c ≤ f
child-left n i c f h k = omega arith

down-fuel : (f g n : ℕ) (part : List ℕ) (i : ℕ) → n - i ≤ f → n - i ≤ g → sift_down_w f n part i ≡ sift_down_w g n part i
unfolding sift_down_w
down-fuel zero g n part i a b = sym (down-leaf g n part i (nothing_left n i a))
down-fuel (suc f) zero n part i a b = down-leaf (suc f) n part i (nothing_left n i b)
down-fuel (suc f) (suc g) n part i a b =
    let c = child_w part n i in
    ap (λ (r : List ℕ). cond (leb n (2 * i + 1)) part (cond (place_less part i c) part r))
    (down-fuel f g n (swap_w part i c) c (child-left n i c f (child-above part n i) a) (child-left n i c g (child-above part n i) b))

module _ (n : ℕ) (part : List ℕ) (i : ℕ) where
  down-moves : (f : ℕ) → 2 * i + 1 < n → place_less part i (child_w part n i) ≡ false → sift_down_w (suc f) n part i ≡ sift_down_w f n (swap_w part i (child_w part n i)) (child_w part n i)
  unfolding sift_down_w
  down-moves f l t = simp (lt-leb n (2 * i + 1) l, t)

  down-stays : (f : ℕ) → place_less part i (child_w part n i) ≡ true → sift_down_w f n part i ≡ part
  unfolding sift_down_w
  down-stays zero t = refl
  down-stays (suc f) t = go (leb n (2 * i + 1))
    where
      go : (b : Bool) → cond b part (cond (place_less part i (child_w part n i)) part (sift_down_w f n (swap_w part i (child_w part n i)) (child_w part n i))) ≡ part
      go true = refl
      go false = simp t

  pub down-end : n ≤ 2 * i + 1 → sift_down_w (n - i) n part i ≡ part
  down-end l = down-leaf (n - i) n part i l

  -- of the child by the name that the code has for it
  module _ (c : ℕ) (e : c ≡ child_w part n i) where
    by_name : (t : Bool) → place_less part i c ≡ t → place_less part i (child_w part n i) ≡ t
    by_name t h = ap (place_less part i) (sym e) ∙ h

    pub down_step : 2 * i + 1 < n → place_less part i c ≡ false → sift_down_w (n - i) n part i ≡ sift_down_w (n - c) n (swap_w part i c) c
    down_step l t =
        let d = child_w part n i in
        down-fuel (n - i) (suc (n - i)) n part i (omega arith) (omega arith)
        ∙ down-moves (n - i) l (by_name false t)
        ∙ down-fuel (n - i) (n - d) n (swap_w part i d) d (omega (arith, child-above part n i)) (omega arith)
        ∙ ap (λ (c : ℕ). sift_down_w (n - c) n (swap_w part i c) c) (sym e)

    pub down-stop : place_less part i c ≡ true → sift_down_w (n - i) n part i ≡ part
    down-stop t = down-stays (n - i) (by_name true t)
