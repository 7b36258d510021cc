-- Putting in and removing keep what else is in the heap. Assumes nothing.
use mathlib.Core.Path.{◌≡◌, refl, sym, ap, ◌∙◌, subst}
use mathlib.Core.Bool.{Bool, true, false, cond, ◌&&◌}
use mathlib.Core.List.{List, [], ◌∷◌, ◌++◌}
use Prim.Native.Nat.{ℕ, zero, suc, ◌+◌, ◌-◌, ◌*◌, ◌≤◌, ◌<◌}
use native.Mathlib.Omega.{arith}
use lib.Dec.{T, eqb, ltb, leb, ltb→lt}
use lib.ListN.{length, get_or, set, take, length-set, length-take, length-append}
use borrow.Author.Tests.{leb-false}
use Rattle.machine.proofs.Lists.{Perm, same, skip}
use Rattle.search.specs.Heap.{swapped, parent, second_first, child, stays, sift_up, sift_down, pushed, popped}
use Rattle.search.proofs.Counts.{occurs, occurs-last, counted, occurs-swap, occurs-rotated}

module _ (before : ℕ → ℕ → Bool) where
  pub length-swapped : (h : List ℕ) (i j : ℕ) → length (swapped before h i j) ≡ length h
  length-swapped h i j = simp length-set

  -- ---- up
  occurs-up : (x steps : ℕ) (h : List ℕ) (i : ℕ) → i < length h → occurs x (sift_up before steps h i) ≡ occurs x h
  unfolding sift_up
  occurs-up x zero h i a = refl
  occurs-up x (suc steps) h i a =
      let p = parent before i in
      go (eqb i 0) (before (get_or h i 0) (get_or h p 0))
      (occurs-up x steps (swapped before h i p) p (subst (λ (n : ℕ). p < n) (sym (length-swapped h i p)) (omega arith)) ∙ occurs-swap x h i p a (omega arith))
    where
      go : (b c : Bool) → occurs x (sift_up before steps (swapped before h i (parent before i)) (parent before i)) ≡ occurs x h
          → occurs x (cond b h (cond c (sift_up before steps (swapped before h i (parent before i)) (parent before i)) h)) ≡ occurs x h
      go true c e = refl
      go false true e = e
      go false false e = refl

  pub pushed-keeps : (x : ℕ) (h : List ℕ) → Perm (pushed before x h) (x ∷ h)
  unfolding pushed
  pushed-keeps x h = counted (pushed before x h) (x ∷ h) (λ y. occurs-up y (length h) (h ++ (x ∷ [])) (length h) (simp length-append (omega arith)) ∙ occurs-last y x h)

  -- ---- down
  pub child-above : (h : List ℕ) (n i : ℕ) → i < child before h n i
  child-above h n i = go (ltb (2 * i + 2) n && second_first before h i)
    where
      go : (b : Bool) → i < cond b (2 * i + 2) (2 * i + 1)
      go true = omega arith
      go false = omega arith

  pub child-in : (h : List ℕ) (n i : ℕ) → 2 * i + 1 < n → child before h n i < n
  child-in h n i r = go (ltb (2 * i + 2) n) (second_first before h i) (ltb→lt (2 * i + 2) n)
    where
      go : (a b : Bool) → (T a → 2 * i + 2 < n) → cond (a && b) (2 * i + 2) (2 * i + 1) < n
      go true true k = k tt
      go true false k = r
      go false b k = r

  occurs-down : (x steps n : ℕ) (h : List ℕ) (i : ℕ) → n ≤ length h → i < n → occurs x (sift_down before steps n h i) ≡ occurs x h
  unfolding sift_down
  occurs-down x zero n h i r a = refl
  occurs-down x (suc steps) n h i r a =
      let c = child before h n i in
      go (leb n (2 * i + 1)) (stays before h i c) refl
      (λ c-in. occurs-down x steps n (swapped before h i c) c (subst (λ (k : ℕ). n ≤ k) (sym (length-swapped h i c)) r) c-in ∙ occurs-swap x h i c (omega arith) (omega arith))
    where
      go : (b d : Bool) → leb n (2 * i + 1) ≡ b → (child before h n i < n → occurs x (sift_down before steps n (swapped before h i (child before h n i)) (child before h n i)) ≡ occurs x h)
          → occurs x (cond b h (cond d h (sift_down before steps n (swapped before h i (child before h n i)) (child before h n i)))) ≡ occurs x h
      go true d e f = refl
      go false true e f = refl
      go false false e f = f (child-in h n i (leb-false n (2 * i + 1) e))

  -- ---- the heap without its head, by cases
  pub popped-one : (a : ℕ) → popped before (a ∷ []) ≡ []
  unfolding popped
  popped-one a = refl

  pub popped-more : (a : ℕ) (l : List ℕ) (k : ℕ) → length l ≡ suc k → popped before (a ∷ l) ≡ sift_down before (suc k) (suc k) (get_or l k 0 ∷ take k l) 0
  unfolding popped
  popped-more a l k e = ap (λ n. sift_down before n n (take n (set (a ∷ l) 0 (get_or (a ∷ l) n 0))) 0) (let z : suc (length l) - 1 ≡ suc k = omega arith in z)

  pub popped-keeps : (a : ℕ) (l : List ℕ) → Perm (a ∷ l) (a ∷ popped before (a ∷ l))
  popped-keeps a [] = subst (λ p. Perm (a ∷ []) (a ∷ p)) (sym (popped-one a)) (skip a same)
  popped-keeps a (b ∷ l) =
      let k = length l in
      skip a (counted (b ∷ l) (popped before (a ∷ b ∷ l)) (λ x.
      sym (ap (occurs x) (popped-more a (b ∷ l) k refl)
      ∙ occurs-down x (suc k) (suc k) (get_or (b ∷ l) k 0 ∷ take k (b ∷ l)) 0 (simp length-take (omega arith)) (omega arith)
      ∙ occurs-rotated x (b ∷ l) k refl)))
