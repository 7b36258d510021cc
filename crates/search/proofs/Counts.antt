-- How often a number occurs in a list: lists with the same counts are permutations of each other. Assumes nothing.
use mathlib.Core.Path.{◌≡◌, refl, sym, ap, ◌∙◌, subst}
use mathlib.Core.Bool.{Bool, true, false, cond}
use mathlib.Core.List.Memᴰ
use mathlib.Core.List.{List, [], ◌∷◌, ◌++◌}
use Prim.Native.Nat.{ℕ, zero, suc, ◌+◌, ◌<◌}
use native.Mathlib.Decide.{ℕ_discrete}
use native.Mathlib.Omega.{arith}
use lib.Dec.{eqb}
use lib.ListN.{length, get_or, set, take, length-set}
use lib.Seq.{get_or-set_same, get_or-set_other, take-suc, take-length}
use borrow.Author.Tests.{eqb-true, eqb-false, eq-eqb, ne_eqb}
use Rattle.machine.specs.Demand.{◌∈◌}
use Rattle.machine.proofs.Lists.{Perm, same, skip, thru, perm-sym, pull}

-- 1 where the numbers are equal
one-if : ℕ → ℕ → ℕ
one-if x y = cond (eqb x y) 1 0

unfoldable pub occurs : ℕ → List ℕ → ℕ
unfolding one-if
occurs x [] = 0
occurs x (y ∷ l) = one-if x y + occurs x l

one-self : (x : ℕ) → one-if x x ≡ 1
unfolding one-if
one-self x = simp (eq-eqb x x refl)

pub occurs-append : (x : ℕ) (l k : List ℕ) → occurs x (l ++ k) ≡ occurs x l + occurs x k
unfolding occurs
occurs-append x [] k = omega arith
occurs-append x (y ∷ l) k = omega (arith, occurs-append x l k)

-- one more in front, wherever it stood before
pub occurs-last : (x y : ℕ) (l : List ℕ) → occurs x (l ++ (y ∷ [])) ≡ occurs x (y ∷ l)
unfolding occurs
occurs-last x y l = omega (arith, occurs-append x l (y ∷ []))

pub occurs-here : (x : ℕ) (l : List ℕ) → occurs x (x ∷ l) ≡ suc (occurs x l)
unfolding occurs
occurs-here x l = omega (arith, one-self x)

pub occurs-other : (x y : ℕ) (l : List ℕ) → (x ≡ y → ⊥) → occurs x (y ∷ l) ≡ occurs x l
unfolding occurs one-if
occurs-other x y l n = ap (λ b. cond b 1 0 + occurs x l) (ne_eqb x y n) ∙ omega arith

-- a list with one member more where y is x, by a list that counts x
pub occurs-one : {A : Type 0} (x y : ℕ) (l : List ℕ) (a : A) (k : List A) → length k ≡ occurs x l → length (cond (eqb y x) (a ∷ k) k) ≡ occurs x (y ∷ l)
occurs-one x y l a k e = go (eqb y x) refl
  where
    go : (t : Bool) → eqb y x ≡ t → length (cond t (a ∷ k) k) ≡ occurs x (y ∷ l)
    go true q = ap suc e ∙ sym (occurs-here x l) ∙ ap (λ z. occurs x (z ∷ l)) (sym (eqb-true y x q))
    go false q = e ∙ sym (occurs-other x y l (λ z. eqb-false y x q (sym z)))

occurs-in : (x : ℕ) (l : List ℕ) → 0 < occurs x l → x ∈ l
unfolding occurs one-if
occurs-in x [] h = absurd (omega arith)
occurs-in x (y ∷ l) h = go (eqb x y) refl h (occurs-in x l)
  where
    go : (b : Bool) → eqb x y ≡ b → 0 < cond b 1 0 + occurs x l → (0 < occurs x l → x ∈ l) → x ∈ (y ∷ l)
    go true e h f = Memᴰ.head (eqb-true x y e)
    go false e h f = Memᴰ.tail (f (omega arith))

occurs-perm : {l k : List ℕ} → Perm l k → (x : ℕ) → occurs x l ≡ occurs x k
unfolding occurs
occurs-perm Perm.same x = refl
occurs-perm (Perm.skip y p) x = ap (λ n. one-if x y + n) (occurs-perm p x)
occurs-perm (Perm.flip y z l) x = omega arith
occurs-perm (Perm.thru p q) x = occurs-perm p x ∙ occurs-perm q x

none-occurs : (l : List ℕ) → ((x : ℕ) → 0 ≡ occurs x l) → l ≡ []
unfolding occurs
none-occurs [] f = refl
none-occurs (y ∷ l) f = absurd (omega (arith, f y, one-self y))

pub counted : (l k : List ℕ) → ((x : ℕ) → occurs x l ≡ occurs x k) → Perm l k
unfolding occurs
counted [] k f = subst (Perm []) (sym (none-occurs k f)) same
counted (y ∷ l) k f =
    let r = pull (occurs-in y k (omega (arith, f y, one-self y))) in
    thru (skip y (counted l r.0 (λ x. omega (arith, f x, occurs-perm r.1 x)))) (perm-sym r.1)

-- ---- one place changed, and two swapped
occurs-set : (x v : ℕ) (l : List ℕ) (i : ℕ) → i < length l → occurs x (set l i v) + one-if x (get_or l i 0) ≡ occurs x l + one-if x v
unfolding occurs
occurs-set x v [] i h = absurd (omega arith)
occurs-set x v (y ∷ l) zero h = omega arith
occurs-set x v (y ∷ l) (suc i) h = omega (arith, occurs-set x v l i (omega arith))

other-end : (l : List ℕ) (i j : ℕ) → i < length l → get_or (set l i (get_or l j 0)) j 0 ≡ get_or l j 0
other-end l i j h = elim (ℕ_discrete j i) [
  | yes e ↦ ap (λ (k : ℕ). get_or (set l i (get_or l j 0)) k 0) e ∙ get_or-set_same l i (get_or l j 0) 0 h
  | no n ↦ get_or-set_other l i j (get_or l j 0) 0 n
]

pub occurs-swap : (x : ℕ) (l : List ℕ) (i j : ℕ) → i < length l → j < length l → occurs x (set (set l i (get_or l j 0)) j (get_or l i 0)) ≡ occurs x l
occurs-swap x l i j a b =
    omega (
      arith,
      occurs-set x (get_or l j 0) l i a,
      occurs-set x (get_or l i 0) (set l i (get_or l j 0)) j (subst (λ (n : ℕ). j < n) (sym (length-set l i (get_or l j 0))) b),
      ap (one-if x) (other-end l i j a),
    )

-- the last element in front of the others
pub occurs-rotated : (x : ℕ) (l : List ℕ) (k : ℕ) → length l ≡ suc k → occurs x (get_or l k 0 ∷ take k l) ≡ occurs x l
occurs-rotated x l k e =
    sym (occurs-last x (get_or l k 0) (take k l))
    ∙ ap (occurs x) (sym (take-suc l k 0 (omega arith)))
    ∙ ap (λ n. occurs x (take n l)) (sym e) ∙ ap (occurs x) (take-length l)
