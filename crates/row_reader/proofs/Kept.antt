-- Nodes kept in an array, read as a falling list: a node more, where it goes, and what is kept then. Assumes nothing.
use mathlib.Core.Path.{◌≡◌, refl, sym, ap, ◌∙◌}
use mathlib.Core.Bool.{Bool, true, false, ◌||◌, cond}
use mathlib.Core.List.{List, [], ◌∷◌}
use Prim.Native.Nat.{ℕ, zero, suc, ◌≤◌, ◌<◌}
use native.Mathlib.Omega.{arith}
use lib.Dec.{ltb, eqb}
use lib.ListN.{length, get_or, set, length-set}
use lib.Seq.{get_or-set_same, get_or-set_other}
use borrow.Author.Tests.{lt-ltb, le-ltb, ltb-true, ltb-false, ne_eqb, eqb-false}
use Rattle.text_rows.proofs.HasRows.{or-false}
use Rattle.row_reader.specs.FinalRows.{falling, has, inserted, put_in}

pub falling-long : (l : List ℕ) (n : ℕ) → length (falling l n) ≡ n
unfolding falling
falling-long l zero = refl
falling-long l (suc n) = ap suc (falling-long l n)

falling-set : (l : List ℕ) (n k a : ℕ) → n ≤ k → falling (set l k a) n ≡ falling l n
unfolding falling
falling-set l zero k a h = refl
falling-set l (suc n) k a h = λ j. get_or-set_other l k n a 0 (λ z. omega (arith, h, z)) j ∷ falling-set l n k a (omega (arith, h)) j

-- ---- one place further down
module _ (v : ℕ) (l : List ℕ) where
  pub has-none : has v (falling l 0) ≡ false
  unfolding falling has
  has-none = refl

  pub put_first : set l 0 v ≡ put_in v l 0
  unfolding put_in
  put_first = refl

  module _ (n : ℕ) where
    has-by : (b : Bool) → ltb v (get_or l n 0) ≡ b → has v (falling l (suc n)) ≡ cond b (has v (falling l n)) (eqb (get_or l n 0) v)
    unfolding falling has
    has-by b e = ap (λ (b : Bool). cond b (has v (falling l n)) (eqb (get_or l n 0) v)) e

    put-by : (b : Bool) → ltb v (get_or l n 0) ≡ b → put_in v l (suc n) ≡ cond b (put_in v (set l (suc n) (get_or l n 0)) n) (set l (suc n) v)
    unfolding put_in
    put-by b e = ap (λ (b : Bool). cond b (put_in v (set l (suc n) (get_or l n 0)) n) (set l (suc n) v)) e

    module _ (i : ℕ) (e : i ≡ suc n) where
      pub has_on : v < get_or l n 0 → has v (falling (set l i (get_or l n 0)) n) ≡ has v (falling l i)
      has_on k = ap (has v) (falling-set l n i (get_or l n 0) (omega (arith, e))) ∙ sym (has-by true (lt-ltb v (get_or l n 0) k)) ∙ sym (ap (λ (x : ℕ). has v (falling l x)) e)

      pub has_here : get_or l n 0 ≤ v → has v (falling l i) ≡ eqb (get_or l n 0) v
      has_here k = ap (λ (x : ℕ). has v (falling l x)) e ∙ has-by false (le-ltb v (get_or l n 0) k)

      pub put_on : v < get_or l n 0 → put_in v (set l i (get_or l n 0)) n ≡ put_in v l i
      put_on k = ap (λ (x : ℕ). put_in v (set l x (get_or l n 0)) n) e ∙ sym (put-by true (lt-ltb v (get_or l n 0) k)) ∙ sym (ap (put_in v l) e)

      pub put-here : get_or l n 0 ≤ v → set l i v ≡ put_in v l i
      put-here k = ap (λ (x : ℕ). set l x v) e ∙ sym (put-by false (le-ltb v (get_or l n 0) k)) ∙ sym (ap (put_in v l) e)

-- ---- the array with a node more, as a falling list
put-above : (v : ℕ) (l : List ℕ) (n k : ℕ) → n < k → get_or (put_in v l n) k 0 ≡ get_or l k 0
unfolding put_in
put-above v l zero k h = get_or-set_other l 0 k v 0 (λ z. omega (arith, h, z))
put-above v l (suc n) k h = go (ltb v (get_or l n 0)) (put-above v (set l (suc n) (get_or l n 0)) n k (omega (arith, h)))
  where
    go : (b : Bool) → get_or (put_in v (set l (suc n) (get_or l n 0)) n) k 0 ≡ get_or (set l (suc n) (get_or l n 0)) k 0
        → get_or (cond b (put_in v (set l (suc n) (get_or l n 0)) n) (set l (suc n) v)) k 0 ≡ get_or l k 0
    go true before = before ∙ get_or-set_other l (suc n) k (get_or l n 0) 0 (λ z. omega (arith, h, z))
    go false before = get_or-set_other l (suc n) k v 0 (λ z. omega (arith, h, z))

pub put-long : (v : ℕ) (l : List ℕ) (n : ℕ) → length (put_in v l n) ≡ length l
unfolding put_in
put-long v l zero = length-set l 0 v
put-long v l (suc n) = go (ltb v (get_or l n 0)) (put-long v (set l (suc n) (get_or l n 0)) n)
  where
    go : (b : Bool) → length (put_in v (set l (suc n) (get_or l n 0)) n) ≡ length (set l (suc n) (get_or l n 0)) → length (cond b (put_in v (set l (suc n) (get_or l n 0)) n) (set l (suc n) v)) ≡ length l
    go true before = before ∙ length-set l (suc n) (get_or l n 0)
    go false before = length-set l (suc n) v

falls-moved : (v : ℕ) (l : List ℕ) (n : ℕ) → suc n < length l → falling (put_in v (set l (suc n) (get_or l n 0)) n) (suc n) ≡ inserted v (falling (set l (suc n) (get_or l n 0)) n)
    → falling (put_in v (set l (suc n) (get_or l n 0)) n) (suc (suc n)) ≡ get_or l n 0 ∷ inserted v (falling l n)
unfolding falling
falls-moved v l n h before =
    let top = put-above v (set l (suc n) (get_or l n 0)) n (suc n) (omega arith) ∙ get_or-set_same l (suc n) (get_or l n 0) 0 h in
    let rest = before ∙ ap (inserted v) (falling-set l n (suc n) (get_or l n 0) (omega arith)) in
    λ j. top j ∷ rest j

falls-here : (v : ℕ) (l : List ℕ) (n : ℕ) → n < length l → falling (set l n v) (suc n) ≡ v ∷ falling l n
unfolding falling
falls-here v l n h = λ j. get_or-set_same l n v 0 h j ∷ falling-set l n n v (omega arith) j

pub put-falls : (v : ℕ) (l : List ℕ) (n : ℕ) → n < length l → falling (put_in v l n) (suc n) ≡ inserted v (falling l n)
unfolding put_in falling inserted
put-falls v l zero h = falls-here v l 0 h
put-falls v l (suc n) h = go (ltb v (get_or l n 0)) (put-falls v (set l (suc n) (get_or l n 0)) n (omega (arith, h, length-set l (suc n) (get_or l n 0))))
  where
    go : (b : Bool) → falling (put_in v (set l (suc n) (get_or l n 0)) n) (suc n) ≡ inserted v (falling (set l (suc n) (get_or l n 0)) n)
        → falling (cond b (put_in v (set l (suc n) (get_or l n 0)) n) (set l (suc n) v)) (suc (suc n)) ≡ cond b (get_or l n 0 ∷ inserted v (falling l n)) (v ∷ falling l (suc n))
    go true before = falls-moved v l n h before
    go false before = falls-here v l (suc n) h

le-apart : (a b : ℕ) → a ≤ b → (a ≡ b → ⊥) → a < b
le-apart a b h k = go (ltb a b) refl
  where
    go : (t : Bool) → ltb a b ≡ t → a < b
    go true q = ltb-true a b q
    go false q = let most = ltb-false a b q in absurd (k (omega (arith, h, most)))

-- ---- nodes that fall, from below `top` to no less than `least`
abbrev pub Falls : ℕ → ℕ → List ℕ → Type 0
Falls least top [] = Unit {0}
Falls least top (x ∷ xs) = (x < top) × (least ≤ x) × Falls least x xs

unfoldable pub among : ℕ → List ℕ → Bool
among v [] = false
among v (x ∷ xs) = eqb x v || among v xs

or_swap : (a b c : Bool) → (a || (b || c)) ≡ (b || (a || c))
or_swap true true c = refl
or_swap true false c = refl
or_swap false true c = refl
or_swap false false c = refl

pub among-inserted : (u v : ℕ) (xs : List ℕ) → among u (inserted v xs) ≡ (eqb v u || among u xs)
unfolding among inserted
among-inserted u v [] = refl
among-inserted u v (x ∷ xs) = go (ltb v x) (among-inserted u v xs)
  where
    go : (b : Bool) → among u (inserted v xs) ≡ (eqb v u || among u xs) → among u (cond b (x ∷ inserted v xs) (v ∷ x ∷ xs)) ≡ (eqb v u || (eqb x u || among u xs))
    go true before = ap (λ (b : Bool). eqb x u || b) before ∙ or_swap (eqb x u) (eqb v u) (among u xs)
    go false before = refl

pub none_above : (least top : ℕ) (xs : List ℕ) (v : ℕ) → Falls least top xs → top ≤ v → among v xs ≡ false
unfolding among
none_above least top [] v f h = refl
none_above least top (x ∷ xs) v f h = λ j. ne_eqb x v (λ z. omega (arith, z, h, f.0)) j || none_above least x xs v f.2 (omega (arith, h, f.0)) j

pub none_below : (least top : ℕ) (xs : List ℕ) (v : ℕ) → Falls least top xs → v < least → among v xs ≡ false
unfolding among
none_below least top [] v f h = refl
none_below least top (x ∷ xs) v f h = λ j. ne_eqb x v (λ z. omega (arith, z, h, f.1)) j || none_below least x xs v f.2 h j

or-none : (a b : Bool) → b ≡ false → (a || b) ≡ a
or-none true b e = refl
or-none false b e = e

-- a test that stops early
pub has-among : (least top : ℕ) (xs : List ℕ) (v : ℕ) → Falls least top xs → has v xs ≡ among v xs
unfolding has among
has-among least top [] v f = refl
has-among least top (x ∷ xs) v f = go (ltb v x) refl (has-among least x xs v f.2)
  where
    go : (b : Bool) → ltb v x ≡ b → has v xs ≡ among v xs → cond b (has v xs) (eqb x v) ≡ (eqb x v || among v xs)
    go true e before = let less = ltb-true v x e in before ∙ sym (ap (λ (b : Bool). b || among v xs) (ne_eqb x v (λ z. omega (arith, z, less))))
    go false e before = sym (or-none (eqb x v) (among v xs) (none_above least x xs v f.2 (ltb-false v x e)))

pub inserted-falls : (least top : ℕ) (xs : List ℕ) (v : ℕ) → Falls least top xs → least ≤ v → v < top → among v xs ≡ false → Falls least top (inserted v xs)
unfolding inserted among
inserted-falls least top [] v f h k e = (k, h, tt)
inserted-falls least top (x ∷ xs) v f h k e = go (ltb v x) refl (inserted-falls least x xs v f.2 h)
  where
    go : (b : Bool) → ltb v x ≡ b → (v < x → among v xs ≡ false → Falls least x (inserted v xs)) → Falls least top (cond b (x ∷ inserted v xs) (v ∷ x ∷ xs))
    go true q before = (f.0, f.1, before (ltb-true v x q) (or-false (eqb x v) (among v xs) e).1)
    go false q before =
        let less = ltb-false v x q in
        let apart = eqb-false x v (or-false (eqb x v) (among v xs) e).0 in
        (k, h, (le-apart x v less apart, f.1, f.2))

pub inserted-long : (v : ℕ) (xs : List ℕ) → length (inserted v xs) ≡ suc (length xs)
unfolding inserted
inserted-long v [] = refl
inserted-long v (x ∷ xs) = go (ltb v x) (inserted-long v xs)
  where
    go : (b : Bool) → length (inserted v xs) ≡ suc (length xs) → length (cond b (x ∷ inserted v xs) (v ∷ x ∷ xs)) ≡ suc (suc (length xs))
    go true before = ap suc before
    go false before = refl
