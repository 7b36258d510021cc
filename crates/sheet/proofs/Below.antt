-- Tests, sums and lists over the numbers below a bound. Assumes nothing.
use mathlib.Core.Path.{◌≡◌, refl, sym, ap, ◌∙◌, subst}
use mathlib.Core.Logic.{◌⊎◌, inl, inr}
use mathlib.Core.Bool.{Bool, true, false, true≢false, not, ◌&&◌}
use mathlib.Core.List.{List, [], ◌∷◌, ◌++◌, flat_map, append_assoc, append-nil}
use Prim.Native.Nat.{ℕ, zero, suc, ◌+◌, ◌-◌, ◌*◌, ◌≤◌, ◌<◌}
use native.Mathlib.Nat.{le_of_eq, eq-or-lt_of_le, mul-zero, mul-add}
use native.Mathlib.Numerals.{add-one}
use native.Mathlib.Omega.{arith}
use lib.Dec.{T, ltb, ltb→lt, nltb→le}
use lib.ListN.{length, get_or, length-append, get_or-append}
use lib.Seq.{get_or-append-add}
use lib.Ieee.Bits.{is_true}
use lib.Ieee.Fits.{and_l, and_r}
use Rattle.std.proofs.lemmas.Bool.{and_cases}
use Rattle.sheet.specs.Below.{all_below, sum_below, list_below}

-- ---- tests and sums that agree below the bound
pub all_below-same : (n : ℕ) (p q : ℕ → Bool) → ((i : ℕ) → i < n → p i ≡ q i) → all_below n p ≡ all_below n q
unfolding all_below
all_below-same zero p q e = refl
all_below-same (suc n) p q e = λ i. all_below-same n p q (λ k h. e k (omega arith)) i && e n (omega arith) i

-- a test that passes at each number, at one of them
pub all_below-at : (n : ℕ) (p : ℕ → Bool) → all_below n p ≡ true → (i : ℕ) → i < n → p i ≡ true
unfolding all_below
all_below-at zero p e i h = absurd (omega arith)
all_below-at (suc n) p e i h = go (eq-or-lt_of_le (let k : i ≤ n = omega arith in k)) (λ k. all_below-at n p (is_true (all_below n p) (and_l (all_below n p) (p n) (subst T (sym e) tt))) i k)
  where
    go : (i ≡ n) ⊎ (i < n) → (i < n → p i ≡ true) → p i ≡ true
    go (inl k) r = ap p k ∙ is_true (p n) (and_r (all_below n p) (p n) (subst T (sym e) tt))
    go (inr k) r = r k

-- a test that passes below i and at i, and one that fails at i
pub all_below-of : (n : ℕ) (p : ℕ → Bool) → ((i : ℕ) → i < n → p i ≡ true) → all_below n p ≡ true
unfolding all_below
all_below-of zero p h = refl
all_below-of (suc n) p h = λ j. all_below-of n p (λ i k. h i (omega arith)) j && h n (omega arith) j

pub all_below-more : (i : ℕ) (p : ℕ → Bool) → all_below i p ≡ true → p i ≡ true → all_below (i + 1) p ≡ true
unfolding all_below
all_below-more i p e h = ap (λ (k : ℕ). all_below k p) (add-one i) ∙ λ j. e j && h j

-- where a test over the numbers below a bound fails, it fails at one of them
pub all_below-finds : (n : ℕ) (p : ℕ → Bool) → all_below n p ≡ false → (i : ℕ) × (i < n) × (p i ≡ false)
unfolding all_below
all_below-finds zero p e = absurd (true≢false e)
all_below-finds (suc n) p e = elim (and_cases (all_below n p) (p n) e) [ inl q ↦ (let r = all_below-finds n p q in (r.0, omega (arith, r.1), r.2)) | inr q ↦ (n, omega arith, q) ]

pub all_below-fails : (n : ℕ) (p : ℕ → Bool) (i : ℕ) → i < n → p i ≡ false → all_below n p ≡ false
all_below-fails n p i h e = go (all_below n p) refl
  where
    go : (b : Bool) → all_below n p ≡ b → b ≡ false
    go false q = refl
    go true q = sym (all_below-at n p q i h) ∙ e

pub sum_below-same : (n : ℕ) (f g : ℕ → ℕ) → ((i : ℕ) → i < n → f i ≡ g i) → sum_below n f ≡ sum_below n g
unfolding sum_below
sum_below-same zero f g e = refl
sum_below-same (suc n) f g e = λ i. sum_below-same n f g (λ k h. e k (omega arith)) i + e n (omega arith) i

-- ---- lists over the numbers below a bound
pub length-list_below : {A : Type 0} (n : ℕ) (f : ℕ → A) → length (list_below n f) ≡ n
unfolding list_below
length-list_below zero f = refl
length-list_below (suc n) f = length-append (list_below n f) (f n ∷ []) ∙ omega (arith, length-list_below n f)

-- an index in the first list or past it
pub split_at : (a b : ℕ) → (a < b) ⊎ (b ≤ a)
split_at a b = go (ltb a b) (ltb→lt a b) (nltb→le a b)
  where
    go : (t : Bool) → (T t → a < b) → (T (not t) → b ≤ a) → (a < b) ⊎ (b ≤ a)
    go true h k = inl (h tt)
    go false h k = inr (k tt)

pub get_d_past : {A : Type 0} (xs ys : List A) (i : ℕ) (d : A) → length xs ≤ i → get_or (xs ++ ys) i d ≡ get_or ys (i - length xs) d
get_d_past xs ys i d h = ap (λ (k : ℕ). get_or (xs ++ ys) k d) (let e : i ≡ length xs + (i - length xs) = omega arith in e) ∙ get_or-append-add xs ys (i - length xs) d

pub get_or-list_below : {A : Type 0} (n : ℕ) (f : ℕ → A) (i : ℕ) (d : A) → i < n → get_or (list_below n f) i d ≡ f i
unfolding list_below
get_or-list_below zero f i d h = absurd (omega arith)
get_or-list_below (suc n) f i d h = go (eq-or-lt_of_le (let k : i ≤ n = omega arith in k)) (λ l. get_or-list_below n f i d l)
  where
    go : (i ≡ n) ⊎ (i < n) → (i < n → get_or (list_below n f) i d ≡ f i) → get_or (list_below n f ++ (f n ∷ [])) i d ≡ f i
    go (inl e) r = get_d_past (list_below n f) (f n ∷ []) i d (omega (arith, length-list_below n f)) ∙ ap (λ (k : ℕ). get_or (f n ∷ []) k d) (let z : i - length (list_below n f) ≡ 0 = omega (arith, length-list_below n f) in z) ∙ ap f (sym e)
    go (inr l) r = get_or-append (list_below n f) (f n ∷ []) d i (omega (arith, length-list_below n f)) ∙ r l

pub sum_mono : (f : ℕ → ℕ) (b a : ℕ) → a ≤ b → sum_below a f ≤ sum_below b f
unfolding sum_below
sum_mono f zero zero h = omega arith
sum_mono f zero (suc a) h = absurd (omega arith)
sum_mono f (suc b) a h = go (eq-or-lt_of_le h) (λ k. sum_mono f b a k)
  where
    go : (a ≡ suc b) ⊎ (a < suc b) → (a ≤ b → sum_below a f ≤ sum_below b f) → sum_below a f ≤ sum_below b f + f b
    go (inl e) r = le_of_eq (ap (λ (k : ℕ). sum_below k f) e)
    go (inr l) r = let k : sum_below a f ≤ sum_below b f = r (omega arith) in omega arith

-- ---- sums compared, added and multiplied, and the sum of what is 0 but at one number
pub sum_below-le : (n : ℕ) (f g : ℕ → ℕ) → ((i : ℕ) → i < n → f i ≤ g i) → sum_below n f ≤ sum_below n g
unfolding sum_below
sum_below-le zero f g h = omega arith
sum_below-le (suc n) f g h = omega (arith, sum_below-le n f g (λ i k. h i (omega arith)), h n (omega arith))

pub sum_below-add : (n : ℕ) (f g : ℕ → ℕ) → sum_below n (λ i. f i + g i) ≡ sum_below n f + sum_below n g
unfolding sum_below
sum_below-add zero f g = omega arith
sum_below-add (suc n) f g = omega (arith, sum_below-add n f g)

pub sum_below-times : (k n : ℕ) (f : ℕ → ℕ) → sum_below n (λ i. k * f i) ≡ k * sum_below n f
unfolding sum_below
sum_below-times k zero f = sym (mul-zero k)
sum_below-times k (suc n) f = omega (arith, sum_below-times k n f, mul-add k (sum_below n f) (f n))

-- the first summand apart
pub sum_below-first : (n : ℕ) (f : ℕ → ℕ) → sum_below (suc n) f ≡ f 0 + sum_below n (λ i. f (suc i))
unfolding sum_below
sum_below-first zero f = omega arith
sum_below-first (suc n) f = omega (arith, sum_below-first n f)

pub sum_below-none : (n : ℕ) (f : ℕ → ℕ) → ((i : ℕ) → i < n → f i ≡ 0) → sum_below n f ≡ 0
unfolding sum_below
sum_below-none zero f h = refl
sum_below-none (suc n) f h = omega (arith, sum_below-none n f (λ i k. h i (omega arith)), h n (omega arith))

-- what is 0 but at x, where x is below the bound, and where it may not be
pub sum_below-only : (n : ℕ) (f : ℕ → ℕ) (x : ℕ) → ((i : ℕ) → (i ≡ x → ⊥) → f i ≡ 0) → x < n → sum_below n f ≡ f x
unfolding sum_below
sum_below-only zero f x h b = absurd (omega arith)
sum_below-only (suc n) f x h b = go (eq-or-lt_of_le (let k : x ≤ n = omega arith in k)) (sum_below-only n f x h)
  where
    go : (x ≡ n) ⊎ (x < n) → (x < n → sum_below n f ≡ f x) → sum_below n f + f n ≡ f x
    go (inl e) r = omega (arith, sum_below-none n f (λ i k. h i (λ q. omega arith)), ap f e)
    go (inr l) r = omega (arith, r l, h n (λ q. omega arith))

pub sum_below-most : (n : ℕ) (f : ℕ → ℕ) (x : ℕ) → ((i : ℕ) → (i ≡ x → ⊥) → f i ≡ 0) → sum_below n f ≤ f x
sum_below-most n f x h = elim (split_at x n) [ inl b ↦ le_of_eq (sum_below-only n f x h b) | inr b ↦ omega (arith, sum_below-none n f (λ i k. h i (λ q. omega arith))) ]

pub list_below-same : {A : Type 0} (n : ℕ) (f g : ℕ → A) → ((i : ℕ) → i < n → f i ≡ g i) → list_below n f ≡ list_below n g
unfolding list_below
list_below-same zero f g h = refl
list_below-same (suc n) f g h = λ i. list_below-same n f g (λ j b. h j (omega arith)) i ++ (h n (omega arith) i ∷ [])

-- lists one after the other, and one more
pub flat-snoc : {A B : Type 0} (f : A → List B) (xs : List A) (x : A) → flat_map f (xs ++ (x ∷ [])) ≡ flat_map f xs ++ f x
unfolding flat_map
flat-snoc f [] x = append-nil (f x)
flat-snoc f (y ∷ xs) x = ap (λ (l : List _). f y ++ l) (flat-snoc f xs x) ∙ sym (append_assoc (f y) (flat_map f xs) (f x))
