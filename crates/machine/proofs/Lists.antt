-- Laws of lists: members, lists without repeats, permutations, what is left of a list, and elements by place. Assumes nothing.
use mathlib.Core.Path.{◌≡◌, refl, sym, ap, ◌∙◌, subst}
use mathlib.Core.Logic.{◌⊎◌, inl, inr}
use mathlib.Core.List.Memᴰ
use mathlib.Core.List.{List, [], ◌∷◌, ◌++◌, map, reverse, reverse-cons, append-nil, append_assoc}
use mathlib.Core.Bool.{Bool, true, false, cond}
use Prim.Native.Nat.{ℕ, zero, suc, ◌+◌, ◌≤◌, ◌<◌}
use native.Mathlib.Decide.{ℕ_discrete}
use native.Mathlib.Omega.{arith}
use lib.ListN.{length, get_or, length-append, length-map}
use lib.Seq.{ext_get_or}
use Rattle.std.proofs.lemmas.List.{nil_from_length}
use Rattle.sheet.specs.Below.{list_below}
use Rattle.sheet.proofs.Apart.{not-both}
use Rattle.sheet.proofs.Below.{length-list_below, get_or-list_below}
unfoldable pub use Rattle.machine.specs.Readings.{keep}
use Rattle.machine.specs.Demand.{◌∈◌, NoDup}

-- ---- members
pub here : {A : Type 0} (a : A) (l : List A) → a ∈ (a ∷ l)
here a l = Memᴰ.head refl

pub mem-eq : {A : Type 0} {a b : A} {l : List A} → a ≡ b → a ∈ l → b ∈ l
mem-eq {l} e h = subst (λ x. x ∈ l) e h

pub map-mem : {A B : Type 0} (f : A → B) {a : A} {l : List A} → a ∈ l → f a ∈ map f l
map-mem f (Memᴰ.head e) = Memᴰ.head (ap f e)
map-mem f (Memᴰ.tail m) = Memᴰ.tail (map-mem f m)

pub mem-map : {A B : Type 0} (f : A → B) (l : List A) {b : B} → b ∈ map f l → (a : A) × (a ∈ l) × (b ≡ f a)
mem-map f [] m = absurd (Memᴰ.not-nil m)
mem-map {A} f (x ∷ l) {b} m = go (λ q. mem-map f l q) (Memᴰ.cases_cons m)
  where
    go : (b ∈ map f l → (a : A) × (a ∈ l) × (b ≡ f a)) → (b ≡ f x) ⊎ b ∈ map f l → (a : A) × (a ∈ (x ∷ l)) × (b ≡ f a)
    go ih (inl e) = (x, here x l, e)
    go ih (inr q) = let r = ih q in (r.0, Memᴰ.tail r.1, r.2)

-- of the list f 0, .., f (n - 1)
pub below-mem : {A : Type 0} (f : ℕ → A) (n v : ℕ) → v < n → f v ∈ list_below n f
unfolding list_below
below-mem f zero v h = absurd (omega arith)
below-mem f (suc n) v h = go (ℕ_discrete v n) (below-mem f n v)
  where
    go : Dec (v ≡ n) → (v < n → f v ∈ list_below n f) → f v ∈ (list_below n f ++ (f n ∷ []))
    go (yes e) ih = Memᴰ.append_right (list_below n f) (Memᴰ.head (ap f e))
    go (no e) ih = Memᴰ.append_left (f n ∷ []) (ih (omega (arith, e)))

pub mem_below : {A : Type 0} (f : ℕ → A) (n : ℕ) {a : A} → a ∈ list_below n f → (v : ℕ) × (v < n) × (a ≡ f v)
unfolding list_below
mem_below f zero m = absurd (Memᴰ.not-nil m)
mem_below {A} f (suc n) {a} m = go (λ q. mem_below f n q) (Memᴰ.append_cases (list_below n f) m)
  where
    go : (a ∈ list_below n f → (v : ℕ) × (v < n) × (a ≡ f v)) → a ∈ list_below n f ⊎ a ∈ (f n ∷ []) → (v : ℕ) × (v < suc n) × (a ≡ f v)
    go ih (inl q) = let r = ih q in (r.0, omega (arith, r.1), r.2)
    go ih (inr q) = (n, omega arith, Memᴰ.eq_of_singleton q)

-- the first a of them, and those after
pub below-append : {A : Type 0} (f : ℕ → A) (a b : ℕ) → list_below (a + b) f ≡ list_below a f ++ list_below b (λ i. f (a + i))
unfolding list_below
below-append f a zero = ap (λ (n : ℕ). list_below n f) (let e : a + 0 ≡ a = omega arith in e) ∙ sym (append-nil (list_below a f))
below-append f a (suc b) =
    ap (λ (n : ℕ). list_below n f) (let e : a + suc b ≡ suc (a + b) = omega arith in e)
    ∙ ap (λ l. l ++ (f (a + b) ∷ [])) (below-append f a b)
    ∙ append_assoc (list_below a f) (list_below b (λ i. f (a + i))) (f (a + b) ∷ [])

-- ---- maps
pub map-append : {A B : Type 0} (f : A → B) (l k : List A) → map f (l ++ k) ≡ map f l ++ map f k
map-append f [] k = refl
map-append f (x ∷ l) k = ap (λ r. f x ∷ r) (map-append f l k)

-- a map depends only on what it does to the members
pub map_same : {A B : Type 0} (f g : A → B) (l : List A) → ((a : A) → a ∈ l → f a ≡ g a) → map f l ≡ map g l
map_same f g [] h = refl
map_same f g (x ∷ l) h = λ i. h x (here x l) i ∷ map_same f g l (λ a m. h a (Memᴰ.tail m)) i

-- ---- lists without repeats
pub nodup_append : {A : Type 0} (l k : List A) → NoDup l → NoDup k → ((a : A) → a ∈ l → a ∈ k → ⊥) → NoDup (l ++ k)
nodup_append [] k n o f = o
nodup_append (x ∷ l) k n o f = (λ m. elim (Memᴰ.append_cases l m) [ inl q ↦ n.0 q | inr q ↦ f x (here x l) q ], nodup_append l k n.1 o (λ a p q. f a (Memᴰ.tail p) q))

pub nodup-apart : {A : Type 0} (l k : List A) → NoDup (l ++ k) → (a : A) → a ∈ l → a ∈ k → ⊥
nodup-apart [] k n a p q = Memᴰ.not-nil p
nodup-apart (x ∷ l) k n a p q = elim (Memᴰ.cases_cons p) [ inl e ↦ n.0 (Memᴰ.append_right l (mem-eq e q)) | inr h ↦ nodup-apart l k n.1 a h q ]

pub nodup-end : {A : Type 0} (l k : List A) → NoDup (l ++ k) → NoDup k
nodup-end [] k n = n
nodup-end (x ∷ l) k n = nodup-end l k n.1

-- of a map that tells the members apart
pub nodup-map-in : {A B : Type 0} (f : A → B) (l : List A) → ((a b : A) → a ∈ l → b ∈ l → f a ≡ f b → a ≡ b) → NoDup l → NoDup (map f l)
nodup-map-in f [] inj n = tt
nodup-map-in f (x ∷ l) inj n = (
  λ m. let r = mem-map f l m in n.0 (mem-eq (sym (inj x r.0 (here x l) (Memᴰ.tail r.1) r.2)) r.1),
  nodup-map-in f l (λ a b p q. inj a b (Memᴰ.tail p) (Memᴰ.tail q)) n.1,
)

pub nodup-map : {A B : Type 0} (f : A → B) (l : List A) → ((a b : A) → f a ≡ f b → a ≡ b) → NoDup l → NoDup (map f l)
nodup-map f l inj n = nodup-map-in f l (λ a b p q. inj a b) n

-- where no two values of f are the same, members of the same value are the same
pub nodup-only : {A B : Type 0} (f : A → B) (l : List A) → NoDup (map f l) → (x y : A) → x ∈ l → y ∈ l → f x ≡ f y → x ≡ y
nodup-only f [] n x y h k e = absurd (Memᴰ.not-nil h)
nodup-only f (a ∷ l) n x y h k e = go (Memᴰ.cases_cons h) (Memᴰ.cases_cons k) (λ p q. nodup-only f l n.1 x y p q e)
  where
    go : (x ≡ a) ⊎ x ∈ l → (y ≡ a) ⊎ y ∈ l → (x ∈ l → y ∈ l → x ≡ y) → x ≡ y
    go (inl p) (inl q) ih = p ∙ sym q
    go (inl p) (inr q) ih = absurd (n.0 (mem-eq (sym e ∙ ap f p) (map-mem f q)))
    go (inr p) (inl q) ih = absurd (n.0 (mem-eq (e ∙ ap f q) (map-mem f p)))
    go (inr p) (inr q) ih = ih p q

-- lists of the same values are the same where members of the same value are
pub same-by : {A B : Type 0} (f : A → B) (l k : List A) → map f l ≡ map f k → ((x y : A) → x ∈ l → y ∈ k → f x ≡ f y → x ≡ y) → l ≡ k
same-by f [] [] e g = refl
same-by f [] (y ∷ k) e g = absurd (Memᴰ.not-nil (subst (λ m. f y ∈ m) (sym e) (here (f y) (map f k))))
same-by f (x ∷ l) [] e g = absurd (Memᴰ.not-nil (subst (λ m. f x ∈ m) e (here (f x) (map f l))))
same-by f (x ∷ l) (y ∷ k) e g =
    let first : f x ≡ f y = cc in
    let rest : map f l ≡ map f k = cc in
    let p = g x y (here x l) (here y k) first in
    let q = same-by f l k rest (λ a b h i. g a b (Memᴰ.tail h) (Memᴰ.tail i)) in
    λ i. p i ∷ q i

-- ---- permutations
pub data Perm {A : Type 0} : List A → List A → Type 0 where
  same : Perm [] []
  skip : (x : A) {l k : List A} → Perm l k → Perm (x ∷ l) (x ∷ k)
  flip : (x y : A) (l : List A) → Perm (x ∷ y ∷ l) (y ∷ x ∷ l)
  thru : {l k j : List A} → Perm l k → Perm k j → Perm l j

pub perm-refl : {A : Type 0} (l : List A) → Perm l l
perm-refl [] = same
perm-refl (x ∷ l) = skip x (perm-refl l)

pub perm-sym : {A : Type 0} {l k : List A} → Perm l k → Perm k l
perm-sym same = same
perm-sym (skip x p) = skip x (perm-sym p)
perm-sym (flip x y l) = flip y x l
perm-sym (thru p q) = thru (perm-sym q) (perm-sym p)

skip-mem : {A : Type 0} {a x : A} {l k : List A} → (a ∈ l → a ∈ k) → (a ≡ x) ⊎ a ∈ l → a ∈ (x ∷ k)
skip-mem f (inl e) = Memᴰ.head e
skip-mem f (inr m) = Memᴰ.tail (f m)

flip-mem : {A : Type 0} {a x y : A} {l : List A} → (a ≡ x) ⊎ a ∈ (y ∷ l) → a ∈ (y ∷ x ∷ l)
flip-mem (inl e) = Memᴰ.tail (Memᴰ.head e)
flip-mem {a} {x} {y} {l} (inr m) = skip-mem {a = a} {x = y} {l = l} {k = x ∷ l} (λ q. Memᴰ.tail q) (Memᴰ.cases_cons m)

pub perm-mem : {A : Type 0} {a : A} {l k : List A} → Perm l k → a ∈ l → a ∈ k
perm-mem same m = m
perm-mem (skip x p) m = skip-mem (perm-mem p) (Memᴰ.cases_cons m)
perm-mem (flip x y l) m = flip-mem (Memᴰ.cases_cons m)
perm-mem (thru p q) m = perm-mem q (perm-mem p m)

pub perm-length : {A : Type 0} {l k : List A} → Perm l k → length l ≡ length k
perm-length same = refl
perm-length (skip x p) = ap suc (perm-length p)
perm-length (flip x y l) = refl
perm-length (thru p q) = perm-length p ∙ perm-length q

pub perm-map : {A B : Type 0} (f : A → B) {l k : List A} → Perm l k → Perm (map f l) (map f k)
perm-map f same = same
perm-map f (skip x p) = skip (f x) (perm-map f p)
perm-map f (flip x y l) = flip (f x) (f y) (map f l)
perm-map f (thru p q) = thru (perm-map f p) (perm-map f q)

pub perm-nodup : {A : Type 0} {l k : List A} → Perm l k → NoDup l → NoDup k
perm-nodup same n = n
perm-nodup (skip x p) n = (λ m. n.0 (perm-mem (perm-sym p) m), perm-nodup p n.1)
perm-nodup (flip x y l) n = (λ m. elim (Memᴰ.cases_cons m) [ inl e ↦ n.0 (Memᴰ.head (sym e)) | inr q ↦ n.1.0 q ], (λ m. n.0 (Memᴰ.tail m), n.1.1))
perm-nodup (thru p q) n = perm-nodup q (perm-nodup p n)

-- a member put first
pub pull : {A : Type 0} {a : A} {l : List A} → a ∈ l → (k : List A) × Perm l (a ∷ k)
pull {a} (Memᴰ.head {x} {xs} e) = (xs, subst (λ y. Perm (x ∷ xs) (y ∷ xs)) (sym e) (perm-refl (x ∷ xs)))
pull {a} (Memᴰ.tail {x} {xs} m) = let r = pull m in (x ∷ r.0, thru (skip x r.1) (flip x a r.0))

-- what is left of k without the members of l
pub leftover : {A : Type 0} (l k : List A) → NoDup l → ((a : A) → a ∈ l → a ∈ k) → (r : List A) × Perm k (l ++ r)
leftover [] k n f = (k, perm-refl k)
leftover {A} (x ∷ l) k n f =
    let r = pull (f x (here x l)) in
    let q = leftover l r.0 n.1 (λ a m. go a m (Memᴰ.cases_cons (perm-mem r.1 (f a (Memᴰ.tail m))))) in
    (q.0, thru r.1 (skip x q.1))
  where
    go : (a : A) {j : List A} → a ∈ l → (a ≡ x) ⊎ a ∈ j → a ∈ j
    go a m (inl e) = absurd (n.0 (mem-eq e m))
    go a m (inr q) = q

pub perm-eq : {A : Type 0} {l k : List A} → l ≡ k → Perm l k
perm-eq {l} e = subst (Perm l) e (perm-refl l)

pub perm-left : {A : Type 0} (a : List A) {l k : List A} → Perm l k → Perm (a ++ l) (a ++ k)
perm-left [] p = p
perm-left (x ∷ a) p = skip x (perm-left a p)

pub perm-right : {A : Type 0} (a : List A) {l k : List A} → Perm l k → Perm (l ++ a) (k ++ a)
perm-right a same = perm-refl a
perm-right a (skip x p) = skip x (perm-right a p)
perm-right a (flip x y l) = flip x y (l ++ a)
perm-right a (thru p q) = thru (perm-right a p) (perm-right a q)

-- one in the middle put first
pub perm_middle : {A : Type 0} (l : List A) (x : A) (k : List A) → Perm (l ++ (x ∷ k)) (x ∷ (l ++ k))
perm_middle [] x k = perm-refl (x ∷ k)
perm_middle (y ∷ l) x k = thru (skip y (perm_middle l x k)) (flip y x (l ++ k))

pub perm-swap : {A : Type 0} (l k : List A) → Perm (l ++ k) (k ++ l)
perm-swap [] k = perm-eq (sym (append-nil k))
perm-swap (x ∷ l) k = thru (skip x (perm-swap l k)) (perm-sym (perm_middle k x l))

-- a list without repeats is no longer than one that has all its members
pub nodup-length : {A : Type 0} (l k : List A) → NoDup l → ((a : A) → a ∈ l → a ∈ k) → length l ≤ length k
nodup-length l k n f = let r = leftover l k n f in omega (arith, perm-length r.1, length-append l r.0)

-- two lists without repeats that have the same members differ in order alone
pub same-members : {A : Type 0} (l k : List A) → NoDup l → NoDup k → ((a : A) → a ∈ l → a ∈ k) → ((a : A) → a ∈ k → a ∈ l) → Perm k l
same-members l k n o f g =
    let r = leftover l k n f in
    let none : r.0 ≡ [] = nil_from_length r.0 (omega (arith, perm-length r.1, length-append l r.0, nodup-length k l o g)) in
    thru r.1 (perm-eq (ap (λ q. l ++ q) none ∙ append-nil l))

-- and where it is no shorter it has all of it
pub nodup-fills : {A : Type 0} (l k : List A) → NoDup l → ((a : A) → a ∈ l → a ∈ k) → length k ≤ length l → (a : A) → a ∈ k → a ∈ l
nodup-fills {A} l k n f b a h = let r = leftover l k n f in go r.0 (omega (arith, perm-length r.1, length-append l r.0)) (Memᴰ.append_cases l (perm-mem r.1 h))
  where
    go : (j : List A) → length j ≡ 0 → a ∈ l ⊎ a ∈ j → a ∈ l
    go j e (inl q) = q
    go [] e (inr q) = absurd (Memᴰ.not-nil q)
    go (x ∷ j) e (inr q) = absurd (omega (arith, e))

-- ---- each member passes, or one fails
pub each_or : {A P : Type 0} {Q : A → Type 0} (l : List A) → ((a : A) → a ∈ l → Q a ⊎ P) → ((a : A) → a ∈ l → Q a) ⊎ P
each_or [] f = inl (λ a h. absurd (Memᴰ.not-nil h))
each_or {A} {P} {Q} (x ∷ l) f = go (f x (here x l)) (each_or l (λ a h. f a (Memᴰ.tail h)))
  where
    go : Q x ⊎ P → ((a : A) → a ∈ l → Q a) ⊎ P → ((a : A) → a ∈ (x ∷ l) → Q a) ⊎ P
    go (inr p) g = inr p
    go (inl q) (inr p) = inr p
    go (inl q) (inl g) = inl (λ a h. elim (Memᴰ.cases_cons h) [ inl e ↦ subst Q (sym e) q | inr k ↦ g a k ])

-- ---- the members that pass a test
pub keep_append : {A : Type 0} (p : A → Bool) (l k : List A) → keep p (l ++ k) ≡ keep p l ++ keep p k
unfolding keep
keep_append p [] k = refl
keep_append {A} p (x ∷ l) k = go (p x) (keep_append p l k)
  where
    go : (t : Bool) → keep p (l ++ k) ≡ keep p l ++ keep p k → cond t (x ∷ keep p (l ++ k)) (keep p (l ++ k)) ≡ cond t (x ∷ keep p l) (keep p l) ++ keep p k
    go true e = ap (λ r. x ∷ r) e
    go false e = e

pub keep-mem : {A : Type 0} (p : A → Bool) (l : List A) {a : A} → a ∈ keep p l → (a ∈ l) × (p a ≡ true)
unfolding keep
keep-mem p [] h = absurd (Memᴰ.not-nil h)
keep-mem p (x ∷ l) {a} h = go (p x) refl h (λ q. keep-mem p l q)
  where
    go : (t : Bool) → p x ≡ t → a ∈ cond t (x ∷ keep p l) (keep p l) → (a ∈ keep p l → (a ∈ l) × (p a ≡ true)) → (a ∈ (x ∷ l)) × (p a ≡ true)
    go true e h ih = elim (Memᴰ.cases_cons h) [ inl z ↦ (Memᴰ.head z, ap p z ∙ e) | inr q ↦ let y = ih q in (Memᴰ.tail y.0, y.1) ]
    go false e h ih = let y = ih h in (Memᴰ.tail y.0, y.1)

pub mem-keep : {A : Type 0} (p : A → Bool) (l : List A) {a : A} → a ∈ l → p a ≡ true → a ∈ keep p l
unfolding keep
mem-keep p [] h e = absurd (Memᴰ.not-nil h)
mem-keep p (x ∷ l) {a} h e = go (p x) refl (Memᴰ.cases_cons h) (λ q. mem-keep p l q e)
  where
    go : (t : Bool) → p x ≡ t → (a ≡ x) ⊎ a ∈ l → (a ∈ l → a ∈ keep p l) → a ∈ cond t (x ∷ keep p l) (keep p l)
    go true f (inl z) ih = Memᴰ.head z
    go true f (inr q) ih = Memᴰ.tail (ih q)
    go false f (inl z) ih = absurd (not-both (ap p (sym z) ∙ e) f)
    go false f (inr q) ih = ih q

-- where all pass it, and where none does
pub keep-all : {A : Type 0} (p : A → Bool) (l : List A) → ((a : A) → a ∈ l → p a ≡ true) → keep p l ≡ l
unfolding keep
keep-all p [] f = refl
keep-all p (x ∷ l) f = ap (λ b. cond b (x ∷ keep p l) (keep p l)) (f x (here x l)) ∙ ap (λ k. x ∷ k) (keep-all p l (λ a h. f a (Memᴰ.tail h)))

pub keep-none : {A : Type 0} (p : A → Bool) (l : List A) → ((a : A) → a ∈ l → p a ≡ false) → keep p l ≡ []
unfolding keep
keep-none p [] f = refl
keep-none p (x ∷ l) f = ap (λ b. cond b (x ∷ keep p l) (keep p l)) (f x (here x l)) ∙ keep-none p l (λ a h. f a (Memᴰ.tail h))

pub keep-length : {A : Type 0} (p : A → Bool) (l : List A) → length (keep p l) ≤ length l
unfolding keep
keep-length p [] = omega arith
keep-length p (x ∷ l) = go (p x) (keep-length p l)
  where
    go : (t : Bool) → length (keep p l) ≤ length l → length (cond t (x ∷ keep p l) (keep p l)) ≤ suc (length l)
    go true h = omega arith
    go false h = omega arith

pub keep-nodup : {A B : Type 0} (f : A → B) (p : A → Bool) (l : List A) → NoDup (map f l) → NoDup (map f (keep p l))
unfolding keep
keep-nodup f p [] n = tt
keep-nodup f p (x ∷ l) n = go (p x) (keep-nodup f p l n.1)
  where
    go : (t : Bool) → NoDup (map f (keep p l)) → NoDup (map f (cond t (x ∷ keep p l) (keep p l)))
    go true k = (λ h. let y = mem-map f (keep p l) h in n.0 (mem-eq (sym y.2) (map-mem f (keep-mem p l y.1).0)), k)
    go false k = k

-- ---- backwards
pub mem-reverse : {A : Type 0} {a : A} (l : List A) → a ∈ reverse l → a ∈ l
mem-reverse [] h = h
mem-reverse {A} {a} (x ∷ l) h = elim (Memᴰ.append_cases (reverse l) (subst (λ k. a ∈ k) (reverse-cons x l) h)) [ inl q ↦ Memᴰ.tail (mem-reverse l q) | inr q ↦ Memᴰ.head (Memᴰ.eq_of_singleton q) ]

-- ---- by place
-- inside a list, what would stand past its end does not matter
pub get_d_any : {A : Type 0} (l : List A) (i : ℕ) (d e : A) → i < length l → get_or l i d ≡ get_or l i e
get_d_any [] i d e h = absurd (omega arith)
get_d_any (x ∷ l) zero d e h = refl
get_d_any (x ∷ l) (suc i) d e h = get_d_any l i d e (omega arith)

pub get_or-mem : {A : Type 0} (l : List A) (i : ℕ) (d : A) → i < length l → get_or l i d ∈ l
get_or-mem [] i d h = absurd (omega arith)
get_or-mem (x ∷ l) zero d h = here x l
get_or-mem (x ∷ l) (suc i) d h = Memᴰ.tail (get_or-mem l i d (omega arith))

pub mem-get_or : {A : Type 0} {a : A} {l : List A} (d : A) → a ∈ l → (i : ℕ) × (i < length l) × (get_or l i d ≡ a)
mem-get_or d (Memᴰ.head e) = (0, omega arith, sym e)
mem-get_or d (Memᴰ.tail h) = let r = mem-get_or d h in (suc r.0, omega (arith, r.1), r.2)

pub get_d_map : {A B : Type 0} (f : A → B) (l : List A) (i : ℕ) (d : A) (e : B) → i < length l → get_or (map f l) i e ≡ f (get_or l i d)
get_d_map f [] i d e h = absurd (omega arith)
get_d_map f (x ∷ l) zero d e h = refl
get_d_map f (x ∷ l) (suc i) d e h = get_d_map f l i d e (omega arith)

-- a map over the places of a list is one over the list
pub map-places : {A B : Type 0} (f : ℕ → B) (g : A → B) (l : List A) (d : A) → ((i : ℕ) → i < length l → f i ≡ g (get_or l i d)) → map f (list_below (length l) (λ i. i)) ≡ map g l
map-places {A} {B} f g l d h = ext_get_or (f 0) (map f places) (map g l) (long ∙ sym (length-map l g)) at
  where
    places : List ℕ
    places = list_below (length l) (λ i. i)

    long : length (map f places) ≡ length l
    long = length-map places f ∙ length-list_below (length l) (λ i. i)

    at : (i : ℕ) → i < length (map f places) → get_or (map f places) i (f 0) ≡ get_or (map g l) i (f 0)
    at i b =
        let c : i < length l = omega (arith, long) in
        get_d_map f places i 0 (f 0) (omega (arith, length-map places f)) ∙ ap f (get_or-list_below (length l) (λ i. i) i 0 c) ∙ h i c ∙ sym (get_d_map g l i d (f 0) c)
