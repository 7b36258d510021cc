-- Sorted costs: the order of the list does not matter, and a cheapest part that is in order stays in front. Assumes nothing.
use mathlib.Core.Path.{◌≡◌, refl, sym, ap, ◌∙◌, subst}
use mathlib.Core.Logic.{◌⊎◌, inl, inr}
use mathlib.Core.Bool.{Bool, true, false, cond}
use mathlib.Core.List.Memᴰ
use mathlib.Core.List.{List, [], ◌∷◌, ◌++◌, map}
use lib.Dec.{T}
use Rattle.tropical_weight.specs.Tropical.{Tropical, le_t, ◌≼◌}
use Rattle.tropical_weight.proofs.Semiring.{≼-eq, ≼_trans, ≼-antisym, ≼-total}
use Rattle.machine.specs.Demand.{◌∈◌, RisesFrom, Rises, insert, sort}
use Rattle.machine.proofs.Lists.{Perm, same, skip, flip, thru, perm-refl, perm-mem, here, mem-eq, map-mem, mem-map, keep, keep-mem}

-- ---- insertion, by the order
dec : (a b : Tropical) → (a ≼ b) ⊎ (a ≼ b → ⊥)
dec a b = go (le_t a b) refl
  where
    go : (t : Bool) → le_t a b ≡ t → (a ≼ b) ⊎ (a ≼ b → ⊥)
    go true e = inl (record { le = subst T (sym e) tt })
    go false e = inr (λ h. subst T e h.le)

insert-yes : (a b : Tropical) (l : List Tropical) → a ≼ b → insert a (b ∷ l) ≡ a ∷ b ∷ l
unfolding insert
insert-yes a b l h = go (le_t a b) h.le
  where
    go : (t : Bool) → T t → cond t (a ∷ b ∷ l) (b ∷ insert a l) ≡ a ∷ b ∷ l
    go true h = refl
    go false h = absurd h

insert-no : (a b : Tropical) (l : List Tropical) → (a ≼ b → ⊥) → insert a (b ∷ l) ≡ b ∷ insert a l
unfolding insert
insert-no a b l n = go (le_t a b) refl
  where
    go : (t : Bool) → le_t a b ≡ t → cond t (a ∷ b ∷ l) (b ∷ insert a l) ≡ b ∷ insert a l
    go true e = absurd (n (record { le = subst T (sym e) tt }))
    go false e = refl

-- ---- two insertions commute
two-front : (a b : Tropical) (l : List Tropical) → insert a l ≡ a ∷ l → insert b l ≡ b ∷ l → insert a (b ∷ l) ≡ insert b (a ∷ l)
two-front a b l p q = go (dec a b) (dec b a)
  where
    go : (a ≼ b) ⊎ (a ≼ b → ⊥) → (b ≼ a) ⊎ (b ≼ a → ⊥) → insert a (b ∷ l) ≡ insert b (a ∷ l)
    go (inl h) (inl k) = insert-yes a b l h ∙ (let e : a ≡ b = ≼-antisym h k in λ i. e i ∷ sym e i ∷ l) ∙ sym (insert-yes b a l k)
    go (inl h) (inr k) = insert-yes a b l h ∙ ap (λ r. a ∷ r) (sym q) ∙ sym (insert-no b a l k)
    go (inr h) (inl k) = insert-no a b l h ∙ ap (λ r. b ∷ r) p ∙ sym (insert-yes b a l k)
    go (inr h) (inr k) = elim (≼-total a b) [ inl x ↦ absurd (h x) | inr x ↦ absurd (k x) ]

insert_comm : (a b : Tropical) (l : List Tropical) → insert a (insert b l) ≡ insert b (insert a l)
unfolding insert
insert_comm a b [] = two-front a b [] refl refl
insert_comm a b (y ∷ l) = go (dec a y) (dec b y) (insert_comm a b l)
  where
    go : (a ≼ y) ⊎ (a ≼ y → ⊥) → (b ≼ y) ⊎ (b ≼ y → ⊥) → insert a (insert b l) ≡ insert b (insert a l) → insert a (insert b (y ∷ l)) ≡ insert b (insert a (y ∷ l))
    go (inl h) (inl k) ih = ap (insert a) (insert-yes b y l k) ∙ two-front a b (y ∷ l) (insert-yes a y l h) (insert-yes b y l k) ∙ ap (insert b) (sym (insert-yes a y l h))
    go (inl h) (inr k) ih =
        ap (insert a) (insert-no b y l k) ∙ insert-yes a y (insert b l) h ∙ ap (λ r. a ∷ r) (sym (insert-no b y l k))
        ∙ sym (insert-no b a (y ∷ l) (λ x. k (≼_trans x h))) ∙ ap (insert b) (sym (insert-yes a y l h))
    go (inr h) (inl k) ih =
        ap (insert a) (insert-yes b y l k) ∙ insert-no a b (y ∷ l) (λ x. h (≼_trans x k)) ∙ ap (λ r. b ∷ r) (insert-no a y l h)
        ∙ sym (insert-yes b y (insert a l) k) ∙ ap (insert b) (sym (insert-no a y l h))
    go (inr h) (inr k) ih = ap (insert a) (insert-no b y l k) ∙ insert-no a y (insert b l) h ∙ ap (λ r. y ∷ r) ih ∙ sym (insert-no b y (insert a l) k) ∙ ap (insert b) (sym (insert-no a y l h))

-- lists of the same costs are sorted alike
pub sort-perm : {l k : List Tropical} → Perm l k → sort l ≡ sort k
unfolding sort
sort-perm Perm.same = refl
sort-perm (Perm.skip x p) = ap (insert x) (sort-perm p)
sort-perm (Perm.flip x y l) = insert_comm x y (sort l)
sort-perm (Perm.thru p q) = sort-perm p ∙ sort-perm q

-- ---- sorting keeps the costs
insert-keeps : (a : Tropical) (l : List Tropical) → Perm (insert a l) (a ∷ l)
unfolding insert
insert-keeps a [] = perm-refl (a ∷ [])
insert-keeps a (b ∷ l) = go (le_t a b) (insert-keeps a l)
  where
    go : (t : Bool) → Perm (insert a l) (a ∷ l) → Perm (cond t (a ∷ b ∷ l) (b ∷ insert a l)) (a ∷ b ∷ l)
    go true ih = perm-refl (a ∷ b ∷ l)
    go false ih = thru (skip b ih) (flip b a l)

pub sort-keeps : (l : List Tropical) → Perm (sort l) l
unfolding sort
sort-keeps [] = same
sort-keeps (a ∷ l) = thru (insert-keeps a (sort l)) (skip a (sort-keeps l))

-- ---- and puts them in order
-- each is at most all those after it
abbrev pub Ordered : List Tropical → Type 0
Ordered [] = Unit
Ordered (a ∷ l) = ((b : Tropical) → b ∈ l → a ≼ b) × Ordered l

insert-ordered : (a : Tropical) (l : List Tropical) → Ordered l → Ordered (insert a l)
unfolding insert
insert-ordered a [] o = (λ b h. absurd (Memᴰ.not-nil h), tt)
insert-ordered a (y ∷ l) o = go (le_t a y) refl (insert-ordered a l o.1)
  where
    low : a ≼ y → (b : Tropical) → b ∈ (y ∷ l) → a ≼ b
    low h b m = elim (Memᴰ.cases_cons m) [ inl e ↦ ≼_trans h (≼-eq (sym e)) | inr q ↦ ≼_trans h (o.0 b q) ]

    above : (a ≼ y → ⊥) → (b : Tropical) → b ∈ insert a l → y ≼ b
    above n b m = elim (Memᴰ.cases_cons (perm-mem (insert-keeps a l) m)) [
      | inl e ↦ elim (≼-total a y) [ inl x ↦ absurd (n x) | inr x ↦ ≼_trans x (≼-eq (sym e)) ]
      | inr q ↦ o.0 b q
    ]

    go : (t : Bool) → le_t a y ≡ t → Ordered (insert a l) → Ordered (cond t (a ∷ y ∷ l) (y ∷ insert a l))
    go true e ih = (low (record { le = subst T (sym e) tt }), o)
    go false e ih = (above (λ h. subst T e h.le), ih)

pub sort-ordered : (l : List Tropical) → Ordered (sort l)
unfolding sort
sort-ordered [] = tt
sort-ordered (a ∷ l) = insert-ordered a (sort l) (sort-ordered l)

-- the two ways of saying that a list is in order
rises-from : (b : Tropical) (l : List Tropical) → ((a : Tropical) → a ∈ l → b ≼ a) → Ordered l → RisesFrom b l
rises-from b [] f o = tt
rises-from b (a ∷ l) f o = (f a (here a l), rises-from a l o.0 o.1)

pub ordered-rises : (l : List Tropical) → Ordered l → Rises l
ordered-rises [] o = tt
ordered-rises (a ∷ l) o = rises-from a l o.0 o.1

from-ordered : (b : Tropical) (l : List Tropical) → RisesFrom b l → ((a : Tropical) → a ∈ l → b ≼ a) × Ordered l
from-ordered b [] r = (λ a h. absurd (Memᴰ.not-nil h), tt)
from-ordered b (a ∷ l) r =
    let q = from-ordered a l r.1 in
    (λ x h. elim (Memᴰ.cases_cons h) [ inl e ↦ ≼_trans r.0 (≼-eq (sym e)) | inr m ↦ ≼_trans r.0 (q.0 x m) ], q)

pub rises-ordered : (l : List Tropical) → Rises l → Ordered l
rises-ordered [] r = tt
rises-ordered (a ∷ l) r = from-ordered a l r

pub sort-rises : (l : List Tropical) → Rises (sort l)
sort-rises l = ordered-rises (sort l) (sort-ordered l)

-- ---- a front of a list in order
pub ordered-front : (l k : List Tropical) → Ordered (l ++ k) → Ordered l
ordered-front [] k o = tt
ordered-front (a ∷ l) k o = (λ b h. o.0 b (Memᴰ.append_left k h), ordered-front l k o.1)

pub ordered-across : (l k : List Tropical) → Ordered (l ++ k) → (a b : Tropical) → a ∈ l → b ∈ k → a ≼ b
ordered-across [] k o a b p q = absurd (Memᴰ.not-nil p)
ordered-across (x ∷ l) k o a b p q = elim (Memᴰ.cases_cons p) [ inl e ↦ ≼_trans (≼-eq e) (o.0 b (Memᴰ.append_right l q)) | inr h ↦ ordered-across l k o.1 a b h q ]

-- one more at the end
pub ordered-snoc : (l : List Tropical) (b : Tropical) → Ordered l → ((a : Tropical) → a ∈ l → a ≼ b) → Ordered (l ++ (b ∷ []))
ordered-snoc [] b o f = (λ a h. absurd (Memᴰ.not-nil h), tt)
ordered-snoc (x ∷ l) b o f = (
  λ a h. elim (Memᴰ.append_cases l h) [ inl q ↦ o.0 a q | inr q ↦ ≼_trans (f x (here x l)) (≼-eq (sym (Memᴰ.eq_of_singleton q))) ],
  ordered-snoc l b o.1 (λ a h. f a (Memᴰ.tail h)),
)

-- some of them
pub ordered-keep : {A : Type 0} (f : A → Tropical) (p : A → Bool) (l : List A) → Ordered (map f l) → Ordered (map f (keep p l))
unfolding keep
ordered-keep f p [] o = tt
ordered-keep f p (x ∷ l) o = go (p x) (ordered-keep f p l o.1)
  where
    go : (t : Bool) → Ordered (map f (keep p l)) → Ordered (map f (cond t (x ∷ keep p l) (keep p l)))
    go true k = (λ b h. let y = mem-map f (keep p l) h in o.0 b (mem-eq (sym y.2) (map-mem f (keep-mem p l y.1).0)), k)
    go false k = k

insert-low : (a : Tropical) (l : List Tropical) → ((b : Tropical) → b ∈ l → a ≼ b) → insert a l ≡ a ∷ l
unfolding insert
insert-low a [] f = refl
insert-low a (b ∷ l) f = insert-yes a b l (f b (here b l))

-- a list in order, with nothing below it in the rest, is the front of what is sorted
pub sort-front : (l k : List Tropical) → Ordered l → ((a b : Tropical) → a ∈ l → b ∈ k → a ≼ b) → sort (l ++ k) ≡ l ++ sort k
unfolding sort
sort-front [] k o f = refl
sort-front (a ∷ l) k o f =
    ap (insert a) (sort-front l k o.1 (λ x y p q. f x y (Memᴰ.tail p) q))
    ∙ insert-low a (l ++ sort k) (λ y h. elim (Memᴰ.append_cases l h) [ inl q ↦ o.0 y q | inr q ↦ f a y (here a l) (perm-mem (sort-keeps k) q) ])

insert-head : (a : Tropical) (l k : List Tropical) → insert a l ≡ a ∷ k → l ≡ k
unfolding insert
insert-head a [] k e = cc
insert-head a (b ∷ l) k e = go (dec a b)
  where
    go : (a ≼ b) ⊎ (a ≼ b → ⊥) → b ∷ l ≡ k
    go (inl h) = let q : a ∷ b ∷ l ≡ a ∷ k = sym (insert-yes a b l h) ∙ e in cc
    go (inr h) = let q : b ∷ insert a l ≡ a ∷ k = sym (insert-no a b l h) ∙ e in let z : a ≡ b = cc in absurd (h (≼-eq z))

-- a front of what is sorted, taken off
pub sort-rest : (l k d : List Tropical) → sort (l ++ k) ≡ l ++ d → sort k ≡ d
unfolding sort
sort-rest [] k d e = e
sort-rest (a ∷ l) k d e = sort-rest l k d (insert-head a (sort (l ++ k)) (l ++ d) e)
