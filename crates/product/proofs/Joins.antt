-- Lists below a bound, joined: members, repeats, order. Assumes nothing.
use mathlib.Core.Path.{◌≡◌, refl, sym, ap, ◌∙◌, subst}
use mathlib.Core.Logic.{◌⊎◌, inl, inr}
use mathlib.Core.List.Memᴰ
use mathlib.Core.List.{List, [], ◌∷◌, ◌++◌, flat_map}
use Prim.Native.Nat.{ℕ, zero, suc, ◌≤◌, ◌<◌}
use native.Mathlib.Decide.{ℕ_discrete}
use native.Mathlib.Omega.{arith}
use lib.ListN.{length, get_or, length-append}
use Rattle.sheet.specs.Below.{list_below}
use Rattle.sheet.proofs.Below.{split_at, get_d_past, flat-snoc}
use Rattle.machine.specs.Demand.{◌∈◌, NoDup}
use Rattle.machine.proofs.Lists.{mem-eq, get_or-mem, nodup_append}
use Rattle.product.specs.Joins.{join_below}

pub flat-below : {A B : Type 0} (g : A → List B) (n : ℕ) (f : ℕ → A) → flat_map g (list_below n f) ≡ join_below n (λ i. g (f i))
unfolding list_below join_below flat_map
flat-below g zero f = refl
flat-below {B = B} g (suc n) f = flat-snoc g (list_below n f) (f n) ∙ ap (λ (l : List B). l ++ g (f n)) (flat-below g n f)

pub join-same : {A : Type 0} (n : ℕ) (f g : ℕ → List A) → ((i : ℕ) → f i ≡ g i) → join_below n f ≡ join_below n g
unfolding join_below
join-same zero f g e = refl
join-same (suc n) f g e = λ i. join-same n f g e i ++ e n i

pub join-mem : {A : Type 0} (n : ℕ) (f : ℕ → List A) (i : ℕ) {x : A} → i < n → x ∈ f i → x ∈ join_below n f
unfolding join_below
join-mem zero f i h m = absurd (omega arith)
join-mem {A} (suc n) f i {x} h m = go (ℕ_discrete i n) (λ b. join-mem n f i b m)
  where
    go : Dec (i ≡ n) → (i < n → x ∈ join_below n f) → x ∈ (join_below n f ++ f n)
    go (yes e) ih = Memᴰ.append_right (join_below n f) (subst (λ j. x ∈ f j) e m)
    go (no e) ih = Memᴰ.append_left (f n) (ih (omega (arith, e)))

pub mem-join : {A : Type 0} (n : ℕ) (f : ℕ → List A) {x : A} → x ∈ join_below n f → (i : ℕ) × (i < n) × (x ∈ f i)
unfolding join_below
mem-join zero f m = absurd (Memᴰ.not-nil m)
mem-join {A} (suc n) f {x} m = go (Memᴰ.append_cases (join_below n f) m) (λ q. mem-join n f q)
  where
    go : x ∈ join_below n f ⊎ x ∈ f n → (x ∈ join_below n f → (i : ℕ) × (i < n) × (x ∈ f i)) → (i : ℕ) × (i < suc n) × (x ∈ f i)
    go (inl q) ih = let r = ih q in (r.0, omega (arith, r.1), r.2)
    go (inr q) ih = (n, omega arith, q)

-- none twice, where no list below the bound has one twice, nor do two share one
pub join-nodup-below : {A : Type 0} (n : ℕ) (f : ℕ → List A) → ((i : ℕ) → i < n → NoDup (f i)) → ((i j : ℕ) (x : A) → i < n → j < n → x ∈ f i → x ∈ f j → i ≡ j) → NoDup (join_below n f)
unfolding join_below
join-nodup-below zero f o a = tt
join-nodup-below (suc n) f o a =
    nodup_append (join_below n f) (f n) (join-nodup-below n f (λ i h. o i (omega arith)) (λ i j x h k. a i j x (omega arith) (omega arith))) (o n (omega arith))
    (λ x p q. let r = mem-join n f p in let e = a r.0 n x (omega (arith, r.1)) (omega arith) r.2 q in omega (arith, e, r.1))

pub join-nodup : {A : Type 0} (n : ℕ) (f : ℕ → List A) → ((i : ℕ) → NoDup (f i)) → ((i j : ℕ) (x : A) → x ∈ f i → x ∈ f j → i ≡ j) → NoDup (join_below n f)
join-nodup n f o a = join-nodup-below n f (λ i h. o i) (λ i j x h k. a i j x)

-- a number that tells the list of a member rises along the whole
pub join-sorted : {A : Type 0} (key : A → ℕ) (d : A) (n : ℕ) (f : ℕ → List A) → ((i : ℕ) (x : A) → x ∈ f i → key x ≡ i)
    → (i j : ℕ) → i ≤ j → j < length (join_below n f) → key (get_or (join_below n f) i d) ≤ key (get_or (join_below n f) j d)
unfolding join_below
join-sorted key d zero f k i j a b = absurd (omega arith)
join-sorted {A} key d (suc n) f k i j a b = go (split_at j (length (join_below n f))) (join-sorted key d n f k i j a)
  where
    whole : List A
    whole = join_below n f ++ f n

    below : (x : A) → x ∈ (join_below n f ++ f n) → key x ≤ n
    below x m = elim (Memᴰ.append_cases (join_below n f) m) [ inl q ↦ (let r = mem-join n f q in let e = k r.0 x r.2 in omega (arith, e, r.1)) | inr q ↦ (let e = k n x q in omega (arith, e)) ]

    front : (l r : List A) (i : ℕ) → i < length l → get_or (l ++ r) i d ≡ get_or l i d
    front [] r i h = absurd (omega arith)
    front (x ∷ l) r zero h = refl
    front (x ∷ l) r (suc i) h = front l r i (omega arith)

    go : (j < length (join_below n f)) ⊎ (length (join_below n f) ≤ j) → (j < length (join_below n f) → key (get_or (join_below n f) i d) ≤ key (get_or (join_below n f) j d)) → key (get_or (join_below n f ++ f n) i d) ≤ key (get_or (join_below n f ++ f n) j d)
    go (inl h) ih =
        let x : key (get_or (join_below n f ++ f n) i d) ≡ key (get_or (join_below n f) i d) = ap key (front (join_below n f) (f n) i (omega arith)) in
        let y : key (get_or (join_below n f ++ f n) j d) ≡ key (get_or (join_below n f) j d) = ap key (front (join_below n f) (f n) j h) in
        omega (arith, x, y, ih h)
    go (inr h) ih =
        let size = length-append (join_below n f) (f n) in
        let y : key (get_or (join_below n f ++ f n) j d) ≡ n = k n (get_or (join_below n f ++ f n) j d) (mem-eq (sym (get_d_past (join_below n f) (f n) j d h)) (get_or-mem (f n) _ d (omega (arith, size)))) in
        omega (arith, y, below (get_or (join_below n f ++ f n) i d) (get_or-mem (join_below n f ++ f n) i d (omega arith)))
