-- The laws of the tropical semiring and of its order. Assumes nothing.
use Rattle.std.proofs.Common.{◌≡◌, Bool, true, false, cond, not, ◌&&◌, ◌||◌, T, ◌⊎◌, ℤ, sym, refl, ap, ◌∙◌, subst, inl, inr}
use lib.IntN.{+ℤ_assoc, +ℤ_comm, +ℤ_idl}
use lib.Signed.{lt_z}
use lib.Ieee.Fits.{and_l, and_r, and_i}
use lib.Ieee.Bits.{is_true}
use Rattle.tropical_weight.specs.Tropical.{Tropical, fin, inf, le_t, lt_t, eq_t, ◌≼◌, ◌⊕◌, ◌⊗◌, zero, one}
use Rattle.tropical_weight.proofs.Integers.{int_le-refl, int_le-trans, int_le-antisym, int_le-total, int_le-shift, int_lt-not}

-- ---- the order is linear, and infinity is its greatest
refl' : (a : Tropical) → T (le_t a a)
refl' (fin a) = int_le-refl a
refl' inf = tt

pub ≼_refl : (a : Tropical) → a ≼ a
≼_refl a = record { le = refl' a }

pub ≼-eq : {a b : Tropical} → a ≡ b → a ≼ b
≼-eq {a} {b} e = subst (λ x. a ≼ x) e (≼_refl a)

trans' : (a b c : Tropical) → T (le_t a b) → T (le_t b c) → T (le_t a c)
trans' a b inf h k = tt
trans' (fin a) (fin b) (fin c) h k = int_le-trans a b c h k
trans' a inf (fin c) h k = absurd k
trans' inf (fin b) (fin c) h k = absurd h

pub ≼_trans : {a b c : Tropical} → a ≼ b → b ≼ c → a ≼ c
≼_trans {a} {b} {c} h k = record { le = trans' a b c h.le k.le }

antisym' : (a b : Tropical) → T (le_t a b) → T (le_t b a) → a ≡ b
antisym' (fin a) (fin b) h k = ap fin (int_le-antisym a b h k)
antisym' (fin a) inf h k = absurd k
antisym' inf (fin b) h k = absurd h
antisym' inf inf h k = refl

pub ≼-antisym : {a b : Tropical} → a ≼ b → b ≼ a → a ≡ b
≼-antisym {a} {b} h k = antisym' a b h.le k.le

pub lt_t-not : (a b : Tropical) → lt_t a b ≡ not (le_t b a)
lt_t-not (fin a) (fin b) = int_lt-not a b
lt_t-not (fin a) inf = refl
lt_t-not inf (fin b) = refl
lt_t-not inf inf = refl

not-le : (a b : Tropical) → T (not (le_t a b)) → T (le_t b a)
not-le (fin a) (fin b) h = int_le-total a b h
not-le (fin a) inf h = absurd h
not-le inf b h = top b
  where
    top : (b : Tropical) → T (le_t b inf)
    top b = tt

pub ≼-total : (a b : Tropical) → (a ≼ b) ⊎ (b ≼ a)
≼-total a b = go (le_t a b) refl
  where
    go : (t : Bool) → le_t a b ≡ t → (a ≼ b) ⊎ (b ≼ a)
    go true e = inl (record { le = subst T (sym e) tt })
    go false e = inr (record { le = not-le a b (subst (λ (t : Bool). T (not t)) (sym e) tt) })

pub ≼-inf : (a : Tropical) → a ≼ inf
≼-inf a = record { le = tt }

pub ≼-fin : (a : Tropical) (k : ℤ) → a ≼ fin k → (j : ℤ) × (a ≡ fin j)
≼-fin (fin a) k h = (a, refl)
≼-fin inf k h = absurd h.le

-- the test of equality
pub eq_t-eq : (a b : Tropical) → eq_t a b ≡ true → a ≡ b
eq_t-eq a b e = let t : T (eq_t a b) = subst T (sym e) tt in antisym' a b (and_l (le_t a b) (le_t b a) t) (and_r (le_t a b) (le_t b a) t)

pub eq-eq_t : (a b : Tropical) → a ≡ b → eq_t a b ≡ true
eq-eq_t a b e = subst (λ x. eq_t a x ≡ true) e (is_true (eq_t a a) (and_i (le_t a a) (le_t a a) (refl' a) (refl' a)))

-- ---- ⊕ is the greatest lower bound, and one of the two
pub ⊕-left : (a b : Tropical) → a ⊕ b ≼ a
⊕-left a b = go (lt_t b a) (lt_t-not b a)
  where
    go : (t : Bool) → t ≡ not (le_t a b) → cond t b a ≼ a
    go true e = record { le = not-le a b (subst T e tt) }
    go false e = ≼_refl a

pub ⊕-right : (a b : Tropical) → a ⊕ b ≼ b
⊕-right a b = go (lt_t b a) (le_t a b) refl (lt_t-not b a)
  where
    go : (t u : Bool) → le_t a b ≡ u → t ≡ not u → cond t b a ≼ b
    go true u e h = ≼_refl b
    go false true e h = record { le = subst T (sym e) tt }
    go false false e h = absurd (subst T (sym h) tt)

pub ⊕-either : (a b : Tropical) → (a ⊕ b ≡ a) ⊎ (a ⊕ b ≡ b)
⊕-either a b = go (lt_t b a)
  where
    go : (t : Bool) → (cond t b a ≡ a) ⊎ (cond t b a ≡ b)
    go true = inr refl
    go false = inl refl

pub ⊕-greatest : {a b c : Tropical} → c ≼ a → c ≼ b → c ≼ a ⊕ b
⊕-greatest {a} {b} {c} h k = go (lt_t b a)
  where
    go : (t : Bool) → c ≼ cond t b a
    go true = k
    go false = h

-- the natural order of a semiring with these laws, as the Rust takes it: a is the sum of the two, and they differ
pub natural-lt_t : (a b : Tropical) → eq_t (a ⊕ b) a && not (eq_t a b) ≡ lt_t a b
natural-lt_t a b = go (le_t a b) (le_t b a) refl refl
  where
    go : (x y : Bool) → le_t a b ≡ x → le_t b a ≡ y → eq_t (a ⊕ b) a && not (eq_t a b) ≡ lt_t a b
    go true y p q = ap (λ (t : Bool). eq_t (cond t b a) a && not (le_t a b && le_t b a)) (lt_t-not b a ∙ ap not p) ∙ ap (λ (t : Bool). t && not (le_t a b && le_t b a)) (eq-eq_t a a refl) ∙ ap (λ (t : Bool). not (t && le_t b a)) p ∙ sym (lt_t-not a b)
    go false y p q =
        let s : lt_t b a ≡ true = lt_t-not b a ∙ ap not p in
        let up : le_t b a ≡ true = is_true (le_t b a) (not-le a b (subst (λ (t : Bool). T (not t)) (sym p) tt)) in
        ap (λ (t : Bool). eq_t (cond t b a) a && not (le_t a b && le_t b a)) s ∙ (λ i. up i && p i && not (p i && up i)) ∙ sym (lt_t-not a b ∙ ap not up)

-- the sum of the two differs from a just where b is strictly less
pub improve-lt_t : (a b : Tropical) → not (eq_t a (a ⊕ b)) ≡ lt_t b a
improve-lt_t a b = go (le_t a b) refl
  where
    go : (x : Bool) → le_t a b ≡ x → not (eq_t a (a ⊕ b)) ≡ lt_t b a
    go true p =
        let s : lt_t b a ≡ false = lt_t-not b a ∙ ap not p in
        ap (λ (t : Bool). not (eq_t a (cond t b a))) s ∙ ap not (eq-eq_t a a refl) ∙ sym s
    go false p =
        let s : lt_t b a ≡ true = lt_t-not b a ∙ ap not p in
        ap (λ (t : Bool). not (eq_t a (cond t b a))) s ∙ ap (λ (t : Bool). not (t && le_t b a)) p ∙ sym s

-- ---- the semiring's laws, by those of the order
pub ⊕-comm : (a b : Tropical) → a ⊕ b ≡ b ⊕ a
⊕-comm a b = ≼-antisym (⊕-greatest (⊕-right a b) (⊕-left a b)) (⊕-greatest (⊕-right b a) (⊕-left b a))

pub ⊕-assoc : (a b c : Tropical) → a ⊕ b ⊕ c ≡ a ⊕ (b ⊕ c)
⊕-assoc a b c =
    let l : a ⊕ b ⊕ c ≼ a ⊕ b = ⊕-left (a ⊕ b) c in
    let r : a ⊕ (b ⊕ c) ≼ b ⊕ c = ⊕-right a (b ⊕ c) in
    ≼-antisym (⊕-greatest (≼_trans l (⊕-left a b)) (⊕-greatest (≼_trans l (⊕-right a b)) (⊕-right (a ⊕ b) c)))
    (⊕-greatest (⊕-greatest (⊕-left a (b ⊕ c)) (≼_trans r (⊕-left b c))) (≼_trans r (⊕-right b c)))

pub ⊕-idem : (a : Tropical) → a ⊕ a ≡ a
⊕-idem a = ≼-antisym (⊕-left a a) (⊕-greatest (≼_refl a) (≼_refl a))

pub zero-⊕ : (a : Tropical) → zero ⊕ a ≡ a
zero-⊕ a = ≼-antisym (⊕-right zero a) (⊕-greatest (≼-inf a) (≼_refl a))

pub ⊗-comm : (a b : Tropical) → a ⊗ b ≡ b ⊗ a
⊗-comm (fin a) (fin b) = ap fin (+ℤ_comm a b)
⊗-comm (fin a) inf = refl
⊗-comm inf (fin b) = refl
⊗-comm inf inf = refl

pub ⊗-assoc : (a b c : Tropical) → a ⊗ b ⊗ c ≡ a ⊗ (b ⊗ c)
⊗-assoc (fin a) (fin b) (fin c) = ap fin (+ℤ_assoc a b c)
⊗-assoc (fin a) (fin b) inf = refl
⊗-assoc (fin a) inf c = refl
⊗-assoc inf b c = refl

pub one-⊗ : (a : Tropical) → one ⊗ a ≡ a
one-⊗ (fin a) = ap fin (+ℤ_idl a)
one-⊗ inf = refl

pub ⊗-one : (a : Tropical) → a ⊗ one ≡ a
⊗-one a = ⊗-comm a one ∙ one-⊗ a

pub zero-⊗ : (a : Tropical) → zero ⊗ a ≡ zero
zero-⊗ a = refl

pub ⊗-zero : (a : Tropical) → a ⊗ zero ≡ zero
⊗-zero a = ⊗-comm a zero

-- ---- ⊗ keeps the order, and what is finite can be taken off both sides
mono' : (a b c : Tropical) → T (le_t a b) → T (le_t (a ⊗ c) (b ⊗ c))
mono' (fin a) (fin b) (fin c) h = subst T (sym (int_le-shift c a b)) h
mono' (fin a) (fin b) inf h = tt
mono' a inf c h = tt
mono' inf (fin b) c h = absurd h

pub ⊗-mono-left : {a b : Tropical} (c : Tropical) → a ≼ b → a ⊗ c ≼ b ⊗ c
⊗-mono-left {a} {b} c h = record { le = mono' a b c h.le }

pub ⊗-mono : {a b c d : Tropical} → a ≼ b → c ≼ d → a ⊗ c ≼ b ⊗ d
⊗-mono {a} {b} {c} {d} h k = ≼_trans (⊗-mono-left c h) (subst (λ x. x ≼ b ⊗ d) (⊗-comm c b) (subst (λ x. c ⊗ b ≼ x) (⊗-comm d b) (⊗-mono-left b k)))

cancel' : (k : ℤ) (a b : Tropical) → T (le_t (a ⊗ fin k) (b ⊗ fin k)) → T (le_t a b)
cancel' k a inf h = tt
cancel' k (fin a) (fin b) h = subst T (int_le-shift k a b) h
cancel' k inf (fin b) h = absurd h

pub ⊗-cancel : {a b : Tropical} (k : ℤ) → a ⊗ fin k ≼ b ⊗ fin k → a ≼ b
⊗-cancel {a} {b} k h = record { le = cancel' k a b h.le }

pub ⊗-⊕ : (a b c : Tropical) → (a ⊕ b) ⊗ c ≡ a ⊗ c ⊕ b ⊗ c
⊗-⊕ a b c = ≼-antisym (⊕-greatest (⊗-mono-left c (⊕-left a b)) (⊗-mono-left c (⊕-right a b))) (elim (⊕-either a b) [ inl e ↦ subst (λ x. a ⊗ c ⊕ b ⊗ c ≼ x ⊗ c) (sym e) (⊕-left (a ⊗ c) (b ⊗ c)) | inr e ↦ subst (λ x. a ⊗ c ⊕ b ⊗ c ≼ x ⊗ c) (sym e) (⊕-right (a ⊗ c) (b ⊗ c)) ])

-- ---- whether a value is finite
abbrev pub is_finite : Tropical → Bool
is_finite w = lt_t w inf

pub finite-⊕ : (x y : Tropical) → is_finite (x ⊕ y) ≡ is_finite x || is_finite y
finite-⊕ (fin a) (fin b) = go (lt_z b a)
  where
    go : (t : Bool) → is_finite (cond t (fin b) (fin a)) ≡ true
    go true = refl
    go false = refl
finite-⊕ (fin a) inf = refl
finite-⊕ inf (fin b) = refl
finite-⊕ inf inf = refl

-- a sum is finite where both its terms are
pub finite-⊗ : (x y : Tropical) → is_finite (x ⊗ y) ≡ is_finite x && is_finite y
finite-⊗ (fin a) (fin b) = refl
finite-⊗ (fin a) inf = refl
finite-⊗ inf y = refl

pub is-finite : (x : Tropical) → is_finite x ≡ true → (k : ℤ) × (x ≡ fin k)
is-finite (fin a) e = (a, refl)
is-finite inf e = absurd (subst T (sym e) tt)

pub not_finite : (x : Tropical) → is_finite x ≡ false → x ≡ inf
not_finite (fin a) e = absurd (subst T e tt)
not_finite inf e = refl
