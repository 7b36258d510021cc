-- The order of the whole numbers by its tests, and how large a sum gets. Assumes nothing.
use Rattle.std.proofs.Common.{◌≡◌, ℕ, zero, suc, ◌+◌, ◌-◌, ◌<◌, ◌≤◌, Bool, true, false, cond, not, T, ltb, leb, ℤ, pos, negsuc, ◌+ℤ◌, nat_abs, sym, refl, ap, ◌∙◌, le_antisymm, arith, le→leb, ltb→lt, leb→le, nltb→le}
use lib.Dec.{nleb→lt, leb-zero, leb-suc-zero, leb-suc-suc}
use lib.IntN.{sub_ℕ, suc_ℤ, pred_ℤ, suc-pred, +ℤ_idr, -ℤ_one, +ℤ-suc_ℤ, +ℤ-pred_ℤ}
use lib.Signed.{le_z, lt_z}

-- ---- a linear order
pub int_le-refl : (a : ℤ) → T (le_z a a)
int_le-refl (pos a) = le→leb a a (omega arith)
int_le-refl (negsuc a) = le→leb a a (omega arith)

pub int_le-trans : (a b c : ℤ) → T (le_z a b) → T (le_z b c) → T (le_z a c)
int_le-trans (pos a) (pos b) (pos c) h k = le→leb a c (omega (arith, leb→le a b h, leb→le b c k))
int_le-trans (pos a) (pos b) (negsuc c) h k = absurd k
int_le-trans (pos a) (negsuc b) c h k = absurd h
int_le-trans (negsuc a) b (pos c) h k = tt
int_le-trans (negsuc a) (pos b) (negsuc c) h k = absurd k
int_le-trans (negsuc a) (negsuc b) (negsuc c) h k = le→leb c a (omega (arith, leb→le b a h, leb→le c b k))

pub int_le-antisym : (a b : ℤ) → T (le_z a b) → T (le_z b a) → a ≡ b
int_le-antisym (pos a) (pos b) h k = ap pos (le_antisymm (leb→le a b h) (leb→le b a k))
int_le-antisym (pos a) (negsuc b) h k = absurd h
int_le-antisym (negsuc a) (pos b) h k = absurd k
int_le-antisym (negsuc a) (negsuc b) h k = ap negsuc (le_antisymm (leb→le a b k) (leb→le b a h))

-- `<` is the converse of `≤` failing
ltb-not : (a b : ℕ) → ltb a b ≡ not (leb b a)
ltb-not a b = go (ltb a b) (leb b a) (ltb→lt a b) (nltb→le a b) (leb→le b a) (nleb→lt b a)
  where
    go : (x y : Bool) → (T x → a < b) → (T (not x) → b ≤ a) → (T y → b ≤ a) → (T (not y) → a < b) → x ≡ not y
    go true true h h' k k' = absurd (omega (arith, h tt, k tt))
    go true false h h' k k' = refl
    go false true h h' k k' = refl
    go false false h h' k k' = absurd (omega (arith, h' tt, k' tt))

pub int_lt-not : (a b : ℤ) → lt_z a b ≡ not (le_z b a)
int_lt-not (pos a) (pos b) = ltb-not a b
int_lt-not (pos a) (negsuc b) = refl
int_lt-not (negsuc a) (pos b) = refl
int_lt-not (negsuc a) (negsuc b) = ltb-not b a

pub int_le-total : (a b : ℤ) → T (not (le_z a b)) → T (le_z b a)
int_le-total (pos a) (pos b) h = le→leb b a (omega (arith, nleb→lt a b h))
int_le-total (pos a) (negsuc b) h = tt
int_le-total (negsuc a) (pos b) h = absurd h
int_le-total (negsuc a) (negsuc b) h = le→leb a b (omega (arith, nleb→lt b a h))

-- ---- a number added on both sides changes no test
int_le-suc : (a b : ℤ) → le_z (suc_ℤ a) (suc_ℤ b) ≡ le_z a b
int_le-suc (pos a) (pos b) = leb-suc-suc a b
int_le-suc (pos a) (negsuc zero) = leb-suc-zero a
int_le-suc (pos a) (negsuc (suc b)) = refl
int_le-suc (negsuc zero) (pos b) = leb-zero (suc b)
int_le-suc (negsuc zero) (negsuc zero) = refl
int_le-suc (negsuc zero) (negsuc (suc b)) = sym (leb-suc-zero b)
int_le-suc (negsuc (suc a)) (pos b) = refl
int_le-suc (negsuc (suc a)) (negsuc zero) = sym (leb-zero (suc a))
int_le-suc (negsuc (suc a)) (negsuc (suc b)) = sym (leb-suc-suc b a)

int_le-pred : (a b : ℤ) → le_z (pred_ℤ a) (pred_ℤ b) ≡ le_z a b
int_le-pred a b = sym (int_le-suc (pred_ℤ a) (pred_ℤ b)) ∙ λ i. le_z (suc-pred a i) (suc-pred b i)

pub int_le-shift : (c a b : ℤ) → le_z (a +ℤ c) (b +ℤ c) ≡ le_z a b
int_le-shift (pos zero) a b = λ i. le_z (+ℤ_idr a i) (+ℤ_idr b i)
int_le-shift (pos (suc n)) a b = (λ i. le_z (+ℤ-suc_ℤ a (pos n) i) (+ℤ-suc_ℤ b (pos n) i)) ∙ int_le-suc (a +ℤ pos n) (b +ℤ pos n) ∙ int_le-shift (pos n) a b
int_le-shift (negsuc zero) a b = (λ i. le_z (-ℤ_one a i) (-ℤ_one b i)) ∙ int_le-pred a b
int_le-shift (negsuc (suc n)) a b = (λ i. le_z (+ℤ-pred_ℤ a (negsuc n) i) (+ℤ-pred_ℤ b (negsuc n) i)) ∙ int_le-pred (a +ℤ negsuc n) (b +ℤ negsuc n) ∙ int_le-shift (negsuc n) a b

-- ---- the size of a sum
sub-size : (a b : ℕ) → nat_abs (sub_ℕ a b) ≤ a + b
sub-size a b = go (ltb a b) (ltb→lt a b)
  where
    go : (t : Bool) → (T t → a < b) → nat_abs (cond t (negsuc (b - suc a)) (pos (a - b))) ≤ a + b
    go true h = let l : a < b = h tt in omega arith
    go false h = omega arith

pub nat_abs-add : (i k : ℤ) → nat_abs (i +ℤ k) ≤ nat_abs i + nat_abs k
nat_abs-add (pos a) (pos b) = omega arith
nat_abs-add (pos a) (negsuc b) = sub-size a (suc b)
nat_abs-add (negsuc a) (pos b) = omega (arith, sub-size b (suc a))
nat_abs-add (negsuc a) (negsuc b) = omega arith
