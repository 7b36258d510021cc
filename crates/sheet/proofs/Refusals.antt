-- An answer and its area by its number, the number by the answer, and the number of the first test that fails. Assumes nothing.
use mathlib.Core.Path.{◌≡◌, refl, sym, ap, ◌∙◌}
use mathlib.Core.Logic.{◌⊎◌, inl, inr}
use mathlib.Core.Bool.{Bool, true, false, not, cond}
use mathlib.Core.List.{List, ◌++◌}
use Prim.Native.Nat.{ℕ, ◌≤◌}
use native.Mathlib.Nat.{zero-add}
use native.Mathlib.Omega.{arith}
use lib.Dec.{eqb}
use lib.ListN.{length, drop}
use lib.Seq.{sets, sets-eq}
use borrow.Author.Tests.{eq-eqb, ne_eqb, eqb-true}
use Rattle.std.specs.Prelude.{Result, Ok, Err}
use Rattle.sheet.specs.declared.refusal.Refusal.{Refusal}
use Rattle.sheet.specs.Refusals.{number_of, refusal_of, answer_by, answer, answer_over, number_in}
use Rattle.sheet.proofs.Apart.{not-both}

-- ---- a refusal and its number
pub refusal-again : (r : Refusal) → refusal_of (number_of r) ≡ r
refusal-again Refusal.Layout = refl
refusal-again Refusal.Start = refl
refusal-again Refusal.Next = refl
refusal-again Refusal.Weight = refl
refusal-again Refusal.Limits = refl
refusal-again Refusal.Climb = refl
refusal-again Refusal.Count = refl
refusal-again Refusal.Rows = refl
refusal-again Refusal.NoRows = refl
refusal-again Refusal.Labels = refl
refusal-again Refusal.Product = refl
refusal-again Refusal.Sum = refl
refusal-again Refusal.Narrow = refl
refusal-again Refusal.Unit = refl
refusal-again Refusal.Work = refl
refusal-again Refusal.Room = refl
refusal-again Refusal.Queue = refl
refusal-again Refusal.NoAnswer = refl
refusal-again Refusal.Absent = refl

positive : (r : Refusal) → eqb (number_of r) 0 ≡ false
positive Refusal.Layout = refl
positive Refusal.Start = refl
positive Refusal.Next = refl
positive Refusal.Weight = refl
positive Refusal.Limits = refl
positive Refusal.Climb = refl
positive Refusal.Count = refl
positive Refusal.Rows = refl
positive Refusal.NoRows = refl
positive Refusal.Labels = refl
positive Refusal.Product = refl
positive Refusal.Sum = refl
positive Refusal.Narrow = refl
positive Refusal.Unit = refl
positive Refusal.Work = refl
positive Refusal.Room = refl
positive Refusal.Queue = refl
positive Refusal.NoAnswer = refl
positive Refusal.Absent = refl

pub number-positive : (r : Refusal) → number_of r ≡ 0 → ⊥
number-positive r e = not-both (eq-eqb (number_of r) 0 e) (positive r)

-- two refusals of one number are one
pub same-refusal : (r s : Refusal) → number_of r ≡ number_of s → r ≡ s
same-refusal r s e = sym (refusal-again r) ∙ ap refusal_of e ∙ refusal-again s

-- ---- an answer by its number
module _ {A : Type 0} (a : A) where
  pub answer-ok : (k : ℕ) → k ≡ 0 → answer a k ≡ Ok a
  answer-ok k e = ap (λ (n : ℕ). answer a n) e

  pub answer-refused : (r : Refusal) → answer a (number_of r) ≡ Err r
  answer-refused r = ap (λ (b : Bool). answer_by b a (number_of r)) (positive r) ∙ ap Err (refusal-again r)

  pub answer-err : (k : ℕ) (r : Refusal) → k ≡ number_of r → answer a k ≡ Err r
  answer-err k r e = ap (λ (n : ℕ). answer a n) e ∙ answer-refused r

  -- a value's number is 0, and the value is the one told
  pub answer-some : (k : ℕ) (x : A) → Ok x ≡ answer a k → (k ≡ 0) × (x ≡ a)
  answer-some k x = go (eqb k 0) refl
    where
      value : A → Result A Refusal → A
      value d (Ok y) = y
      value d (Err r) = d

      good : Result A Refusal → Bool
      good (Ok y) = true
      good (Err r) = false

      go : (b : Bool) → eqb k 0 ≡ b → Ok x ≡ answer_by b a k → (k ≡ 0) × (x ≡ a)
      go true e h = (eqb-true k 0 e, ap (value a) h)
      go false e h = absurd (not-both (sym (ap good h)) refl)

  -- what is refused, with another value in its place
  pub passed-on : {B : Type 0} (b : B) (k : ℕ) (r : Refusal) → Err r ≡ answer a k → Err r ≡ answer b k
  passed-on b k r = go (eqb k 0)
    where
      refused : Refusal → Result A Refusal → Refusal
      refused d (Ok y) = d
      refused d (Err s) = s

      good : Result A Refusal → Bool
      good (Ok y) = true
      good (Err s) = false

      go : (t : Bool) → Err r ≡ answer_by t a k → Err r ≡ answer_by t b k
      go true h = absurd (not-both refl (sym (ap good h)))
      go false h = ap Err (ap (refused r) h)

  -- a value of number 0
  pub answer-made : (k : ℕ) (x : A) → x ≡ a → k ≡ 0 → Ok x ≡ answer a k
  answer-made k x h e = ap Ok h ∙ sym (answer-ok k e)

-- ---- the area after an answer, by the number
module _ (bytes old : List ℕ) (k : ℕ) where
  pub over-refused : (r : Refusal) → k ≡ number_of r → old ≡ answer_over bytes k old
  over-refused r e = sym (ap (λ (b : Bool). cond b (bytes ++ drop (length bytes) old) old) (ne_eqb k 0 (λ z. number-positive r (sym e ∙ z))))

  pub over-made : k ≡ 0 → bytes ++ drop (length bytes) old ≡ answer_over bytes k old
  over-made e = sym (ap (λ (b : Bool). cond b (bytes ++ drop (length bytes) old) old) (eq-eqb k 0 e))

  -- as the bytes are stored from the first on
  pub over-stored : k ≡ 0 → length bytes ≤ length old → sets old 0 bytes ≡ answer_over bytes k old
  over-stored e h = sets-eq bytes old 0 (omega (arith, h)) ∙ ap (λ (n : ℕ). bytes ++ drop n old) (zero-add (length bytes)) ∙ over-made e

-- ---- numbers that answers have: 0, and those of refusals
abbrev pub Known : ℕ → Type 0
Known k = (k ≡ 0) ⊎ ((r : Refusal) × (k ≡ number_of r))

pub known-cond : (b : Bool) (x y : ℕ) → Known x → Known y → Known (cond b x y)
known-cond true x y p q = p
known-cond false x y p q = q

pub known : (r : Refusal) → Known (number_of r)
known r = inr (r, refl)

-- the number of an answer is the one that it was made by
pub number-told : {A : Type 0} (a : A) (k : ℕ) → Known k → number_in (answer a k) ≡ k
number-told a k (inl e) = ap number_in (answer-ok a k e) ∙ sym e
number-told a k (inr (r, e)) = ap number_in (answer-err a k r e) ∙ sym e

-- and an answer with that number is that one, but for the value
pub answer-none : {A : Type 0} (a : A) (k : ℕ) (r : Refusal) → number_of r ≡ k → Err r ≡ answer a k
answer-none a k r e = sym (answer-err a k r (sym e))

-- the number of what is refused
pub refusal-told : {A : Type 0} (a : A) (k : ℕ) → Known k → (r : Refusal) → Err r ≡ answer a k → k ≡ number_of r
refusal-told a k n r e = sym (number-told a k n) ∙ sym (ap number_in e)

-- ---- the number of the first test that fails: k, or that of the later tests where k is 0
module _ (k : ℕ) where
  pub first-passed : (x : ℕ) → k ≡ 0 → cond (not (eqb k 0)) k x ≡ x
  first-passed x e = ap (λ (b : Bool). cond (not b) k x) (eq-eqb k 0 e)

  pub first-kept : (x : ℕ) → (k ≡ 0 → ⊥) → cond (not (eqb k 0)) k x ≡ k
  first-kept x h = ap (λ (b : Bool). cond (not b) k x) (ne_eqb k 0 h)

  pub first-failed : (x : ℕ) (r : Refusal) → k ≡ number_of r → cond (not (eqb k 0)) k x ≡ number_of r
  first-failed x r e = first-kept x (λ z. number-positive r (sym e ∙ z)) ∙ e

  -- 0 where all pass
  pub first-zero : (x : ℕ) → cond (not (eqb k 0)) k x ≡ 0 → (k ≡ 0) × (x ≡ 0)
  first-zero x e = go (eqb k 0) refl e
    where
      go : (b : Bool) → eqb k 0 ≡ b → cond (not b) k x ≡ 0 → (k ≡ 0) × (x ≡ 0)
      go true q h = (eqb-true k 0 q, h)
      go false q h = absurd (not-both (eq-eqb k 0 h) q)

  -- where the test of the room comes last, another refusal's number is k,
  pub before-room : (short : Bool) (r : Refusal) → (number_of r ≡ 21 → ⊥) → cond (not (eqb k 0)) k (cond short 21 0) ≡ number_of r → k ≡ number_of r
  before-room short r other e = go (eqb k 0) short e
    where
      go : (b t : Bool) → cond (not b) k (cond t 21 0) ≡ number_of r → k ≡ number_of r
      go true true h = absurd (other (sym h))
      go true false h = absurd (number-positive r (sym h))
      go false t h = h

  -- and 21 is its own
  pub by-room : (short : Bool) → (k ≡ 21 → ⊥) → cond (not (eqb k 0)) k (cond short 21 0) ≡ 21 → (k ≡ 0) × (short ≡ true)
  by-room short other e = go (eqb k 0) short refl e
    where
      go : (b t : Bool) → eqb k 0 ≡ b → cond (not b) k (cond t 21 0) ≡ 21 → (k ≡ 0) × (t ≡ true)
      go true true q h = (eqb-true k 0 q, refl)
      go true false q h = absurd (omega (arith, h))
      go false t q h = absurd (other h)
