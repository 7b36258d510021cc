-- Laws of ⊕ along a list. Assumes nothing.
use mathlib.Core.Path.{◌≡◌, refl, sym, ap, ◌∙◌}
use mathlib.Core.Logic.{◌⊎◌, inl, inr}
use mathlib.Core.List.Memᴰ
use mathlib.Core.List.{List, [], ◌∷◌, ◌++◌, map}
use Prim.Native.Nat.{ℕ, suc}
use native.Mathlib.Omega.{arith}
use lib.IntN.{ℤ}
use Rattle.tropical_weight.specs.Tropical.{Tropical, fin, inf, ◌≼◌, ◌⊕◌, ◌⊗◌, Within}
use Rattle.tropical_weight.proofs.Semiring.{≼_trans, ≼-eq, ≼-inf, ⊕-left, ⊕-right, ⊕-either, ⊕-greatest, ⊕-assoc, ⊕-comm, zero-⊕, ⊗-⊕}
use Rattle.tropical_weight.proofs.Sums.{within-⊕}
use Rattle.sheet.specs.Below.{list_below}
use Rattle.machine.specs.Distance.{plus_all}
use Rattle.machine.specs.Demand.{◌∈◌}
use Rattle.machine.proofs.Lists.{here}

-- it is the greatest lower bound
pub plus_all-le : (l : List Tropical) {a : Tropical} → a ∈ l → plus_all l ≼ a
unfolding plus_all
plus_all-le [] h = absurd (Memᴰ.not-nil h)
plus_all-le (b ∷ l) {a} h = go (Memᴰ.cases_cons h) (λ q. plus_all-le l q)
  where
    go : (a ≡ b) ⊎ a ∈ l → (a ∈ l → plus_all l ≼ a) → b ⊕ plus_all l ≼ a
    go (inl e) ih = ≼_trans (⊕-left b (plus_all l)) (≼-eq (sym e))
    go (inr q) ih = ≼_trans (⊕-right b (plus_all l)) (ih q)

pub plus_all-greatest : (l : List Tropical) (b : Tropical) → ((a : Tropical) → a ∈ l → b ≼ a) → b ≼ plus_all l
unfolding plus_all
plus_all-greatest [] b f = ≼-inf b
plus_all-greatest (a ∷ l) b f = ⊕-greatest (f a (here a l)) (plus_all-greatest l b (λ x h. f x (Memᴰ.tail h)))

-- and where it is finite it is on the list
pub plus_all-in : (l : List Tropical) (k : ℤ) → plus_all l ≡ fin k → fin k ∈ l
unfolding plus_all
plus_all-in [] k e = let z : ◌≡◌ {A = ℕ} 0 1 = cc in absurd (omega arith)
plus_all-in (b ∷ l) k e = go (⊕-either b (plus_all l)) (plus_all-in l k)
  where
    go : (b ⊕ plus_all l ≡ b) ⊎ (b ⊕ plus_all l ≡ plus_all l) → (plus_all l ≡ fin k → fin k ∈ l) → fin k ∈ (b ∷ l)
    go (inl q) ih = Memᴰ.head (sym e ∙ q)
    go (inr q) ih = Memᴰ.tail (ih (sym q ∙ e))

pub plus_all-append : (l k : List Tropical) → plus_all (l ++ k) ≡ plus_all l ⊕ plus_all k
unfolding plus_all
plus_all-append [] k = sym (zero-⊕ (plus_all k))
plus_all-append (a ∷ l) k = ap (λ x. a ⊕ x) (plus_all-append l k) ∙ sym (⊕-assoc a (plus_all l) (plus_all k))

-- one value more
pub plus_all-next : (n : ℕ) (f : ℕ → Tropical) → plus_all (list_below (suc n) f) ≡ plus_all (list_below n f) ⊕ f n
unfolding list_below plus_all
plus_all-next n f = plus_all-append (list_below n f) (f n ∷ []) ∙ ap (λ x. plus_all (list_below n f) ⊕ x) (⊕-comm (f n) inf ∙ zero-⊕ (f n))

pub plus_all-⊗ : (l : List Tropical) (w : Tropical) → plus_all (map (λ a. a ⊗ w) l) ≡ plus_all l ⊗ w
unfolding plus_all
plus_all-⊗ [] w = refl
plus_all-⊗ (a ∷ l) w = ap (λ x. a ⊗ w ⊕ x) (plus_all-⊗ l w) ∙ sym (⊗-⊕ a (plus_all l) w)

pub plus_all-within : (n : ℕ) (l : List Tropical) → ((a : Tropical) → a ∈ l → Within n a) → Within n (plus_all l)
unfolding plus_all
plus_all-within n [] f = tt
plus_all-within n (a ∷ l) f = within-⊕ n a (plus_all l) (f a (here a l)) (plus_all-within n l (λ x h. f x (Memᴰ.tail h)))
