-- States, one after the other. Assumes nothing.
use mathlib.Core.Path.{◌≡◌, refl, ap, ◌∙◌}
use mathlib.Core.List.{List, [], ◌∷◌, ◌++◌}
use Prim.Native.Nat.{ℕ, zero, suc, ◌+◌, ◌*◌}
use native.Mathlib.Numerals.{add-one}
use native.Mathlib.Omega.{arith}
use lib.ListN.{length}
use Rattle.list_answer.specs.ListAnswer.{state_words}

states-last : (k : ℕ) → state_words (suc k) ≡ state_words k ++ (1 ∷ 0 ∷ 0 ∷ [])
unfolding state_words
states-last zero = refl
states-last (suc k) = ap (λ (l : List ℕ). 1 ∷ 0 ∷ 0 ∷ l) (states-last k)

pub states-next : (k : ℕ) → state_words (k + 1) ≡ state_words k ++ (1 ∷ 0 ∷ 0 ∷ [])
states-next k = ap state_words (add-one k) ∙ states-last k

pub length-states : (k : ℕ) → length (state_words k) ≡ 3 * k
unfolding state_words
length-states zero = refl
length-states (suc k) = omega (arith, length-states k)
