-- The number that a word holds, or none. Assumes nothing.
use mathlib.Core.Path.{◌≡◌, refl, sym, ap, ◌∙◌}
use mathlib.Core.Bool.{Bool, true, false, cond}
use Prim.Native.Nat.{ℕ}
use native.Mathlib.Omega.{arith}
use lib.Dec.{eqb}
use borrow.Author.Tests.{eq-eqb, ne_eqb, eqb-true, eqb-false}
use Rattle.std.specs.Prelude.{Option, None, Some}
use Rattle.slots.specs.Slots.{nothing, number_in}

module _ (w : ℕ) where
  pub number-none : w ≡ nothing → number_in w ≡ None
  number-none e = ap (λ (t : Bool). cond t None (Some w)) (eq-eqb w nothing e)

  pub number-some : (w ≡ nothing → ⊥) → number_in w ≡ Some w
  number-some h = ap (λ (t : Bool). cond t None (Some w)) (ne_eqb w nothing h)

  pub none-number : number_in w ≡ None → w ≡ nothing
  none-number e = go (eqb w nothing) refl e
    where
      go : (t : Bool) → eqb w nothing ≡ t → cond t None (Some w) ≡ None → w ≡ nothing
      go true q r = eqb-true w nothing q
      go false q r = absurd (cc)

  pub some-number : (k : ℕ) → number_in w ≡ Some k → (w ≡ k) × (w ≡ nothing → ⊥)
  some-number k e = go (eqb w nothing) refl e
    where
      go : (t : Bool) → eqb w nothing ≡ t → cond t None (Some w) ≡ Some k → (w ≡ k) × (w ≡ nothing → ⊥)
      go true q r = absurd (cc)
      go false q r = (cc, eqb-false w nothing q)
