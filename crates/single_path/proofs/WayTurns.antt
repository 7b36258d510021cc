-- The best end and the way back from it, turn by turn of the loops. Assumes nothing.
use mathlib.Core.Path.{◌≡◌, refl, sym, ap, ◌∙◌}
use mathlib.Core.Bool.{Bool, cond}
use mathlib.Core.List.{List, [], ◌∷◌}
use Prim.Native.Nat.{ℕ, zero, suc, ◌+◌, ◌≤◌}
use native.Mathlib.Numerals.{add-one}
use native.Mathlib.Omega.{arith}
use lib.Ieee.{lt}
use Rattle.shortest_distance.specs.declared.parent.Parent.{Parent}
use Rattle.std.specs.Prelude.{Option, None, Some}
use Rattle.shortest_distance.specs.ParentWords.{by, parent_at}
use Rattle.single_path.specs.SingleWords.{total_value, Best, best_below, Falls, Traced, Back, on_from, way_back}

-- ---- the best end
module _ (bytes : List ℕ) (links : ℕ) (work : List ℕ) where
  -- one node more, by the test
  abbrev pub next : ℕ → Bool → Best
  next v b = cond b (record { end = Some v; least = total_value bytes links work v }) (best_below bytes links work v)

  pub best-next : (v : ℕ) (b : Bool) → lt (total_value bytes links work v) (best_below bytes links work v).least ≡ b → best_below bytes links work (v + 1) ≡ next v b
  unfolding best_below
  best-next v b e = ap (λ (k : ℕ). best_below bytes links work k) (add-one v) ∙ ap (next v) e

-- ---- the way back
module _ (work : List ℕ) (end : ℕ) (falls : Falls work end) where
  -- node 0 has no parent, as sources fall
  no-parent : (p : Option Parent) → parent_at work 0 ≡ p → p ≡ None
  no-parent None e = refl
  no-parent (Some p) e = absurd (omega (arith, falls.sources 0 p.link p.source (omega arith) e))

  -- more steps change nothing
  way-more : (f g v : ℕ) → v ≤ f → v ≤ g → v ≤ end → way_back work f v ≡ way_back work g v
  unfolding way_back
  way-more zero zero v a b h = refl
  way-more zero (suc g) v a b h =
      let z : v ≡ 0 = omega arith in
      sym (ap (λ (p : Option Parent). on_from p (way_back work g)) (ap (parent_at work) z ∙ no-parent (parent_at work 0) refl))
  way-more (suc f) zero v a b h =
      let z : v ≡ 0 = omega arith in
      ap (λ (p : Option Parent). on_from p (way_back work f)) (ap (parent_at work) z ∙ no-parent (parent_at work 0) refl)
  way-more (suc f) (suc g) v a b h = go (parent_at work v) refl (λ u p q r. way-more f g u p q r)
    where
      go : (p : Option Parent) → parent_at work v ≡ p → ((u : ℕ) → u ≤ f → u ≤ g → u ≤ end → way_back work f u ≡ way_back work g u) → on_from p (way_back work f) ≡ on_from p (way_back work g)
      go None e ih = refl
      go (Some p) e ih =
          let down = falls.sources v p.link p.source h e in
          ap (λ (r : List ℕ). p.link ∷ r) (ih p.source (omega arith) (omega arith) (omega arith))

  way_end : (v : ℕ) → parent_at work v ≡ None → way_back work v v ≡ []
  unfolding way_back
  way_end zero e = refl
  way_end (suc v) e = ap (λ (p : Option Parent). on_from p (way_back work v)) e

  way_step : (v l u : ℕ) → v ≤ end → parent_at work v ≡ by l u → way_back work v v ≡ l ∷ way_back work u u
  unfolding way_back
  way_step zero l u h e = absurd (omega (arith, falls.sources 0 l u h e))
  way_step (suc v) l u h e =
      let down = falls.sources (suc v) l u h e in
      ap (λ (p : Option Parent). on_from p (way_back work v)) e ∙ ap (λ (r : List ℕ). l ∷ r) (way-more v u u (omega arith) (omega arith) (omega arith))

-- by the parent that is read
pub back_is : (bytes work : List ℕ) (end : ℕ) → Traced bytes work end → (v : ℕ) → v ≤ end → Back bytes work v (parent_at work v)
back_is bytes work end x v h = go (parent_at work v) refl
  where
    go : (p : Option Parent) → parent_at work v ≡ p → Back bytes work v p
    go None e = way_end work end x.falls v e
    go (Some p) e = (x.falls.sources v p.link p.source h e, x.among v p.link p.source h e, way_step work end x.falls v p.link p.source h e)
