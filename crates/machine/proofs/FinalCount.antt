-- The number of final nodes, a node at a time. Assumes nothing.
use mathlib.Core.Path.{◌≡◌, refl, ap, ◌∙◌}
use mathlib.Core.Logic.{◌⊎◌, inl, inr}
use mathlib.Core.Bool.{Bool, true, false, cond}
use mathlib.Core.Option.{Option, none, some}
use mathlib.Core.List.{List, [], ◌∷◌, ◌++◌}
use Prim.Native.Nat.{ℕ, zero, suc, ◌+◌, ◌≤◌, ◌<◌}
use native.Mathlib.Nat.{le_of_eq, eq-or-lt_of_le}
use native.Mathlib.Omega.{arith}
use lib.Dec.{eqb}
use borrow.Author.Tests.{eq-eqb, ne_eqb}
use Rattle.tropical_weight.specs.Tropical.{Tropical}
use Rattle.sheet.specs.Below.{sum_below, list_below}
use Rattle.sheet.specs.Machine.{weight_of, final_of}
use Rattle.sheet.specs.Records.{mark_at, final_at}
use Rattle.machine.specs.Readings.{marked}
use Rattle.machine.specs.Finals.{final_count}

marked_append : (fs gs : List (Option Tropical)) → marked (fs ++ gs) ≡ marked fs + marked gs
unfolding marked
marked_append [] gs = omega arith
marked_append (none ∷ fs) gs = marked_append fs gs
marked_append (some w ∷ fs) gs = omega (arith, marked_append fs gs)

module _ (bytes : List ℕ) (T : ℕ) where
  pub count_none : final_count bytes T 0 ≡ 0
  unfolding sum_below
  count_none = refl

  -- node v, by its mark
  count_next : (v : ℕ) (b : Bool) → eqb (mark_at bytes T v) 0 ≡ b → final_count bytes T (suc v) ≡ final_count bytes T v + cond b 0 1
  unfolding sum_below
  count_next v b e = ap (λ (t : Bool). final_count bytes T v + cond t 0 1) e

  -- they are the nodes with a final weight, in whatever unit
  pub count-marked : (j n : ℕ) → marked (list_below n (λ v. final_of j (mark_at bytes T v) (final_at bytes T v))) ≡ final_count bytes T n
  unfolding sum_below list_below marked
  count-marked j zero = refl
  count-marked j (suc v) =
      marked_append (list_below v (λ u. final_of j (mark_at bytes T u) (final_at bytes T u))) (final_of j (mark_at bytes T v) (final_at bytes T v) ∷ [])
      ∙ λ i. count-marked j v i + one (eqb (mark_at bytes T v) 0) i
    where
      one : (b : Bool) → marked (cond b none (some (weight_of j (final_at bytes T v))) ∷ []) ≡ cond b 0 1
      one true = refl
      one false = refl

  -- where u is the node after v
  module _ (v u : ℕ) (after : u ≡ suc v) where
    pub count-plain : mark_at bytes T v ≡ 0 → final_count bytes T u ≡ final_count bytes T v
    count-plain e = ap (final_count bytes T) after ∙ omega (arith, count_next v true (eq-eqb (mark_at bytes T v) 0 e))

    pub count-final : (mark_at bytes T v ≡ 0 → ⊥) → final_count bytes T u ≡ final_count bytes T v + 1
    count-final n = ap (final_count bytes T) after ∙ omega (arith, count_next v false (ne_eqb (mark_at bytes T v) 0 n))

  pub count_most : (n : ℕ) → final_count bytes T n ≤ n
  count_most zero = omega (arith, count_none)
  count_most (suc n) = go (eqb (mark_at bytes T n) 0) refl (count_most n)
    where
      go : (b : Bool) → eqb (mark_at bytes T n) 0 ≡ b → final_count bytes T n ≤ n → final_count bytes T (suc n) ≤ suc n
      go true e h = omega (arith, count_next n true e)
      go false e h = omega (arith, count_next n false e)

  -- no more among the first nodes than among all
  pub count-mono : (v n : ℕ) → v ≤ n → final_count bytes T v ≤ final_count bytes T n
  count-mono v zero h = omega (arith, ap (final_count bytes T) (let z : v ≡ 0 = omega arith in z))
  count-mono v (suc n) h = go (eq-or-lt_of_le h) (count-mono v n)
    where
      go : (v ≡ suc n) ⊎ (v < suc n) → (v ≤ n → final_count bytes T v ≤ final_count bytes T n) → final_count bytes T v ≤ final_count bytes T (suc n)
      go (inl e) r = le_of_eq (ap (final_count bytes T) e)
      go (inr l) r = let k : final_count bytes T v ≤ final_count bytes T n = r (omega arith) in omega (arith, count_next n (eqb (mark_at bytes T n) 0) refl)
