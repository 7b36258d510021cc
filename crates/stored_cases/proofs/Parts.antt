-- A list that is cut in two, whose second part is one mark everywhere. Assumes nothing.
use Rattle.std.proofs.Common.{◌≡◌, ℕ, ◌+◌, ◌-◌, ◌<◌, Bool, true, false, cond, List, length, get_or, refl, sym, ap, ◌∙◌, arith, ltb, ltb-true, ltb-false}
use Rattle.std.proofs.lemmas.List.{get_or-take, get_or-drop}
use Rattle.std.specs.List.{IsSplitAt}
use Rattle.std.specs.Prelude.{EachIndex}

module _ (all front back : List ℕ) (mid mark : ℕ) (cut : IsSplitAt all mid front back) (marked : EachIndex back (λ k. get_or back k 0 ≡ mark)) where
  -- what each place holds, by what the first part holds
  pub each-place : (value : ℕ → ℕ) → ((i : ℕ) → i < mid → get_or front i 0 ≡ value i) → (i : ℕ) → i < length all → get_or all i 0 ≡ cond (ltb i mid) (value i) mark
  each-place value first i l = go (ltb i mid) refl
    where
      go : (b : Bool) → ltb i mid ≡ b → get_or all i 0 ≡ cond b (value i) mark
      go true e =
          let h : i < mid = ltb-true i mid e in
          sym (get_or-take mid all i 0 h) ∙ sym (ap (λ (xs : List ℕ). get_or xs i 0) cut.1) ∙ first i h
      go false e =
          let k = i - mid in
          let back_at : mid + k ≡ i = omega (arith, ltb-false i mid e) in
          ap (λ (j : ℕ). get_or all j 0) (sym back_at)
          ∙ sym (get_or-drop mid all k 0)
          ∙ sym (ap (λ (xs : List ℕ). get_or xs k 0) cut.2)
          ∙ marked k (omega (arith, cut.4, back_at))
