-- The outcome by the number of the first test that fails. Assumes nothing.
use mathlib.Core.Path.{◌≡◌, refl, sym, ap, ◌∙◌}
use mathlib.Core.Logic.{inl}
use mathlib.Core.Bool.{Bool, true, false, not, cond}
use mathlib.Core.List.{List}
use Prim.Native.Nat.{ℕ, ◌≤◌, ◌<◌}
use lib.Dec.{ltb, eqb}
use lib.ListN.{length}
use lib.Seq.{sets}
use native.Mathlib.Omega.{arith}
use borrow.Author.Tests.{lt-ltb, le-ltb, eqb-true}
use Rattle.std.specs.Prelude.{Ok, Err}
use Rattle.sheet.specs.declared.refusal.Refusal.{Refusal}
use Rattle.sheet.specs.Refusals.{number_of}
use Rattle.sheet.specs.Sheet.{unit_of, form_of}
use Rattle.sheet.specs.Machine.{machine}
use Rattle.sheet.proofs.Refusals.{answer-made, answer-none, over-refused, over-stored, Known, known, known-cond, first-passed, first-failed}
use Rattle.machine.specs.Input.{input_number}
use Rattle.machine.proofs.Machines.{input-known}
use Rattle.product.specs.Refusals.{product_number}
use Rattle.product.proofs.Numbers.{product-known}
use Rattle.two_probes.specs.Outcome.{answer_of, one_unit, second_number, both_number, both_answer, both_over}

-- ---- the second sheet's number: its 1, then 14 where the units differ, then its own
module _ (first second : List ℕ) where
  pub second-known : Known (second_number first second)
  unfolding second_number
  second-known =
      known-cond (eqb (input_number second) 1) 1 _ (known Refusal.Layout)
      (known-cond (one_unit first second) (input_number second) 14 (input-known second) (known Refusal.Unit))

  -- of one unit its own
  pub second-own : one_unit first second ≡ true → second_number first second ≡ input_number second
  unfolding second_number
  second-own e = ap (λ (b : Bool). cond (eqb (input_number second) 1) 1 (cond b (input_number second) 14)) e ∙ go (eqb (input_number second) 1) refl
    where
      go : (b : Bool) → eqb (input_number second) 1 ≡ b → cond b 1 (input_number second) ≡ input_number second
      go true q = sym (eqb-true (input_number second) 1 q)
      go false q = refl

  -- of two 1 or 14
  pub second-other : one_unit first second ≡ false → second_number first second ≡ cond (eqb (input_number second) 1) 1 14
  unfolding second_number
  second-other e = ap (λ (b : Bool). cond (eqb (input_number second) 1) 1 (cond b (input_number second) 14)) e

  pub second-passed : input_number second ≡ 0 → one_unit first second ≡ true → second_number first second ≡ 0
  second-passed i e = second-own e ∙ i

  -- 0 where it passes its tests, and the units are one
  pub second-zero : second_number first second ≡ 0 → (input_number second ≡ 0) × (unit_of (form_of first) ≡ unit_of (form_of second))
  unfolding second_number
  second-zero e = go (eqb (input_number second) 1) (one_unit first second) refl e
    where
      go : (b t : Bool) → one_unit first second ≡ t → cond b 1 (cond t (input_number second) 14) ≡ 0 → (input_number second ≡ 0) × (unit_of (form_of first) ≡ unit_of (form_of second))
      go true t q h = absurd (omega (arith, h))
      go false true q h = (h, eqb-true (unit_of (form_of first)) (unit_of (form_of second)) q)
      go false false q h = absurd (omega (arith, h))

module _ (first second : List ℕ) (room : ℕ) where
  pub number-known : Known (both_number first second room)
  unfolding both_number
  number-known =
      known-cond (not (eqb (input_number first) 0)) (input_number first) _ (input-known first)
      (known-cond (not (eqb (second_number first second) 0)) (second_number first second) _ (second-known first second)
      (known-cond (not (eqb (product_number (machine first) (machine second)) 0)) (product_number (machine first) (machine second)) _ (product-known (machine first) (machine second))
      (known-cond (ltb room (length (answer_of first second))) 21 0 (known Refusal.Room) (inl refl))))

  pub number-first : (r : Refusal) → input_number first ≡ number_of r → both_number first second room ≡ number_of r
  unfolding both_number
  number-first r e = first-failed (input_number first) _ r e

  module _ (i : input_number first ≡ 0) where
    pub number-second : (r : Refusal) → second_number first second ≡ number_of r → both_number first second room ≡ number_of r
    unfolding both_number
    number-second r e = first-passed (input_number first) _ i ∙ first-failed (second_number first second) _ r e

    module _ (j : second_number first second ≡ 0) where
      -- two sheets of one unit that pass tests 1, 14 and 2 to 6: by the product's number, then by the room
      pub number-both : both_number first second room ≡ (let k = product_number (machine first) (machine second) in cond (not (eqb k 0)) k (cond (ltb room (length (answer_of first second))) 21 0))
      unfolding both_number
      number-both = first-passed (input_number first) _ i ∙ first-passed (second_number first second) _ j

      pub number-product : (r : Refusal) → product_number (machine first) (machine second) ≡ number_of r → both_number first second room ≡ number_of r
      number-product r e = number-both ∙ first-failed (product_number (machine first) (machine second)) _ r e

      module _ (k : product_number (machine first) (machine second) ≡ 0) where
        pub number-short : room < length (answer_of first second) → both_number first second room ≡ 21
        number-short h = number-both ∙ first-passed (product_number (machine first) (machine second)) _ k ∙ ap (λ (b : Bool). cond b 21 0) (lt-ltb room (length (answer_of first second)) h)

        pub number-made : length (answer_of first second) ≤ room → both_number first second room ≡ 0
        number-made h = number-both ∙ first-passed (product_number (machine first) (machine second)) _ k ∙ ap (λ (b : Bool). cond b 21 0) (le-ltb room (length (answer_of first second)) h)

-- ---- what is answered and what is left by the number
module _ (first second old : List ℕ) where
  module _ (r : Refusal) (e : both_number first second (length old) ≡ number_of r) where
    pub refused-answer : Err r ≡ both_answer first second (length old)
    refused-answer = answer-none (length (answer_of first second)) (both_number first second (length old)) r (sym e)

    pub refused-over : old ≡ both_over first second old
    refused-over = over-refused (answer_of first second) old (both_number first second (length old)) r e

  module _ (e : both_number first second (length old) ≡ 0) where
    pub made-answer : (size : ℕ) → size ≡ length (answer_of first second) → Ok size ≡ both_answer first second (length old)
    made-answer size h = answer-made (length (answer_of first second)) (both_number first second (length old)) size h e

    pub made-over : length (answer_of first second) ≤ length old → sets old 0 (answer_of first second) ≡ both_over first second old
    made-over h = over-stored (answer_of first second) old (both_number first second (length old)) e h
