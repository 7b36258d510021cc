-- The outcome of the call, by the way the code goes. Assumes nothing.
use mathlib.Core.Path.{◌≡◌, refl, sym, ap, ◌∙◌, subst}
use mathlib.Core.Bool.{Bool, true, false, ◌||◌, cond}
use mathlib.Core.List.{List, ◌++◌}
use Prim.Native.Nat.{ℕ, ◌*◌, ◌/◌, ◌≤◌, ◌<◌}
use native.Mathlib.Omega.{arith}
use lib.Dec.{ltb, eqb}
use lib.ListN.{length, drop}
use lib.Seq.{drop_at}
use borrow.Author.Tests.{lt-ltb, le-ltb, ltb-false, eqb-true, eqb-false}
use Rattle.tropical_weight.specs.Limits.{list_limit}
use Rattle.sheet.proofs.Apart.{not-zero, neither}
use Rattle.machine.specs.Input.{input_number}
use Rattle.slots.specs.Slots.{slot_length, cleared}
use Rattle.slots.proofs.Clearing.{cleared-same}
use Rattle.list_answer.specs.declared.Listed.{Listed}
use Rattle.std.specs.Prelude.{Result, Err}
use Rattle.sheet.specs.declared.refusal.Refusal.{Refusal}
use Rattle.sheet.specs.Refusals.{number_of, answer}
use Rattle.sheet.proofs.Refusals.{number-positive, answer-none, first-passed, first-kept}
use Rattle.list_answer.specs.ListAnswer.{listed_by, listed_in, listed_over}
use Rattle.shortest_path.specs.Outcome.{result_of, answer_of, slots_needed, tested_number, areas_number, list_number, counts_of, list_answer, work_after, result_after}

-- a part of so many slots put back leaves what is beyond it
pub beyond-part : (part work : List ℕ) (k j : ℕ) → k ≡ j → length part ≡ slot_length * k → drop (slot_length * j) (part ++ drop (slot_length * k) work) ≡ drop (slot_length * j) work
beyond-part part work k j e size = subst (λ (i : ℕ). drop (slot_length * i) (part ++ drop (slot_length * k) work) ≡ drop (slot_length * i) work) e (drop_at part (drop (slot_length * k) work) (slot_length * k) size)

-- ---- the number, by what was tested
module _ (bytes : List ℕ) (n last : ℕ) where
  pub tested-input : (input_number bytes ≡ 0 → ⊥) → tested_number bytes n last ≡ input_number bytes
  unfolding tested_number
  tested-input h = first-kept (input_number bytes) _ h

  tested-n : input_number bytes ≡ 0 → tested_number bytes n last ≡ cond (ltb list_limit n) 7 last
  unfolding tested_number
  tested-n e = first-passed (input_number bytes) _ e

  pub tested-seven : input_number bytes ≡ 0 → list_limit < n → tested_number bytes n last ≡ 7
  tested-seven e h = tested-n e ∙ ap (λ (b : Bool). cond b 7 last) (lt-ltb list_limit n h)

  pub tested-last : input_number bytes ≡ 0 → n ≤ list_limit → tested_number bytes n last ≡ last
  tested-last e h = tested-n e ∙ ap (λ (b : Bool). cond b 7 last) (le-ltb list_limit n h)

  -- what the number 0 tells
  pub tested-zero : tested_number bytes n last ≡ 0 → (input_number bytes ≡ 0) × (n ≤ list_limit)
  tested-zero z = let e = input-zero (eqb (input_number bytes) 0) refl in (e, n-few e (ltb list_limit n) refl)
    where
      input-zero : (b : Bool) → eqb (input_number bytes) 0 ≡ b → input_number bytes ≡ 0
      input-zero true q = eqb-true (input_number bytes) 0 q
      input-zero false q = sym (tested-input (eqb-false (input_number bytes) 0 q)) ∙ z

      n-few : input_number bytes ≡ 0 → (b : Bool) → ltb list_limit n ≡ b → n ≤ list_limit
      n-few e true q = let seven : ◌≡◌ {A = ℕ} 7 0 = sym (tested-n e ∙ ap (λ (b : Bool). cond b 7 last) q) ∙ z in absurd (omega (arith, seven))
      n-few e false q = ltb-false list_limit n q

module _ (bytes : List ℕ) (n words room : ℕ) where
  pub number-tested : list_number bytes n words room ≡ tested_number bytes n (areas_number bytes n words room)
  unfolding list_number
  number-tested = refl

  pub number-input : (input_number bytes ≡ 0 → ⊥) → list_number bytes n words room ≡ input_number bytes
  number-input h = number-tested ∙ tested-input bytes n (areas_number bytes n words room) h

  pub number-areas : input_number bytes ≡ 0 → n ≤ list_limit → list_number bytes n words room ≡ areas_number bytes n words room
  number-areas e h = number-tested ∙ tested-last bytes n (areas_number bytes n words room) e h

  pub number-zero : list_number bytes n words room ≡ 0 → (input_number bytes ≡ 0) × (n ≤ list_limit)
  number-zero z = tested-zero bytes n (areas_number bytes n words room) (sym number-tested ∙ z)

module _ (bytes : List ℕ) (n : ℕ) (work result : List ℕ) where
  pub record Outcome (told : Result Listed Refusal) (work' result' : List ℕ) : Type 0 where
    pub answer-is : told ≡ list_answer bytes n (length work) (length result)
    pub work-is : work' ≡ work_after bytes n work (length result)
    pub result-is : result' ≡ result_after bytes n (length work) result

  abbrev number : ℕ
  number = list_number bytes n (length work) (length result)

  -- what a number that refuses before the search leaves
  early : (r : Refusal) → (number_of r ≡ 21 → ⊥) → number ≡ number_of r → Outcome (Err r) work result
  early r b e = record {
    answer-is = answer-none (counts_of (result_of bytes n)) number r (sym e);
    work-is = sym (neither number _ work (λ z. number-positive r (sym e ∙ z)) (λ z. b (sym e ∙ z)));
    result-is = sym (not-zero number _ result (λ z. number-positive r (sym e ∙ z)));
  }

  pub outcome-input : (r : Refusal) → input_number bytes ≡ number_of r → number_of r ≤ 14 → Outcome (Err r) work result
  outcome-input r e b = early r (λ z. omega (arith, b, z)) (number-input bytes n (length work) (length result) (λ z. number-positive r (sym e ∙ z)) ∙ e)

  module _ (e : input_number bytes ≡ 0) where
    pub outcome-7 : list_limit < n → Outcome (Err Refusal.Count) work result
    outcome-7 h =
        early Refusal.Count (λ z. omega (arith, z))
        (number-tested bytes n (length work) (length result) ∙ tested-seven bytes n (areas_number bytes n (length work) (length result)) e h)

    module _ (few : n ≤ list_limit) where
      pub outcome-20 : length work / slot_length < slots_needed bytes n → Outcome (Err Refusal.Work) work result
      outcome-20 h =
          early Refusal.Work (λ z. omega (arith, z))
          (number-areas bytes n (length work) (length result) e few ∙ ap (λ (b : Bool). cond b 20 (cond (ltb (length result) (length (answer_of bytes n))) 21 0)) (lt-ltb (length work / slot_length) (slots_needed bytes n) h))

      -- ---- a list made in its slots, and those cleared
      module _ (slots : slots_needed bytes n ≤ length work / slot_length) (made : List ℕ) (beyond : drop (slot_length * slots_needed bytes n) made ≡ drop (slot_length * slots_needed bytes n) work) where
        abbrev short : Bool
        short = ltb (length result) (length (answer_of bytes n))

        number_is : number ≡ cond short 21 0
        number_is = number-areas bytes n (length work) (length result) e few ∙ ap (λ (b : Bool). cond b 20 (cond short 21 0)) (le-ltb (length work / slot_length) (slots_needed bytes n) slots)

        pub outcome-made : Outcome (listed_in (result_of bytes n) (length result)) (cleared (slots_needed bytes n) made) (listed_over (result_of bytes n) result)
        outcome-made = record {
          answer-is = by-room short ∙ sym (ap (answer (counts_of (result_of bytes n))) number_is);
          work-is = cleared-same (slots_needed bytes n) made work beyond ∙ both short ∙ sym (ap (λ (k : ℕ). cond (eqb k 0 || eqb k 21) (cleared (slots_needed bytes n) work) work) number_is);
          result-is = turned short ∙ sym (ap (λ (k : ℕ). cond (eqb k 0) (answer_of bytes n ++ drop (length (answer_of bytes n)) result) result) number_is);
        }
          where
            by-room : (b : Bool) → let r = result_of bytes n in listed_by b (length r.machine.finals) (length r.machine.links) r.taken ≡ answer (counts_of r) (cond b 21 0)
            by-room true = refl
            by-room false = refl

            both : (b : Bool) → cleared (slots_needed bytes n) work ≡ cond (eqb (cond b 21 0) 0 || eqb (cond b 21 0) 21) (cleared (slots_needed bytes n) work) work
            both true = refl
            both false = refl

            turned : (b : Bool) → cond b result (answer_of bytes n ++ drop (length (answer_of bytes n)) result) ≡ cond (eqb (cond b 21 0) 0) (answer_of bytes n ++ drop (length (answer_of bytes n)) result) result
            turned true = refl
            turned false = refl
