-- The outcome of the call, by the way the code goes. Assumes nothing.
use mathlib.Core.Path.{◌≡◌, refl, sym, ap, ◌∙◌, subst}
use mathlib.Core.Bool.{Bool, true, false, ◌||◌, cond}
use mathlib.Core.List.{List, ◌++◌, flat_map}
use Prim.Native.Nat.{ℕ, zero, suc, ◌*◌, ◌/◌, ◌≤◌, ◌<◌}
use native.Mathlib.Omega.{arith}
use lib.Dec.{ltb, eqb}
use lib.ListN.{length, drop}
use borrow.Author.Tests.{lt-ltb, le-ltb}
use Rattle.sheet.specs.declared.tr.Trailer.{Trailer}
use Rattle.sheet.specs.Below.{list_below}
use Rattle.sheet.specs.Records.{trailer_at}
use Rattle.sheet.specs.Sheet.{parts_of}
use Rattle.sheet.proofs.Fields.{read-fields}
use Rattle.sheet.proofs.Below.{length-list_below, flat-snoc}
use Rattle.sheet.proofs.Bytes.{length-bytes_of_all}
use Rattle.sheet.proofs.Apart.{not-zero, neither}
use Rattle.sheet.proofs.Sources.{machine-nodes}
use Rattle.sheet.specs.Machine.{unit_in, machine}
use Rattle.machine.specs.Distance as Named
use Rattle.machine.specs.Distance.{distance, distances, height}
use Rattle.machine.specs.Input.{input_number}
use Rattle.machine.proofs.SheetFields.{fields-for}
use Rattle.machine.proofs.Reached.{height-le}
use Rattle.distance.specs.Written.{written}
use Rattle.distance.specs.Held.{held, words_in}
use Rattle.distance.proofs.Words.{words-written}
use Rattle.distance.proofs.Written.{length-written}
use Rattle.std.specs.Prelude.{Result, Ok, Err}
use Rattle.sheet.specs.declared.refusal.Refusal.{Refusal}
use Rattle.sheet.specs.Refusals.{number_of, answer}
use Rattle.sheet.proofs.Refusals.{number-positive, answer-none, first-passed, first-kept}
use Rattle.slots.specs.Slots.{cleared}
use Rattle.shortest_distance.specs.NodeSlots.{distance_at, distance_words, length_in}
use Rattle.shortest_distance.specs.Handed.{handed, handed_by, handed_over}
use Rattle.shortest_distance.specs.Outcome.{answer_of, slots_needed, distance_number, distance_answer, work_after, result_after}
use Rattle.shortest_distance.specs.Sound.{Made}
use Rattle.slots.proofs.Clearing.{cleared-same}
use Rattle.shortest_distance.proofs.Lengths.{length-is}

-- ---- the words of slots that hold these distances are those they are written in
words_are : (unit : ℕ) (work : List ℕ) (f : ℕ → Named.Distance) (n : ℕ) → ((v : ℕ) → v < n → distance_at work v ≡ held unit (f v)) → distance_words work n ≡ flat_map (written unit) (list_below n f)
unfolding distance_words list_below flat_map
words_are unit work f zero h = refl
words_are unit work f (suc v) h =
    let word : words_in (distance_at work v) ≡ written unit (f v) = ap words_in (h v (omega arith)) ∙ words-written unit (f v) in
    (λ i. words_are unit work f v (λ u b. h u (omega arith)) i ++ word i) ∙ sym (flat-snoc (written unit) (list_below v f) (f v))

-- ---- eight bytes a distance
answer-bytes : (bytes : List ℕ) → length (answer_of bytes) ≡ 8 * length (distances (machine bytes))
answer-bytes bytes = length-bytes_of_all (flat_map (written (unit_in (machine bytes))) (distances (machine bytes))) ∙ omega (arith, length-written (unit_in (machine bytes)) (distances (machine bytes)))

-- ---- the number, by what was tested
module _ (bytes : List ℕ) (words : ℕ) (room : ℕ) where
  pub number-input : (input_number bytes ≡ 0 → ⊥) → distance_number bytes words room ≡ input_number bytes
  unfolding distance_number
  number-input n = first-kept (input_number bytes) _ n

  number-state : input_number bytes ≡ 0 → distance_number bytes words room ≡ cond (ltb (words / 8) (slots_needed bytes)) 20 (cond (ltb room (length (answer_of bytes))) 21 0)
  unfolding distance_number
  number-state e = first-passed (input_number bytes) _ e

-- a slot and eight bytes a node are enough
pub number-room : (bytes : List ℕ) (words room : ℕ) → input_number bytes ≡ 0 → 8 * slots_needed bytes ≤ words → 8 * slots_needed bytes ≤ room → distance_number bytes words room ≡ 0
unfolding distances
number-room bytes words room e s b =
    let few : length (answer_of bytes) ≤ room = omega (arith, b, answer-bytes bytes, length-list_below (height (machine bytes)) (distance (machine bytes)), height-le (machine bytes), machine-nodes (parts_of bytes)) in
    number-state bytes words room e
    ∙ ap {B = ℕ} (λ (t : Bool). cond t 20 (cond (ltb room (length (answer_of bytes))) 21 0)) (le-ltb (words / 8) (slots_needed bytes) (omega (arith, s)))
    ∙ ap {B = ℕ} (λ (t : Bool). cond t 21 0) (le-ltb room (length (answer_of bytes)) few)

-- what a number that refuses before the search leaves
module _ (bytes work result : List ℕ) where
  pub record Outcome (told : Result ℕ Refusal) (work' result' : List ℕ) : Type 0 where
    pub answer-is : told ≡ distance_answer bytes (length work) (length result)
    pub work-is : work' ≡ work_after bytes work (length result)
    pub result-is : result' ≡ result_after bytes (length work) result

  early : (r : Refusal) → (number_of r ≡ 21 → ⊥) → distance_number bytes (length work) (length result) ≡ number_of r → Outcome (Err r) work result
  early r b e =
      let k = distance_number bytes (length work) (length result) in record {
        answer-is = answer-none (length (distances (machine bytes))) k r (sym e);
        work-is = sym (neither k _ work (λ z. number-positive r (sym e ∙ z)) (λ z. b (sym e ∙ z)));
        result-is = sym (not-zero k _ result (λ z. number-positive r (sym e ∙ z)));
      }

  pub outcome-input : (r : Refusal) → input_number bytes ≡ number_of r → number_of r ≤ 14 → Outcome (Err r) work result
  outcome-input r e b = early r (λ z. omega (arith, b, z)) (number-input bytes (length work) (length result) (λ z. number-positive r (sym e ∙ z)) ∙ e)

  outcome-20 : input_number bytes ≡ 0 → length work / 8 < slots_needed bytes → Outcome (Err Refusal.Work) work result
  outcome-20 e h =
      early Refusal.Work (λ z. omega (arith, z))
      (number-state bytes (length work) (length result) e ∙ ap (λ (b : Bool). cond b 20 (cond (ltb (length result) (length (answer_of bytes))) 21 0)) (lt-ltb (length work / 8) (slots_needed bytes) h))

  -- ---- distances made, handed over and cleared
  module _ (e : input_number bytes ≡ 0) (slots : slots_needed bytes ≤ length work / 8) (made : List ℕ) (h : Made bytes work made) (n : ℕ) (height-same : n ≡ height (machine bytes)) where
    count_same : n ≡ length (distances (machine bytes))
    unfolding distances
    count_same = height-same ∙ sym (length-list_below (height (machine bytes)) (distance (machine bytes)))

    words_same : distance_words made n ≡ flat_map (written (unit_in (machine bytes))) (distances (machine bytes))
    unfolding distances
    words_same =
        ap (λ (k : ℕ). distance_words made k) height-same
        ∙ words_are (unit_in (machine bytes)) made (distance (machine bytes)) (height (machine bytes)) (λ v b. h.each v (omega (arith, height-le (machine bytes), machine-nodes (parts_of bytes))))

    answer-length : length (answer_of bytes) ≡ 8 * n
    answer-length = answer-bytes bytes ∙ ap (λ (k : ℕ). 8 * k) (sym count_same)

    number : distance_number bytes (length work) (length result) ≡ cond (ltb (length result) (length (answer_of bytes))) 21 0
    number = number-state bytes (length work) (length result) e ∙ ap (λ (b : Bool). cond b 20 (cond (ltb (length result) (length (answer_of bytes))) 21 0)) (le-ltb (length work / 8) (slots_needed bytes) slots)

    outcome-made : Outcome (handed n (length result)) (cleared (slots_needed bytes) made) (handed_over (distance_words made n) result)
    outcome-made = record {
      answer-is =
          ap (λ (k : ℕ). handed_by (ltb (length result) k) n) (sym answer-length)
          ∙ by-room (ltb (length result) (length (answer_of bytes)))
          ∙ sym (ap (λ (k : ℕ). answer (length (distances (machine bytes))) k) number);
      work-is =
          cleared-same (slots_needed bytes) made work h.beyond
          ∙ both (ltb (length result) (length (answer_of bytes)))
          ∙ sym (ap (λ (k : ℕ). cond (eqb k 0 || eqb k 21) (cleared (slots_needed bytes) work) work) number);
      result-is =
          ap (λ (ws : List ℕ). handed_over ws result) words_same
          ∙ turned (ltb (length result) (length (answer_of bytes)))
          ∙ sym (ap (λ (k : ℕ). cond (eqb k 0) (answer_of bytes ++ drop (length (answer_of bytes)) result) result) number);
    }
      where
        by-room : (b : Bool) → handed_by b n ≡ answer (length (distances (machine bytes))) (cond b 21 0)
        by-room true = refl
        by-room false = ap Ok count_same

        both : (b : Bool) → cleared (slots_needed bytes) work ≡ cond (eqb (cond b 21 0) 0 || eqb (cond b 21 0) 21) (cleared (slots_needed bytes) work) work
        both true = refl
        both false = refl

        turned : (b : Bool) → cond b result (answer_of bytes ++ drop (length (answer_of bytes)) result) ≡ cond (eqb (cond b 21 0) 0) (answer_of bytes ++ drop (length (answer_of bytes)) result) result
        turned true = refl
        turned false = refl

-- ---- as the code goes, by the fields of the trailer that reading found
module _ (bytes work result : List ℕ) (e : input_number bytes ≡ 0) (t : Trailer) (same : t ≡ trailer_at bytes) where
  nodes-same : t.nodes ≡ slots_needed bytes
  nodes-same = ap (λ (t : Trailer). t.nodes) same ∙ sym (read-fields bytes).nodes-are

  pub few-slots : length work / 8 < t.nodes → Outcome bytes work result (Err Refusal.Work) work result
  few-slots h = outcome-20 bytes work result e (subst (λ (n : ℕ). length work / 8 < n) nodes-same h)

  module _ (made : List ℕ) (is : Made bytes work made) (n : ℕ) (found : n ≡ length_in bytes t.links t.nodes made) where
    height-found : n ≡ height (machine bytes)
    height-found = found ∙ length-is bytes t.links t.nodes (machine bytes) (fields-for bytes e t same) made (λ v b. is.each v (subst (λ (k : ℕ). v < k) nodes-same b))

    pub height-low : n ≤ t.nodes
    height-low = omega (arith, height-found, height-le (machine bytes), (fields-for bytes e t same).nodes-are)

    pub handed-over : t.nodes ≤ length work / 8 → Outcome bytes work result (handed n (length result)) (cleared t.nodes made) (handed_over (distance_words made n) result)
    handed-over h =
        subst (λ (k : ℕ). Outcome bytes work result (handed n (length result)) (cleared k made) (handed_over (distance_words made n) result)) (sym nodes-same)
        (outcome-made bytes work result e (subst (λ (k : ℕ). k ≤ length work / 8) nodes-same h) made is n height-found)
