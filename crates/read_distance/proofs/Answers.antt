-- Each distance of an answer is read back at its place, and the call for distances leaves such an answer. Assumes nothing.
use mathlib.Core.Path.{◌≡◌, sym, ap, ◌∙◌, subst}
use mathlib.Core.Logic.{◌⊎◌, inl, inr}
use mathlib.Core.Bool.{Bool, cond}
use mathlib.Core.List.{List, ◌++◌, flat_map}
use Prim.Native.Nat.{ℕ, ◌+◌, ◌*◌, ◌≤◌, ◌<◌}
use native.Mathlib.Decide.{ℕ_discrete}
use native.Mathlib.Omega.{arith}
use lib.ListN.{length, take, drop, get_or, take-append-drop}
use lib.Seq.{take_all, take_at}
use borrow.Author.Tests.{le-ltb, lt-leb, eq-eqb}
use Rattle.tropical_weight.specs.Limits.{node_limit, weight_limit, sum_limit}
use Rattle.tropical_weight.specs.Tropical.{Within}
use Rattle.tropical_weight.proofs.Sums.{limits}
use Rattle.sheet.specs.Words.{word_length, word}
use Rattle.sheet.specs.Machine.{Machine, unit_in, machine}
use Rattle.sheet.proofs.Below.{split_at, get_or-list_below, length-list_below}
use Rattle.sheet.proofs.Bytes.{length-bytes_of_all}
use Rattle.sheet.proofs.Forms.{covered}
use Rattle.machine.specs.Distance.{Distance, unreached, as_weight, dist, distance, distances, height}
use Rattle.machine.specs.Input.{input_number}
use Rattle.machine.proofs.Named.{weight-of}
use Rattle.machine.proofs.Bounds.{dist-limit}
use Rattle.machine.proofs.Reached.{height-le}
use Rattle.machine.proofs.SheetFields.{fields-own}
use Rattle.distance.specs.Written.{written_length, written}
use Rattle.distance.proofs.Written.{length-written, value-at}
use Rattle.shortest_distance.specs.Outcome.{answer_of, distance_number, distance_answer, result_after}
use Rattle.shortest_distance.proofs.Outcomes.{number-input}
use Rattle.std.specs.Prelude.{Ok, Err}
use Rattle.sheet.proofs.Refusals.{answer-some}
use Rattle.sheet.specs.declared.refusal.Refusal.TheVariants.{NoAnswer, Absent}
use Rattle.read_distance.specs.Told.{words_tell, distance_told}
use Rattle.read_distance.specs.Promise.{as_told, Holds}
use Rattle.read_distance.proofs.Patterns.{written-told}

-- ---- the answer past its tests
pub told-words : (unit : ℕ) (result : List ℕ) (values node : ℕ) → written_length * values ≤ length result → node < values
    → words_tell unit (word result (written_length * node)) (word result (written_length * node + word_length)) ≡ distance_told unit result values node
told-words unit result values node long h =
    sym (λ i. cond (le-ltb (length result) (written_length * values) long i) (Err NoAnswer) (cond (lt-leb values node h i) (Err Absent) (words_tell unit (word result (written_length * node)) (word result (written_length * node + word_length)))))

-- ---- the bytes of an answer
answer-length : (sheet : List ℕ) → length (answer_of sheet) ≡ 8 * length (distances (machine sheet))
answer-length sheet =
    let unit = unit_in (machine sheet) in
    length-bytes_of_all (flat_map (written unit) (distances (machine sheet))) ∙ omega (arith, length-written unit (distances (machine sheet)))

-- ---- a result that begins with the distances of a sheet
module _ (sheet : List ℕ) (values : ℕ) (result : List ℕ) (h : Holds sheet values result) where
  abbrev m : Machine
  m = machine sheet

  sized : length (take (8 * values) result) ≡ 8 * values
  sized = ap length h.begins ∙ answer-length sheet ∙ ap (λ (n : ℕ). 8 * n) (sym h.count)

  pub long : 8 * values ≤ length result
  long = go (split_at (length result) (8 * values))
    where
      go : (length result < 8 * values) ⊎ (8 * values ≤ length result) → 8 * values ≤ length result
      go (inl k) = omega (arith, k, sized, ap length (take_all (8 * values) result (omega arith)))
      go (inr k) = k

  split : result ≡ answer_of sheet ++ drop (8 * values) result
  split = sym (take-append-drop (8 * values) result) ∙ ap (λ (l : List ℕ). l ++ drop (8 * values) result) h.begins

  count-is : values ≡ height m
  unfolding distances
  count-is = h.count ∙ length-list_below (height m) (distance m)

  module _ (v : ℕ) (b : v < values) where
    value-is : get_or (distances m) v unreached ≡ distance m v
    unfolding distances
    value-is = get_or-list_below (height m) (distance m) v unreached (subst (λ (n : ℕ). v < n) count-is b)

    word-is : (i : ℕ) → i < 2 → word result (8 * v + 4 * i) ≡ get_or (written (unit_in m) (distance m v)) i 0
    word-is i c =
        ap (λ (l : List ℕ). word l (8 * v + 4 * i)) split
        ∙ value-at (unit_in m) (covered m.form) (distances m) (drop (8 * values) result) v i (subst (λ (n : ℕ). v < n) h.count b) c
        ∙ ap (λ (d : Distance). get_or (written (unit_in m) d) i 0) value-is

    within : Within sum_limit (as_weight (distance m v))
    within =
        let f = fields-own sheet h.accepted in
        subst (Within sum_limit) (sym (weight-of (dist m v))) (dist-limit m f.climbs weight_limit f.small node_limit limits f.few-nodes v (omega (arith, count-is, height-le m)))

    pub read_back : distance_told (unit_in m) result values v ≡ as_told (distance m v)
    read_back =
        sym (told-words (unit_in m) result values v long b)
        ∙ (λ i. words_tell (unit_in m) ((ap (word result) (let z : 8 * v ≡ 8 * v + 4 * 0 = omega arith in z) ∙ word-is 0 (omega arith)) i) (word-is 1 (omega arith) i))
        ∙ written-told (unit_in m) (covered m.form) (distance m v) within

-- ---- the call for distances leaves one
module _ (sheet : List ℕ) (words : ℕ) (old : List ℕ) (values : ℕ) (answer : distance_answer sheet words (length old) ≡ Ok values) where
  abbrev number : ℕ
  number = distance_number sheet words (length old)

  counted : (number ≡ 0) × (values ≡ length (distances (machine sheet)))
  counted = answer-some (length (distances (machine sheet))) number values (sym answer)

  pub holds_after : Holds sheet values (result_after sheet words old)
  holds_after = record {
    accepted = elim (ℕ_discrete (input_number sheet) 0) [ yes q ↦ q | no n ↦ sym (number-input sheet words (length old) n) ∙ counted.0 ];
    count = counted.1;
    begins =
        let answered = answer_of sheet ++ drop (length (answer_of sheet)) old in
        ap (λ (b : Bool). take (8 * values) (cond b answered old)) (eq-eqb number 0 counted.0)
        ∙ take_at (answer_of sheet) (drop (length (answer_of sheet)) old) (8 * values) (answer-length sheet ∙ ap (λ (n : ℕ). 8 * n) (sym counted.1));
  }
