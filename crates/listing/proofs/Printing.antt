-- What is printed, by the way the code goes, and that its areas are long enough. Assumes nothing.
use mathlib.Core.Path.{◌≡◌, refl, sym, ap, ◌∙◌, subst}
use mathlib.Core.Bool.{Bool, true, false, cond}
use mathlib.Core.List.{List, [], ◌∷◌, ◌++◌}
use Prim.Native.Nat.{ℕ, zero, suc, ◌+◌, ◌-◌, ◌*◌, ◌≤◌, ◌<◌}
use native.Mathlib.Nat.{mul-le-mul_right}
use native.Mathlib.Omega.{arith}
use lib.Dec.{ltb, eqb}
use lib.ListN.{length, get_or, take, drop}
use lib.Seq.{drop-append_seam, take_all}
use borrow.Author.Tests.{lt-ltb, le-ltb, ne_eqb, eqb-true, eqb-false}
use Rattle.sheet.specs.Sheet.{link_length, node_length, long_trailer, trailer_length}
use Rattle.sheet.specs.Machine.{Machine, machine}
use Rattle.sheet.proofs.Forms.{size-least, size-most}
use Rattle.sheet.proofs.Round.{Below}
use Rattle.machine.specs.Input.{input_number}
use Rattle.machine.proofs.SheetFields.{sheet-fields}
use Rattle.machine.specs.Readings.{marked}
use Rattle.search.specs.ListMachine.{result_for}
use Rattle.search.proofs.Lists.{Accepted, accepted, marked-few}
use Rattle.search.proofs.Sizes.{result-length, zero-holds, one_holds, many-holds}
use Rattle.std.specs.Prelude.{Ok, Err}
use Rattle.sheet.specs.declared.refusal.Refusal.{Refusal}
use Rattle.sheet.specs.Refusals.{number_of, number_in, answer}
use Rattle.sheet.proofs.Refusals.{Known, number-told, answer-some}
use Rattle.machine.proofs.Machines.{input-known}
use Rattle.list_answer.specs.declared.Listed.{Listed}
use Rattle.shortest_path.specs.Outcome.{result_of, answer_of, slots_needed, tested_number, list_number, list_answer, result_after}
use Rattle.list_answer.proofs.SlotsNeeded.{slots-many}
use Rattle.shortest_path.proofs.Outcomes.{tested-input, tested-last, tested-zero, number-input, number-areas}
use Rattle.read_back.specs.Promise.{IsAnswer}
use Rattle.listing.specs.Text.{refused_line}
use Rattle.listing.specs.Printed.{sheet_most, list_most, listing_number, listing_text, listed_text, printed_for, printed}

-- ---- the number, by what was tested
module _ (n : ℕ) (sheet : List ℕ) where
  number-as : listing_number n sheet ≡ cond (ltb sheet_most (length sheet)) 20 (tested_number sheet n (cond (ltb list_most n) 20 0))
  unfolding listing_number
  number-as = refl

  number_short : length sheet ≤ sheet_most → listing_number n sheet ≡ tested_number sheet n (cond (ltb list_most n) 20 0)
  number_short h = number-as ∙ ap (λ (b : Bool). cond b 20 (tested_number sheet n (cond (ltb list_most n) 20 0))) (le-ltb sheet_most (length sheet) h)

  pub long-number : sheet_most < length sheet → listing_number n sheet ≡ 20
  long-number h = number-as ∙ ap (λ (b : Bool). cond b 20 (tested_number sheet n (cond (ltb list_most n) 20 0))) (lt-ltb sheet_most (length sheet) h)

  pub large-number : length sheet ≤ sheet_most → list_most < n → listing_number n sheet ≡ tested_number sheet n 20
  large-number h b = number_short h ∙ ap (λ (t : Bool). tested_number sheet n (cond t 20 0)) (lt-ltb list_most n b)

  pub few-number : length sheet ≤ sheet_most → n ≤ list_most → listing_number n sheet ≡ tested_number sheet n 0
  few-number h b = number_short h ∙ ap (λ (t : Bool). tested_number sheet n (cond t 20 0)) (le-ltb list_most n b)

  -- so what is printed
  refused-is : (k : ℕ) → (k ≡ 0 → ⊥) → listing_number n sheet ≡ k → printed_for n sheet ≡ refused_line k
  refused-is k h e = ap (λ (j : ℕ). cond (eqb j 0) (listing_text (machine sheet) n) (refused_line j)) e ∙ ap (λ (b : Bool). cond b (listing_text (machine sheet) n) (refused_line k)) (ne_eqb k 0 h)

  pub printed-long : sheet_most < length sheet → printed_for n sheet ≡ refused_line 20
  printed-long h = refused-is 20 (λ z. omega (arith, z)) (long-number h)

  pub printed-large : length sheet ≤ sheet_most → list_most < n → printed_for n sheet ≡ refused_line (tested_number sheet n 20)
  printed-large h b = refused-is (tested_number sheet n 20) (λ z. let passed = tested-zero sheet n 20 z in omega (arith, sym (tested-last sheet n 20 passed.0 passed.1) ∙ z)) (large-number h b)

  module _ (h : length sheet ≤ sheet_most) (b : n ≤ list_most) where
    pub printed-refused : (k : ℕ) → (k ≡ 0 → ⊥) → input_number sheet ≡ k → printed_for n sheet ≡ refused_line k
    printed-refused k ne e = refused-is k ne (few-number h b ∙ tested-input sheet n 0 (λ z. ne (sym e ∙ z)) ∙ e)

    pub printed-listed : input_number sheet ≡ 0 → listing_text (machine sheet) n ≡ printed_for n sheet
    printed-listed e = sym (ap (λ (j : ℕ). cond (eqb j 0) (listing_text (machine sheet) n) (refused_line j)) (few-number h b ∙ tested-last sheet n 0 e (omega arith)))

  -- and the list's text
  pub text-is : listing_number n sheet ≡ 0 → listing_text (machine sheet) n ≡ listed_text n sheet
  text-is e = sym (ap (λ (j : ℕ). cond (eqb j 0) (listing_text (machine sheet) n) []) e)

-- ---- the areas are long enough
abbrev pub work_words : ℕ
work_words = 10240

abbrev pub result_bytes_most : ℕ
result_bytes_most = 36864

module _ (sheet : List ℕ) (below : Below 256 sheet) (n : ℕ) (short : length sheet ≤ sheet_most) (few : n ≤ list_most) where
  abbrev m : Machine
  m = machine sheet

  module _ (e : input_number sheet ≡ 0) where
    a : Accepted m
    a = accepted sheet below e

    layout : link_length * length m.links + node_length * length m.finals + trailer_length m.form ≤ sheet_most
    layout = omega (arith, short, (sheet-fields sheet e).sized, (sheet-fields sheet e).links-are, (sheet-fields sheet e).nodes-are)

    product : n * (length m.links + 1) ≤ list_most * (length m.links + 1)
    product = mul-le-mul_right (length m.links + 1) few

    slots-few : slots_needed sheet n ≤ 1280
    slots-few = go n product
      where
        go : (n : ℕ) → n * (length m.links + 1) ≤ list_most * (length m.links + 1) → slots_needed sheet n ≤ 1280
        go zero p = omega arith
        go (suc zero) p = omega (arith, layout, size-least m.form)
        go (suc (suc k)) p = omega (arith, layout, size-least m.form, p, marked-few m.finals, slots-many (length m.finals) (length m.links) (marked m.finals) (suc (suc k)) (omega arith))

    -- a trailer is no longer than the longer one
    trailer-most : (n : ℕ) → trailer_length (result_for m n).machine.form ≤ long_trailer
    trailer-most n = size-most (result_for m n).machine.form

    size : length (answer_of sheet n) ≤ result_bytes_most
    size = go n few product
      where
        go : (n : ℕ) → n ≤ list_most → n * (length m.links + 1) ≤ list_most * (length m.links + 1) → length (answer_of sheet n) ≤ result_bytes_most
        go zero b p = let s = zero-holds m a in omega (arith, trailer-most 0, result-length (result_for m 0) s.storable, s.few-nodes, s.few-links)
        go (suc zero) b p = let s = one_holds m a in omega (arith, layout, size-least m.form, trailer-most 1, result-length (result_for m 1) s.storable, s.few-nodes, s.few-links)
        go (suc (suc k)) b p =
            let n = suc (suc k) in
            let s = many-holds m a n (omega arith) (omega arith) in
            omega (arith, layout, size-least m.form, trailer-most n, p, marked-few m.finals, result-length (result_for m n) s.storable, s.few-nodes, s.few-links)

    pub number-none : list_number sheet n work_words result_bytes_most ≡ 0
    number-none =
        number-areas sheet n work_words result_bytes_most e (omega (arith, few))
        ∙ ap {B = ℕ} (λ (b : Bool). cond b 20 (cond (ltb result_bytes_most (length (answer_of sheet n))) 21 0)) (le-ltb 1280 (slots_needed sheet n) slots-few)
        ∙ ap {B = ℕ} (λ (b : Bool). cond b 21 0) (le-ltb result_bytes_most (length (answer_of sheet n)) size)

  number-input-is : list_number sheet n work_words result_bytes_most ≡ input_number sheet
  number-input-is = go (eqb (input_number sheet) 0) refl
    where
      go : (b : Bool) → eqb (input_number sheet) 0 ≡ b → list_number sheet n work_words result_bytes_most ≡ input_number sheet
      go true q = let e = eqb-true (input_number sheet) 0 q in number-none e ∙ sym e
      go false q = number-input sheet n work_words result_bytes_most (eqb-false (input_number sheet) 0 q)

  -- ---- by what the call for lists answers
  pub refused-input : (made : Listed) (r : Refusal) → Err r ≡ answer made (list_number sheet n work_words result_bytes_most) → number_of r ≡ input_number sheet
  refused-input made r q =
      ap number_in q ∙ number-told made (list_number sheet n work_words result_bytes_most) (subst Known (sym number-input-is) (input-known sheet)) ∙ number-input-is

  pub record IsMade (nodes links taken : ℕ) : Type 0 where
    pub passed : input_number sheet ≡ 0
    pub nodes-are : nodes ≡ length (result_of sheet n).machine.finals
    pub links-are : links ≡ length (result_of sheet n).machine.links
    pub taken_is : taken ≡ (result_of sheet n).taken

  pub made-input : (made : Listed) → Ok made ≡ list_answer sheet n work_words result_bytes_most → IsMade made.nodes made.links made.taken
  made-input made q =
      let is = answer-some _ (list_number sheet n work_words result_bytes_most) made q in
      record { passed = sym number-input-is ∙ is.0; nodes-are = ap (λ (l : Listed). l.nodes) is.1; links-are = ap (λ (l : Listed). l.links) is.1; taken_is = ap (λ (l : Listed). l.taken) is.1 }

  -- the result area then holds the list
  pub held : (nodes links taken : ℕ) → IsMade nodes links taken → (old result : List ℕ) → length old ≡ result_bytes_most → result ≡ result_after sheet n work_words old → IsAnswer sheet n result nodes links
  held nodes links taken is old result size e = record {
    accepted = is.passed;
    few = omega (arith, few);
    bytes = whole ∙ ap (λ (l : List ℕ). answer_of sheet n ++ l) (sym (ap (drop (length (answer_of sheet n))) whole ∙ drop-append_seam (answer_of sheet n) (drop (length (answer_of sheet n)) old)));
    nodes-are = is.nodes-are;
    links-are = is.links-are;
  }
    where
      whole : result ≡ answer_of sheet n ++ drop (length (answer_of sheet n)) old
      whole =
          e ∙ ap (λ (k : ℕ). cond (eqb (list_number sheet n work_words k) 0) (answer_of sheet n ++ drop (length (answer_of sheet n)) old) old) size
          ∙ ap (λ (k : ℕ). cond (eqb k 0) (answer_of sheet n ++ drop (length (answer_of sheet n)) old) old) (number-none is.passed)

-- ---- all that was read
pub printed-none : (read : List ℕ) → length read ≡ 0 → refused_line 1 ≡ printed read
printed-none [] h = refl
printed-none (n ∷ sheet) h = absurd (omega (arith, h))

-- what follows the first byte
abbrev pub behind : List ℕ → List ℕ
behind read = take (length read - 1) (drop 1 read)

pub printed-some : (read : List ℕ) → (length read ≡ 0 → ⊥) → printed_for (get_or read 0 0) (behind read) ≡ printed read
printed-some [] h = absurd (h refl)
printed-some (n ∷ sheet) h = ap (printed_for n) (take_all (length (n ∷ sheet) - 1) sheet (omega arith))
