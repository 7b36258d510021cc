-- What the calls that write a sheet's rows answer and leave, by the tests in their order. Assumes nothing.
use mathlib.Core.Path.{◌≡◌, refl, sym, ap, ◌∙◌}
use mathlib.Core.Bool.{Bool, true, false, not, ◌&&◌, cond}
use mathlib.Core.List.{List, ◌++◌}
use Prim.Native.Nat.{ℕ, ◌≤◌, ◌<◌}
use native.Mathlib.Omega.{arith}
use lib.Dec.{ltb, eqb}
use lib.ListN.{length, take, drop}
use lib.Seq.{sets, take_at}
use borrow.Author.Tests.{eq-eqb, ne_eqb, lt-ltb, le-ltb, eqb-true}
use Rattle.std.specs.Prelude.{Result, Ok, Err}
use Rattle.sheet.specs.declared.refusal.Refusal.{Refusal}
use Rattle.sheet.specs.declared.refusal.Refusal.TheVariants as Refusal
use Rattle.sheet.specs.Refusals.{number_of, number_in}
use Rattle.sheet.proofs.Refusals.{number-positive, answer-ok, answer-none, answer-some}
use Rattle.sheet.specs.Sheet.{Parts, parts_of, read_number, verdict, sizes_fit, nodes_fit, unit_fits, start_fits, nexts_fit, weights_fit, node_count}
use Rattle.sheet.proofs.Round.{Below}
use Rattle.text_rows.specs.Convert.{rows_number, sheet_of_rows}
use Rattle.text_rows.specs.Written.{has_rows, text_of, text_number, text_over}
use Rattle.rows.specs.Answers.{text_answer, text_measured, Returned, NoText}
use Rattle.rows.proofs.Making as Making
use Rattle.decimals.proofs.Storing.{sets-front}
use Rattle.text_rows.proofs.RowsBack.{written-number, sheet-back, text-number}

module _ (bytes : List ℕ) where
  abbrev p : Parts
  p = parts_of bytes

  -- ---- the number by the tests in their order
  module _ (room : ℕ) where
    number_read : (b : Bool) → eqb (read_number bytes) 0 ≡ b → text_number bytes room ≡ cond (not b) (read_number bytes) (cond (not (has_rows p)) 9 (cond (ltb room (length (text_of p))) 21 0))
    unfolding text_number
    number_read b e = ap (λ (c : Bool). cond (not c) (read_number bytes) (cond (not (has_rows p)) 9 (cond (ltb room (length (text_of p))) 21 0))) e

    number-has : read_number bytes ≡ 0 → (b : Bool) → has_rows p ≡ b → text_number bytes room ≡ cond (not b) 9 (cond (ltb room (length (text_of p))) 21 0)
    number-has e b h = number_read true (eq-eqb (read_number bytes) 0 e) ∙ ap (λ (c : Bool). cond (not c) 9 (cond (ltb room (length (text_of p))) 21 0)) h

    -- a sheet that is refused, and one that has no rows
    pub number-refused : (r : Refusal) → number_of r ≡ read_number bytes → text_number bytes room ≡ number_of r
    number-refused r e = number_read false (ne_eqb (read_number bytes) 0 (λ z. number-positive r (e ∙ z))) ∙ sym e

    pub number-none : read_number bytes ≡ 0 → has_rows p ≡ false → text_number bytes room ≡ 9
    number-none e h = number-has e false h

    -- one whose text can be written, where there is room and where there is none
    pub number-fits : read_number bytes ≡ 0 → has_rows p ≡ true → length (text_of p) ≤ room → text_number bytes room ≡ 0
    number-fits e h enough = number-has e true h ∙ ap (λ (b : Bool). cond b 21 0) (le-ltb room (length (text_of p)) enough)

    number-short : read_number bytes ≡ 0 → has_rows p ≡ true → room < length (text_of p) → text_number bytes room ≡ 21
    number-short e h short = number-has e true h ∙ ap (λ (b : Bool). cond b 21 0) (lt-ltb room (length (text_of p)) short)

  -- ---- 9 is said of sheets that have no rows, and of no others
  never-nine : read_number bytes ≡ 9 → ⊥
  unfolding read_number verdict
  never-nine = go (not (sizes_fit bytes && nodes_fit p)) (not (unit_fits p.form)) (not (start_fits (node_count p) p.start)) (not (nexts_fit p)) (not (weights_fit p))
    where
      go : (a u b c d : Bool) → ◌≡◌ {A = ℕ} (cond a 1 (cond u 14 (cond b 2 (cond c 3 (cond d 4 0))))) 9 → ⊥
      go true u b c d e = omega (arith, e)
      go false true b c d e = omega (arith, e)
      go false false true c d e = omega (arith, e)
      go false false false true d e = omega (arith, e)
      go false false false false true e = omega (arith, e)
      go false false false false false e = omega (arith, e)

  nine : (room : ℕ) → text_number bytes room ≡ 9 → has_rows p ≡ false
  nine room e = go (eqb (read_number bytes) 0) refl (has_rows p) refl (ltb room (length (text_of p))) refl
    where
      go : (a : Bool) → eqb (read_number bytes) 0 ≡ a → (b : Bool) → has_rows p ≡ b → (c : Bool) → ltb room (length (text_of p)) ≡ c → b ≡ false
      go false q b h c s = absurd (never-nine (sym (number_read room false q) ∙ e))
      go true q false h c s = refl
      go true q true h true s = absurd (omega (arith, sym (number-has room (eqb-true (read_number bytes) 0 q) true h ∙ ap (λ (c : Bool). cond c 21 0) s) ∙ e))
      go true q true h false s = absurd (omega (arith, sym (number-has room (eqb-true (read_number bytes) 0 q) true h ∙ ap (λ (c : Bool). cond c 21 0) s) ∙ e))

  -- ---- what a length that is told says of the sheet
  pub passed : (n : ℕ) → text_measured bytes ≡ Ok n
      → (read_number bytes ≡ 0) × (has_rows p ≡ true) × (n ≡ length (text_of p))
  passed n e =
      let told = answer-some (length (text_of p)) (text_number bytes (length (text_of p))) n (sym e) in
      let r = written-number bytes (length (text_of p)) told.0 in
      (r.0, r.1, told.1)

  -- ---- writing
  module _ (old : List ℕ) where
    -- what the call promises of its answer, and of the area that it leaves
    pub record Promise (r : Result ℕ Refusal) (new : List ℕ) : Type 0 where
      pub value : r ≡ text_answer bytes (length old)
      pub res_after : new ≡ text_over bytes old
      pub by_index : (size : ℕ) → r ≡ Ok size → Returned bytes size new
      pub no_text : r ≡ Err Refusal.NoRows → NoText bytes

    number-by : (r : Result ℕ Refusal) (x : Result ℕ Refusal) → r ≡ x → number_in r ≡ number_in x
    number-by r x = ap (λ (a : Result ℕ Refusal). number_in a)

    pub promise-refused : (r : Refusal) → text_number bytes (length old) ≡ number_of r → Promise (Err r) old
    promise-refused r e = record {
      value = answer-none (length (text_of p)) (text_number bytes (length old)) r (sym e);
      res_after = sym (ap (λ (b : Bool). cond b (text_of p ++ drop (length (text_of p)) old) old) (ne_eqb (text_number bytes (length old)) 0 (λ z. number-positive r (sym e ∙ z))));
      by_index = λ size h. absurd (number-positive r (number-by (Err r) (Ok size) h));
      no_text = λ h. Making.no_text bytes (nine (length old) (e ∙ number-by (Err r) (Err Refusal.NoRows) h));
    }

    -- by the room for a text that can be written
    module _ (read : read_number bytes ≡ 0) (has : has_rows p ≡ true) where
      pub promise-short : length old < length (text_of p) → Promise (Err Refusal.Room) old
      promise-short h = promise-refused Refusal.Room (number-short (length old) read has h)

      pub promise-written : (new : List ℕ) → Below 256 bytes → length (text_of p) ≤ length old → new ≡ sets old 0 (text_of p) → Promise (Ok (length (text_of p))) new
      promise-written new below h left =
          let zero_number = number-fits (length old) read has h in record {
            value = sym (answer-ok (length (text_of p)) (text_number bytes (length old)) zero_number);
            res_after = left ∙ sets-front old (text_of p) h ∙ sym (ap (λ (m : ℕ). cond (eqb m 0) (text_of p ++ drop (length (text_of p)) old) old) zero_number);
            by_index = λ size e. record {
              accepted = λ room r. ap (λ (text : List ℕ). rows_number text room) (front size e) ∙ text-number bytes below read has room ∙ ap (λ (b : Bool). cond b 21 0) (le-ltb room (length bytes) r);
              same = ap sheet_of_rows (front size e) ∙ sheet-back bytes below read has;
            };
            no_text = λ e. let z : ◌≡◌ {A = ℕ} 0 9 = number-by (Ok (length (text_of p))) (Err Refusal.NoRows) e in absurd (omega arith);
          }
        where
          front : (size : ℕ) → ◌≡◌ {A = Result ℕ Refusal} (Ok (length (text_of p))) (Ok size) → take size new ≡ text_of p
          front size e =
              let same : length (text_of p) ≡ size = cc in
              ap (take size) (left ∙ sets-front old (text_of p) h) ∙ take_at (text_of p) (drop (length (text_of p)) old) size same
