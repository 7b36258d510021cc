-- The sheet that a text that is not refused leaves in an area: the promise of the call. Assumes nothing.
use mathlib.Core.Path.{◌≡◌, refl, sym, ap, ◌∙◌}
use mathlib.Core.Bool.{Bool, true, false, not, cond, true≢false}
use Rattle.std.proofs.Common.{Option, None, Some}
use mathlib.Core.List.{List, ◌++◌}
use Prim.Native.Nat.{ℕ, ◌*◌, ◌^◌, ◌≤◌, ◌<◌}
use native.Mathlib.Omega.{arith}
use lib.Dec.{ltb}
use lib.ListN.{length, take, drop}
use lib.Seq.{sets, take_at}
use borrow.Author.Tests.{ltb-true}
use Rattle.sheet.specs.Sheet.{link_length, Parts, unit_fields, unit_fits, records_fit, verdict, parts_of, read_number, sheet_of}
use Rattle.sheet.specs.Machine.{machine_of, machine}
use Rattle.sheet.proofs.Apart.{both}
use Rattle.sheet.proofs.Writing.{length-sheet}
use Rattle.sheet.proofs.Forms.{unit-word}
use Rattle.sheet.proofs.Round.{Below, parts-back, number-back}
use Rattle.decimals.proofs.Storing.{sets-front}
use Rattle.text_rows.specs.Rows.{Row, read_rows, weights_pass}
use Rattle.text_rows.specs.Convert.{links_in, nodes_in, length_of, fields_hold, number_by, rows_number, parts_of_rows, rows_in, sheet_of_rows, sheet_over}
use Rattle.text_rows.specs.RowMachine.{machine_of_rows}
use Rattle.text_rows.specs.Written.{has_rows}
use Rattle.rows.specs.Answers.{sheet_answer, Made, NoText}
use Rattle.row_reader.specs.Surveying.{survey_in}
use Rattle.std.specs.Prelude.{Result, Ok}
use Rattle.sheet.specs.declared.refusal.Refusal.{Refusal}
use Rattle.row_reader.specs.declared.survey.Survey.{Survey}
use Rattle.text_rows.proofs.Filled.{named}
use Rattle.text_rows.proofs.Judged.{first-named, start_is, form-is, records-hold, length-is, verdict-is}
use Rattle.text_rows.proofs.HasRows.{text-has-rows}
use Rattle.text_rows.proofs.RowFits.{read-fit, links-below, nodes-below}
use Rattle.text_rows.proofs.RowMachines.{rows-machine}
use Rattle.rows.proofs.Judging.{Passed, rows_are, answer-long, over-long}

module _ (text : List ℕ) (s : Survey) (g : Passed text s) where
  abbrev rs : List Row
  rs = g.rows

  abbrev p : Parts
  p = parts_of_rows rs

  -- counts and offsets that fields hold
  pub few : (nodes_in rs < 4294967296) × (link_length * links_in rs < 4294967296)
  few = let h = both (ltb (nodes_in rs) (2 ^ 32)) (ltb (link_length * links_in rs) (2 ^ 32)) g.holds in (ltb-true (nodes_in rs) (2 ^ 32) h.0, ltb-true (link_length * links_in rs) (2 ^ 32) h.1)

  records-fit : records_fit p ≡ true
  records-fit = records-hold rs ∙ g.holds

  start-below : p.start < 4294967296
  start-below = omega (arith, start_is rs, first-named (nodes_in rs) rs (omega arith) (named rs), few.0)

  unit-in : Below 4294967296 (unit_fields p.form)
  unit-in = unit-word p.form (ap unit_fits (form-is rs))

  sheet-is : sheet_of_rows text ≡ sheet_of p
  unfolding sheet_of_rows
  sheet-is = ap (λ (qs : List Row). sheet_of (parts_of_rows qs)) (rows_are 0 text s g)

  pub sheet-length : length (sheet_of_rows text) ≡ length_of rs
  sheet-length = ap length sheet-is ∙ length-sheet p records-fit ∙ length-is rs

  parts_are : parts_of (sheet_of_rows text) ≡ p
  parts_are = ap parts_of sheet-is ∙ parts-back p records-fit (links-below rs (read-fit text rs g.read)) (nodes-below rs (omega (arith, few.1))) start-below unit-in

  accepted : read_number (sheet_of_rows text) ≡ 0
  accepted =
      ap read_number sheet-is
      ∙ number-back p records-fit (links-below rs (read-fit text rs g.read)) (nodes-below rs (omega (arith, few.1))) start-below unit-in
      ∙ ap (λ (b : Bool). verdict b p) records-fit ∙ verdict-is rs true g.weighs

  same : machine (sheet_of_rows text) ≡ machine_of_rows (rows_in text)
  same = ap machine_of parts_are ∙ rows-machine rs g.weighs few.0 ∙ ap machine_of_rows (sym (rows_are 0 text s g))

  has : has_rows (parts_of (sheet_of_rows text)) ≡ true
  has = ap has_rows parts_are ∙ text-has-rows text rs g.read

  -- where there is room
  pub made : (old new : List ℕ) → length_of rs ≤ length old → new ≡ sets old 0 (sheet_of_rows text)
      → (Ok (length_of rs) ≡ sheet_answer text (length old)) × ((new ≡ sheet_over text old) × ((size : ℕ) → ◌≡◌ {A = Result ℕ Refusal} (Ok (length_of rs)) (Ok size) → Made text size new))
  made old new room left = (
    answer-long (length old) text s g room,
    (
      left ∙ whole ∙ over-long (length old) text s g old refl room,
      λ size e. record {
        accepted = ap read_number (front size e) ∙ accepted;
        same = ap machine (front size e) ∙ same;
        written = ap (λ (bytes : List ℕ). has_rows (parts_of bytes)) (front size e) ∙ has;
      },
    ),
  )
    where
      whole : sets old 0 (sheet_of_rows text) ≡ sheet_of_rows text ++ drop (length (sheet_of_rows text)) old
      whole = sets-front old (sheet_of_rows text) (omega (arith, sheet-length))

      front : (size : ℕ) → ◌≡◌ {A = Result ℕ Refusal} (Ok (length_of rs)) (Ok size) → take size new ≡ sheet_of_rows text
      front size e = ap (take size) (left ∙ whole) ∙ take_at (sheet_of_rows text) (drop (length (sheet_of_rows text)) old) size (cc sheet-length)

-- ---- no text gives a sheet that has no rows
passed-zero : (text : List ℕ) (room : ℕ) → rows_number text room ≡ 0 → (s : Survey) × Passed text s
unfolding rows_number
passed-zero text room e = go (read_rows text) refl e
  where
    go : (o : Option (List Row)) → read_rows text ≡ o → number_by o room ≡ 0 → (s : Survey) × Passed text s
    go None q e = absurd (omega (arith, e))
    go (Some qs) q e = by (fields_hold qs) refl (weights_pass qs) refl e
      where
        by : (b : Bool) → fields_hold qs ≡ b → (c : Bool) → weights_pass qs ≡ c → ◌≡◌ {A = ℕ} (cond (not b) 1 (cond (not c) 4 (cond (ltb room (length_of qs)) 21 0))) 0 → (s : Survey) × Passed text s
        by false x c y e = absurd (omega (arith, e))
        by true x false y e = absurd (omega (arith, e))
        by true x true y e = (survey_in qs, record { rows = qs; read = q; holds = x; weighs = y; is = refl })

pub no_text : (bytes : List ℕ) → has_rows (parts_of bytes) ≡ false → NoText bytes
no_text bytes none_has text zero_number same_bytes =
    let g = passed-zero text (length bytes) zero_number in
    true≢false (sym (has text g.0 g.1) ∙ ap (λ (b : List ℕ). has_rows (parts_of b)) same_bytes ∙ none_has)
