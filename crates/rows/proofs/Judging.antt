-- What the survey and the search for second final rows say together: the tests 8, 1 and 4 of a text, and what the calls answer by them. Assumes nothing.
use mathlib.Core.Path.{◌≡◌, refl, sym, ap, ◌∙◌}
use mathlib.Core.Bool.{Bool, true, false, not, ◌&&◌, cond}
use Rattle.std.proofs.Common.{Option, None, Some}
use mathlib.Core.List.{List, ◌++◌}
use Prim.Native.Nat.{ℕ, ◌+◌, ◌*◌, ◌^◌, ◌≤◌, ◌<◌}
use native.Mathlib.Omega.{arith}
use lib.Dec.{ltb, eqb}
use lib.ListN.{length, drop}
use borrow.Author.Tests.{ltb-true, lt-ltb, le-ltb, ne_eqb}
use Rattle.std.specs.Prelude.{Result, Ok, Err}
use Rattle.sheet.specs.declared.refusal.Refusal.{Refusal}
use Rattle.sheet.specs.declared.refusal.Refusal.TheVariants as Refusal
use Rattle.sheet.specs.Refusals.{number_of, number_in}
use Rattle.sheet.proofs.Refusals.{number-positive, answer-ok, answer-none}
use Rattle.text_rows.specs.Fields.{and_then}
use Rattle.text_rows.specs.Rows.{Row, read_rows, finals_once, weights_pass}
use Rattle.text_rows.specs.Convert.{links_in, nodes_in, length_of, fields_hold, number_by, rows_number, or_no_rows, rows_in, sheet_of_rows, sheet_over}
use Rattle.rows.specs.Answers.{sheet_answer}
use Rattle.row_reader.specs.Places.{rows_left}
use Rattle.row_reader.specs.FinalRows.{once_in}
use Rattle.row_reader.specs.Surveying.{survey_in, survey_rows, surveyed}
use Rattle.rows.specs.Judging.{judged_by, judged}
use Rattle.row_reader.specs.declared.survey.Survey.{Survey}
use Rattle.row_reader.proofs.Places.{rows-begin}
use Rattle.sheet.specs.Sheet.{short_trailer, link_length, node_length}

-- ---- the rows of a text that the survey has read
-- and the final rows: some rows, or none
abbrev once-read : Option (List Row) → Option (List Row)
once-read left = and_then left (λ rs. cond (finals_once rs) (Some rs) None)

module _ (text : List ℕ) where
  -- not read
  pub judged-unread : surveyed text ≡ None → Err Refusal.Rows ≡ judged text
  judged-unread e = ap judged_by (sym (rows-begin text ∙ go (ltb 0 (length text)) (rows_left text 0) e))
    where
      go : (b : Bool) (left : Option (List Row)) → cond b (survey_rows left) None ≡ None → cond b (once-read left) None ≡ None
      go false left e = refl
      go true None e = refl
      go true (Some rs) e = let z : ◌≡◌ {A = ℕ} 0 1 = cc in absurd (omega arith)

  module _ (s : Survey) (read : surveyed text ≡ Some s) where
    -- read, but a node has two final rows
    pub judged-twice : once_in (rows_left text 0) ≡ false → Err Refusal.Rows ≡ judged text
    judged-twice e = ap judged_by (sym (rows-begin text ∙ go (ltb 0 (length text)) (rows_left text 0) e))
      where
        go : (b : Bool) (left : Option (List Row)) → once_in left ≡ false → cond b (once-read left) None ≡ None
        go false left e = refl
        go true None e = refl
        go true (Some rs) e = ap (λ (c : Bool). cond c (Some rs) None) e

-- read, each node with one final row at the most
pub record Readable (text : List ℕ) (s : Survey) : Type 0 where
  pub rows : List Row
  pub read : read_rows text ≡ Some rows
  pub left : rows_left text 0 ≡ Some rows
  pub some_bytes : 0 < length text
  pub is : s ≡ survey_in rows

pub readable : (text : List ℕ) (s : Survey) → surveyed text ≡ Some s → once_in (rows_left text 0) ≡ true → Readable text s
readable text s e once = go (ltb 0 (length text)) refl (rows_left text 0) refl e once
  where
    go : (b : Bool) → ltb 0 (length text) ≡ b → (left : Option (List Row)) → rows_left text 0 ≡ left → cond b (survey_rows left) None ≡ Some s → once_in left ≡ true
        → Readable text s
    go false p left q e once = let z : ◌≡◌ {A = ℕ} 0 1 = cc in absurd (omega arith)
    go true p None q e once = let z : ◌≡◌ {A = ℕ} 0 1 = cc in absurd (omega arith)
    go true p (Some rs) q e once = record {
      rows = rs;
      read = rows-begin text ∙ (λ i. cond (p i) (once-read (q i)) None) ∙ ap (λ (c : Bool). cond c (Some rs) None) once;
      left = q;
      some_bytes = ltb-true 0 (length text) p;
      is = let z : survey_in rs ≡ s = cc in sym z;
    }

-- ---- and then 1 and 4
module _ (text : List ℕ) (s : Survey) (r : Readable text s) where
  abbrev rs : List Row
  rs = r.rows

  judged-is : judged text ≡ cond (not (fields_hold rs)) (Err Refusal.Layout) (cond (not (weights_pass rs)) (Err Refusal.Weight) (Ok (survey_in rs)))
  judged-is = ap judged_by r.read

  by-fields : (b : Bool) → fields_hold rs ≡ b → judged text ≡ cond (not b) (Err Refusal.Layout) (cond (not (weights_pass rs)) (Err Refusal.Weight) (Ok (survey_in rs)))
  by-fields b e = judged-is ∙ ap (λ (c : Bool). cond (not c) (Err Refusal.Layout) (cond (not (weights_pass rs)) (Err Refusal.Weight) (Ok (survey_in rs)))) e

  pub judged-high : s.highest ≡ 0xffff_ffff → Err Refusal.Layout ≡ judged text
  judged-high e = sym (by-fields false (ap (λ (b : Bool). b && ltb (link_length * links_in rs) (2 ^ 32)) (le-ltb (nodes_in rs) (2 ^ 32) (omega (arith, ap (λ (x : Survey). x.highest) r.is)))))

  pub judged-many : 0x1000_0000 ≤ s.links → Err Refusal.Layout ≡ judged text
  judged-many h = sym (by-fields false (off (ltb (nodes_in rs) (2 ^ 32)) ∙ refl))
    where
      off : (b : Bool) → b && ltb (link_length * links_in rs) (2 ^ 32) ≡ false
      off true = le-ltb (link_length * links_in rs) (2 ^ 32) (omega (arith, ap (λ (x : Survey). x.links) r.is))
      off false = refl

  module _ (low : s.highest < 0xffff_ffff) (few : s.links < 0x1000_0000) where
    holds : fields_hold rs ≡ true
    holds =
        λ i. lt-ltb (nodes_in rs) (2 ^ 32) (omega (arith, ap (λ (x : Survey). x.highest) r.is)) i && lt-ltb (link_length * links_in rs) (2 ^ 32) (omega (arith, ap (λ (x : Survey). x.links) r.is)) i

    by_weights : (b : Bool) → s.passing ≡ b → judged text ≡ cond (not b) (Err Refusal.Weight) (Ok (survey_in rs))
    by_weights b e = by-fields true holds ∙ ap (λ (c : Bool). cond (not c) (Err Refusal.Weight) (Ok (survey_in rs))) (sym (ap (λ (x : Survey). x.passing) r.is) ∙ e)

    pub judged-off : s.passing ≡ false → Err Refusal.Weight ≡ judged text
    judged-off e = sym (by_weights false e)

    pub judged-rows : s.passing ≡ true → Ok s ≡ judged text
    judged-rows e = ap (λ (x : Survey). Ok x) r.is ∙ sym (by_weights true e)

-- ---- what is known where nothing is refused
pub record Passed (text : List ℕ) (s : Survey) : Type 0 where
  pub rows : List Row
  pub read : read_rows text ≡ Some rows
  pub holds : fields_hold rows ≡ true
  pub weighs : weights_pass rows ≡ true
  pub is : s ≡ survey_in rows

pub passed : (text : List ℕ) (s : Survey) → Ok s ≡ judged text → Passed text s
passed text s e = go (read_rows text) refl e
  where
    go : (o : Option (List Row)) → read_rows text ≡ o → Ok s ≡ judged_by o → Passed text s
    go None q e = let z : ◌≡◌ {A = ℕ} 0 1 = cc in absurd (omega arith)
    go (Some rs) q e = by (fields_hold rs) refl (weights_pass rs) refl e
      where
        by : (b : Bool) → fields_hold rs ≡ b → (c : Bool) → weights_pass rs ≡ c → Ok s ≡ cond (not b) (Err Refusal.Layout) (cond (not c) (Err Refusal.Weight) (Ok (survey_in rs))) → Passed text s
        by false x c y e = let z : ◌≡◌ {A = ℕ} 0 1 = cc in absurd (omega arith)
        by true x false y e = let z : ◌≡◌ {A = ℕ} 0 1 = cc in absurd (omega arith)
        by true x true y e = record { rows = rs; read = q; holds = x; weighs = y; is = cc }

-- the length that the code works out
pub size_is : (text : List ℕ) (s : Survey) (g : Passed text s) → link_length * s.links + node_length * (s.highest + 1) + short_trailer ≡ length_of g.rows
size_is text s g = ap (λ (x : Survey). link_length * x.links + node_length * (x.highest + 1) + short_trailer) g.is

-- ---- what the calls answer
module _ (room : ℕ) where
  -- the number of a refusal is that of the tests, whatever the room
  number-refused : (o : Option (List Row)) (r : Refusal) → Err r ≡ judged_by o → number_by o room ≡ number_of r
  number-refused None r e = sym (ap (λ (x : Result Survey Refusal). number_in x) e)
  number-refused (Some rs) r e = by (fields_hold rs) (weights_pass rs) e
    where
      by : (b c : Bool) → Err r ≡ cond (not b) (Err Refusal.Layout) (cond (not c) (Err Refusal.Weight) (Ok (survey_in rs))) → cond (not b) 1 (cond (not c) 4 (cond (ltb room (length_of rs)) 21 0)) ≡ number_of r
      by false c e = sym (ap (λ (x : Result Survey Refusal). number_in x) e)
      by true false e = sym (ap (λ (x : Result Survey Refusal). number_in x) e)
      by true true e = absurd (number-positive r (ap (λ (x : Result Survey Refusal). number_in x) e))

  module _ (text : List ℕ) (r : Refusal) (e : Err r ≡ judged text) where
    number-told : rows_number text room ≡ number_of r
    unfolding rows_number
    number-told = number-refused (read_rows text) r e

    pub answer-refused : Err r ≡ sheet_answer text room
    answer-refused = answer-none (length_of (rows_in text)) (rows_number text room) r (sym number-told)

    pub over-refused : (old : List ℕ) → length old ≡ room → old ≡ sheet_over text old
    over-refused old l = sym (ap (λ (b : Bool). cond b (sheet_of_rows text ++ drop (length (sheet_of_rows text)) old) old) (ap (λ (n : ℕ). eqb (rows_number text n) 0) l ∙ ne_eqb (rows_number text room) 0 (λ z. number-positive r (sym number-told ∙ z))))

  module _ (text : List ℕ) (s : Survey) (p : Passed text s) where
    pub rows_are : rows_in text ≡ p.rows
    rows_are = ap or_no_rows p.read

    number_passed : rows_number text room ≡ cond (ltb room (length_of p.rows)) 21 0
    unfolding rows_number
    number_passed = ap (λ (o : Option (List Row)). number_by o room) p.read ∙ λ i. cond (not (p.holds i)) 1 (cond (not (p.weighs i)) 4 (cond (ltb room (length_of p.rows)) 21 0))

    pub number_short : room < length_of p.rows → rows_number text room ≡ 21
    number_short h = number_passed ∙ ap (λ (b : Bool). cond b 21 0) (lt-ltb room (length_of p.rows) h)

    pub number-long : length_of p.rows ≤ room → rows_number text room ≡ 0
    number-long h = number_passed ∙ ap (λ (b : Bool). cond b 21 0) (le-ltb room (length_of p.rows) h)

    pub answer-short : room < length_of p.rows → Err Refusal.Room ≡ sheet_answer text room
    answer-short h = answer-none (length_of (rows_in text)) (rows_number text room) Refusal.Room (sym (number_short h))

    pub over-short : (old : List ℕ) → length old ≡ room → room < length_of p.rows → old ≡ sheet_over text old
    over-short old l h = sym (ap (λ (n : ℕ). cond (eqb n 0) (sheet_of_rows text ++ drop (length (sheet_of_rows text)) old) old) (ap (rows_number text) l ∙ number_short h))

    pub answer-long : length_of p.rows ≤ room → Ok (length_of p.rows) ≡ sheet_answer text room
    answer-long h = (λ i. Ok (length_of (sym rows_are i))) ∙ sym (answer-ok (length_of (rows_in text)) (rows_number text room) (number-long h))

    pub over-long : (old : List ℕ) → length old ≡ room → length_of p.rows ≤ room → sheet_of_rows text ++ drop (length (sheet_of_rows text)) old ≡ sheet_over text old
    over-long old l h = sym (ap (λ (n : ℕ). cond (eqb n 0) (sheet_of_rows text ++ drop (length (sheet_of_rows text)) old) old) (ap (rows_number text) l ∙ number-long h))
