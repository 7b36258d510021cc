-- A sheet that has rows, written as text, is read as those rows, and they convert to that very sheet. Assumes nothing.
use mathlib.Core.Path.{◌≡◌, refl, sym, ap, ◌∙◌, subst}
use mathlib.Core.Logic.{inl, inr}
use mathlib.Core.Bool.{Bool, true, false, not, ◌&&◌, ◌||◌, cond}
use Rattle.std.proofs.Common.{Option, None, Some}
use mathlib.Core.List.{List, [], ◌∷◌, ◌++◌, flat_map, append-nil}
use Prim.Native.Nat.{ℕ, ◌+◌, ◌-◌, ◌*◌, ◌≤◌, ◌<◌}
use native.Mathlib.Omega.{arith}
use lib.Dec.{ltb, eqb}
use lib.IntN.{pos}
use lib.ListN.{length, get_or, take, drop, length-append}
use lib.Seq.{take-append_seam}
use borrow.Author.Tests.{eqb-true, le-ltb}
use Rattle.sheet.specs.declared.form.Form.{Form}
use Rattle.sheet.specs.Below.{list_below}
use Rattle.sheet.specs.Sheet.{link_length, node_length, Parts, form_of, trailer_size, unit_fits, link_count, node_count, ilabel, olabel, link_bits, next, count, mark, final_bits, nodes_fit, start_fits, nexts_fit, weights_fit, verdict, parts_of, sizes_fit, read_number, sheet_of, sheet_length, write_number, stated_links, stated_nodes}
use Rattle.sheet.proofs.Apart.{both}
use Rattle.sheet.proofs.Refusals.{first-zero}
use Rattle.sheet.proofs.Fields.{length-words, read-fields, read_fits, length-read}
use Rattle.sheet.proofs.Round.{Below, word_lt, words-below, bytes_back, number-again}
use Rattle.text_rows.specs.Fields.{Weight, finite, and_then, rows_of, ended, fields_of}
use Rattle.text_rows.specs.Rows.{Row, link, final, link_by, final_by, row_by, row_of, all_rows, finals_once, read_rows}
use Rattle.text_rows.specs.Convert.{parts_of_rows, or_no_rows, sheet_of_rows, sheet_over, rows_number, fields_hold}
use Rattle.decimals.specs.Decimal.{decimal}
use Rattle.text_rows.specs.Written.{field_text, and_number, and_weight, link_row, final_row, first_of, node_rows, text_of, is_short, has_own, is_led, has_rows, text_number, text_over}
use Rattle.text_rows.specs.RowsFor.{millionths, weight_for, link_row_for, final_row_for, node_rows_for, rows_for}
use Rattle.text_rows.proofs.Texts.{Plain, Lined, lined-append, lined-plain, plain-numeric, numeric-decimal, long-decimal, number-back, weight-back, plain-weight, long-weight, one_field, fields-more, Reads, reads_none, reads-append, reads-line, reads_all, Ends, ends-append, ends-line, ends-all}
use Rattle.text_rows.proofs.Back.{own-rows, rows-once, parts_again, weights-rows}
use Rattle.text_rows.proofs.Judged.{number_of_rows, rows-number}
use Rattle.text_rows.proofs.HasRows.{start-below, own-start, form-short}

-- ---- one row
plain-decimal : (n : ℕ) → Plain (decimal n)
plain-decimal n = plain-numeric (decimal n) (numeric-decimal n)

four-fields : (a b c d : ℕ) → fields_of (decimal a ++ and_number b ++ and_number c ++ and_number d) ≡ decimal a ∷ decimal b ∷ decimal c ∷ decimal d ∷ []
four-fields a b c d =
    fields-more (decimal a ++ and_number b ++ and_number c) (decimal d) (plain-decimal d) (long-decimal d)
    ∙ ap (λ (l : List (List ℕ)). l ++ (decimal d ∷ [])) (fields-more (decimal a ++ and_number b) (decimal c) (plain-decimal c) (long-decimal c)
    ∙ ap (λ (l : List (List ℕ)). l ++ (decimal c ∷ [])) (fields-more (decimal a) (decimal b) (plain-decimal b) (long-decimal b)
    ∙ ap (λ (l : List (List ℕ)). l ++ (decimal b ∷ [])) (one_field (decimal a) (plain-decimal a) (long-decimal a))))

none-zero : weight_for 0 ≡ finite (pos 0)
unfolding millionths
none-zero = refl

zero-weight : (bits : ℕ) → eqb bits 0 ≡ true → weight_for bits ≡ finite (pos 0)
zero-weight bits e = ap weight_for (eqb-true bits 0 e) ∙ none-zero

module _ (v : ℕ) (v-in : v < 4294967296) (bits : ℕ) where
  pub final-row : row_of (decimal v ++ and_weight bits) ≡ Some (final v (weight_for bits))
  unfolding row_by
  final-row = go (eqb bits 0) refl
    where
      go : (b : Bool) → eqb bits 0 ≡ b → row_by (fields_of (decimal v ++ cond b [] (9 ∷ field_text bits))) ≡ Some (final v (weight_for bits))
      go true e =
          ap (λ (l : List ℕ). row_by (fields_of l)) (append-nil (decimal v)) ∙ ap row_by (one_field (decimal v) (plain-decimal v) (long-decimal v))
          ∙ (λ j. final_by (number-back v v-in j) (Some (finite (pos 0)))) ∙ ap (λ (w : Weight). Some (final v w)) (sym (zero-weight bits e))
      go false e =
          ap row_by (fields-more (decimal v) (field_text bits) (plain-weight bits) (long-weight bits) ∙ ap (λ (l : List (List ℕ)). l ++ (field_text bits ∷ [])) (one_field (decimal v) (plain-decimal v) (long-decimal v)))
          ∙ (λ j. final_by (number-back v v-in j) (weight-back bits j))

  module _ (t i o : ℕ) (t-in : t < 4294967296) (i-in : i < 4294967296) (o-in : o < 4294967296) where
    pub link_row_lem : row_of (decimal v ++ and_number t ++ and_number i ++ and_number o ++ and_weight bits) ≡ Some (link v t i o (weight_for bits))
    unfolding row_by
    link_row_lem = go (eqb bits 0) refl
      where
        go : (b : Bool) → eqb bits 0 ≡ b → row_by (fields_of (decimal v ++ and_number t ++ and_number i ++ and_number o ++ cond b [] (9 ∷ field_text bits))) ≡ Some (link v t i o (weight_for bits))
        go true e =
            ap (λ (l : List ℕ). row_by (fields_of l)) (append-nil (decimal v ++ and_number t ++ and_number i ++ and_number o)) ∙ ap row_by (four-fields v t i o)
            ∙ (λ j. link_by (number-back v v-in j) (number-back t t-in j) (number-back i i-in j) (number-back o o-in j) (Some (finite (pos 0)))) ∙ ap (λ (w : Weight). Some (link v t i o w)) (sym (zero-weight bits e))
        go false e =
            ap row_by (fields-more (decimal v ++ and_number t ++ and_number i ++ and_number o) (field_text bits) (plain-weight bits) (long-weight bits) ∙ ap (λ (l : List (List ℕ)). l ++ (field_text bits ∷ [])) (four-fields v t i o))
            ∙ (λ j. link_by (number-back v v-in j) (number-back t t-in j) (number-back i i-in j) (number-back o o-in j) (weight-back bits j))

-- no newline within
lined-decimal : (n : ℕ) → Lined (decimal n)
lined-decimal n = lined-plain (decimal n) (plain-decimal n)

lined-number : (n : ℕ) → Lined (and_number n)
lined-number n = (refl, lined-decimal n)

lined-weight : (bits : ℕ) → Lined (and_weight bits)
lined-weight bits = go (eqb bits 0)
  where
    go : (b : Bool) → Lined (cond b [] (9 ∷ field_text bits))
    go true = tt
    go false = (refl, lined-plain (field_text bits) (plain-weight bits))

lined-link : (v t i o bits : ℕ) → Lined (decimal v ++ and_number t ++ and_number i ++ and_number o ++ and_weight bits)
lined-link v t i o bits =
    lined-append (decimal v ++ and_number t ++ and_number i ++ and_number o) (and_weight bits)
    (lined-append (decimal v ++ and_number t ++ and_number i) (and_number o)
    (lined-append (decimal v ++ and_number t) (and_number i) (lined-append (decimal v) (and_number t) (lined-decimal v) (lined-number t)) (lined-number i)) (lined-number o)) (lined-weight bits)

-- the rows of no text
no_text : all_rows (rows_of []) ≡ Some []
unfolding rows_of all_rows
no_text = refl

-- ---- all rows of parts that fit
module _ (p : Parts) (four : length p.links ≡ 4 * link_count p) (three : length p.nodes ≡ 3 * node_count p)
    (links-below : (i : ℕ) → get_or p.links i 0 < 4294967296) (nodes-below : (i : ℕ) → get_or p.nodes i 0 < 4294967296)
    (nodes-fit : nodes_fit p ≡ true) (nexts-fit : nexts_fit p ≡ true) (short : p.form ≡ Form.Short) (weights-fit : weights_fit p ≡ true) (start-in : p.start < node_count p) (few : node_count p < 4294967296) where
  abbrev N : ℕ
  N = node_count p

  reads-link : (v l : ℕ) → v < N → Reads (link_row p v l) (link_row_for p v l ∷ [])
  reads-link v l h =
      reads-line (decimal v ++ and_number (next p l) ++ and_number (ilabel p l) ++ and_number (olabel p l) ++ and_weight (link_bits p l)) (link_row_for p v l) (lined-link v (next p l) (ilabel p l) (olabel p l) (link_bits p l))
      (link_row_lem v (omega (arith, few)) (link_bits p l) (next p l) (ilabel p l) (olabel p l) (links-below (4 * l + 3)) (links-below (4 * l)) (links-below (4 * l + 1)))

  reads-final : (v : ℕ) → v < N → Reads (final_row p v) (final_row_for p v)
  reads-final v h = go (eqb (mark p v) 0)
    where
      go : (b : Bool) → Reads (cond b [] (decimal v ++ and_weight (final_bits p v) ++ (10 ∷ []))) (cond b [] (final v (weight_for (final_bits p v)) ∷ []))
      go true = reads_none
      go false = reads-line (decimal v ++ and_weight (final_bits p v)) (final v (weight_for (final_bits p v))) (lined-append (decimal v) (and_weight (final_bits p v)) (lined-decimal v) (lined-weight (final_bits p v))) (final-row v (omega (arith, few)) (final_bits p v))

  reads-node : (v : ℕ) → v < N → Reads (node_rows p v) (node_rows_for p v)
  unfolding node_rows node_rows_for
  reads-node v h =
      reads-append (flat_map (λ i. link_row p v (first_of p v + i)) (list_below (count p v) (λ i. i))) (final_row p v) (flat_map (λ i. link_row_for p v (first_of p v + i) ∷ []) (list_below (count p v) (λ i. i))) (final_row_for p v)
      (reads_all (count p v) (λ i. link_row p v (first_of p v + i)) (λ i. link_row_for p v (first_of p v + i) ∷ []) (λ i b. reads-link v (first_of p v + i) h)) (reads-final v h)

  pub reads-text : Reads (text_of p) (rows_for p)
  unfolding text_of rows_for
  reads-text =
      reads-append (node_rows p p.start) (flat_map (λ v. cond (eqb v p.start) [] (node_rows p v)) (list_below N (λ v. v))) (node_rows_for p p.start) (flat_map (λ v. cond (eqb v p.start) [] (node_rows_for p v)) (list_below N (λ v. v)))
      (reads-node p.start start-in)
      (reads_all N (λ v. cond (eqb v p.start) [] (node_rows p v)) (λ v. cond (eqb v p.start) [] (node_rows_for p v)) (λ v h. go v (eqb v p.start) (reads-node v h)))
    where
      go : (v : ℕ) (b : Bool) → Reads (node_rows p v) (node_rows_for p v) → Reads (cond b [] (node_rows p v)) (cond b [] (node_rows_for p v))
      go v true h = reads_none
      go v false h = h

  -- a newline ends it
  ends-final : (v : ℕ) → Ends (final_row p v)
  ends-final v = go (eqb (mark p v) 0)
    where
      go : (b : Bool) → Ends (cond b [] (decimal v ++ and_weight (final_bits p v) ++ (10 ∷ [])))
      go true = inl refl
      go false = ends-line (decimal v ++ and_weight (final_bits p v))

  ends-node : (v : ℕ) → Ends (node_rows p v)
  unfolding node_rows
  ends-node v =
      ends-append (flat_map (λ i. link_row p v (first_of p v + i)) (list_below (count p v) (λ i. i))) (final_row p v)
      (ends-all (count p v) (λ i. link_row p v (first_of p v + i)) (λ i. ends-line (decimal v ++ and_number (next p (first_of p v + i)) ++ and_number (ilabel p (first_of p v + i)) ++ and_number (olabel p (first_of p v + i)) ++ and_weight (link_bits p (first_of p v + i)))))
      (ends-final v)

  ends-text : Ends (text_of p)
  unfolding text_of
  ends-text =
      ends-append (node_rows p p.start) (flat_map (λ v. cond (eqb v p.start) [] (node_rows p v)) (list_below N (λ v. v))) (ends-node p.start)
      (ends-all N (λ v. cond (eqb v p.start) [] (node_rows p v)) (λ v. go v (eqb v p.start)))
    where
      go : (v : ℕ) (b : Bool) → Ends (cond b [] (node_rows p v))
      go v true = inl refl
      go v false = ends-node v

  all_read : all_rows (rows_of (text_of p)) ≡ Some (rows_for p)
  all_read =
      ap (λ (t : List ℕ). all_rows (rows_of t)) (sym (append-nil (text_of p))) ∙ reads-text []
      ∙ ap {B = Option (List Row)} (λ (o : Option (List Row)). and_then o (λ qs. Some (rows_for p ++ qs))) no_text ∙ ap Some (append-nil (rows_for p))

  module _ (has : has_rows p ≡ true) where
    some-rows : 1 ≤ length (rows_for p)
    unfolding rows_for
    some-rows =
        omega (arith, length-append (node_rows_for p p.start) (flat_map (λ v. cond (eqb v p.start) [] (node_rows_for p v)) (list_below N (λ v. v))), own-rows p four three links-below nodes-below nodes-fit nexts-fit short weights-fit start-in (own-start p has))

    text-ended : ended (text_of p) ≡ true
    text-ended = go ends-text
      where
        go : Ends (text_of p) → ended (text_of p) ≡ true
        go (inr e) = e
        go (inl e) =
            let empty : Some [] ≡ Some (rows_for p) = sym no_text ∙ ap (λ (t : List ℕ). all_rows (rows_of t)) (sym e) ∙ all_read in
            absurd (omega (arith, some-rows, ap (λ (o : Option (List Row)). length (or_no_rows o)) empty))

    -- The text of a sheet that has rows is read as those rows.
    pub rows-read : read_rows (text_of p) ≡ Some (rows_for p)
    unfolding read_rows
    rows-read =
        ap (λ (b : Bool). cond b (and_then (all_rows (rows_of (text_of p))) (λ rs. cond (finals_once rs) (Some rs) None)) None) text-ended
        ∙ ap {B = Option (List Row)} (λ (o : Option (List Row)). and_then o (λ rs. cond (finals_once rs) (Some rs) None)) all_read
        ∙ ap (λ (b : Bool). cond b (Some (rows_for p)) None) (rows-once p four three links-below nodes-below nodes-fit nexts-fit short weights-fit start-in)

    -- They convert to its parts.
    pub parts-read : parts_of_rows (or_no_rows (read_rows (text_of p))) ≡ p
    parts-read = ap (λ (o : Option (List Row)). parts_of_rows (or_no_rows o)) rows-read ∙ parts_again p four three links-below nodes-below nodes-fit nexts-fit short weights-fit start-in has

-- ---- of bytes
pub accepted : (l : Bool) (p : Parts) → verdict l p ≡ 0 → (nodes_fit p ≡ true) × (nexts_fit p ≡ true) × (weights_fit p ≡ true)
unfolding verdict
accepted l p e = go (l && nodes_fit p) refl (unit_fits p.form) (start_fits (node_count p) p.start) (nexts_fit p) (weights_fit p) e
  where
    go : (a : Bool) → l && nodes_fit p ≡ a → (u b c d : Bool) → ◌≡◌ {A = ℕ} (cond (not a) 1 (cond (not u) 14 (cond (not b) 2 (cond (not c) 3 (cond (not d) 4 0))))) 0 → (nodes_fit p ≡ true) × (c ≡ true) × (d ≡ true)
    go false q u b c d e = absurd (omega arith)
    go true q false b c d e = absurd (omega arith)
    go true q true false c d e = absurd (omega arith)
    go true q true true false d e = absurd (omega arith)
    go true q true true true false e = absurd (omega arith)
    go true q true true true true e = ((both l (nodes_fit p) q).1, refl, refl)

-- what a number 0 of the call that writes rows says
pub written-number : (bytes : List ℕ) (room : ℕ) → text_number bytes room ≡ 0 → (read_number bytes ≡ 0) × (has_rows (parts_of bytes) ≡ true)
unfolding text_number
written-number bytes room e = let x = first-zero (read_number bytes) _ e in (x.0, go (has_rows (parts_of bytes)) x.1)
  where
    go : (b : Bool) → ◌≡◌ {A = ℕ} (cond (not b) 9 (cond (ltb room (length (text_of (parts_of bytes)))) 21 0)) 0 → b ≡ true
    go true h = refl
    go false h = absurd (omega (arith, h))

-- A sheet that is accepted and ends in the longer trailer has none.
pub longer-none : (bytes : List ℕ) (u room : ℕ) → form_of bytes ≡ Form.Long u → read_number bytes ≡ 0 → text_number bytes room ≡ 9
unfolding text_number has_rows parts_of
longer-none bytes u room long zero_number =
    ap (λ (k : ℕ). cond (not (eqb k 0)) k (cond (not (has_rows (parts_of bytes))) 9 (cond (ltb room (length (text_of (parts_of bytes)))) 21 0))) zero_number
    ∙ ap (λ (b : Bool). cond (not b) 9 (cond (ltb room (length (text_of (parts_of bytes)))) 21 0)) none
  where
    none : has_rows (parts_of bytes) ≡ false
    none = let p = parts_of bytes in ap (λ (f : Form). is_short f && ltb p.start (node_count p) && has_own p p.start && (has_own p (node_count p - 1) || is_led p (node_count p - 1))) long

module _ (bytes : List ℕ) (below : Below 256 bytes) (zero_number : read_number bytes ≡ 0) (has : has_rows (parts_of bytes) ≡ true) where
  abbrev p : Parts
  p = parts_of bytes

  fit : (nodes_fit p ≡ true) × (nexts_fit p ≡ true) × (weights_fit p ≡ true)
  unfolding read_number
  fit = accepted (sizes_fit bytes) p zero_number

  four-of : length p.links ≡ 4 * link_count p
  unfolding parts_of
  four-of = omega (arith, length-words bytes 0 (4 * stated_links bytes))

  three-of : length p.nodes ≡ 3 * node_count p
  unfolding parts_of
  three-of = omega (arith, length-words bytes (link_length * stated_links bytes) (3 * stated_nodes bytes))

  links-in : (i : ℕ) → get_or p.links i 0 < 4294967296
  unfolding parts_of
  links-in = words-below (4 * stated_links bytes) bytes 0 below

  nodes-in : (i : ℕ) → get_or p.nodes i 0 < 4294967296
  unfolding parts_of
  nodes-in = words-below (3 * stated_nodes bytes) bytes (link_length * stated_links bytes) below

  few-nodes : node_count p < 4294967296
  few-nodes = subst (λ (k : ℕ). k < 4294967296) (sym (read-fields bytes).nodes-are) (word_lt bytes (length bytes - trailer_size bytes + 4 * 2) below)

  -- A sheet that is accepted and has rows, written as text, is read as its rows,
  pub rows_back : read_rows (text_of p) ≡ Some (rows_for p)
  rows_back = rows-read p four-of three-of links-in nodes-in fit.0 fit.1 (form-short p has) fit.2 (start-below p has) few-nodes has

  -- and they convert to that very sheet.
  pub sheet-back : sheet_of_rows (text_of p) ≡ bytes
  unfolding sheet_of_rows
  sheet-back = ap sheet_of (parts-read p four-of three-of links-in nodes-in fit.0 fit.1 (form-short p has) fit.2 (start-below p has) few-nodes has) ∙ bytes_back bytes below (read_fits bytes zero_number)

  -- ---- the converter refuses them only for want of room
  size_is : sheet_length p ≡ length bytes
  unfolding parts_of
  size_is = (λ i. link_length * (read-fields bytes).links-are i + node_length * (read-fields bytes).nodes-are i + trailer_size bytes) ∙ sym (length-read bytes (read_fits bytes zero_number))

  write_again : (room : ℕ) → write_number p room ≡ cond (ltb room (length bytes)) 21 0
  unfolding write_number
  write_again room =
      ap (λ (k : ℕ). cond (not (eqb k 0)) k (cond (ltb room (sheet_length p)) 21 0)) (number-again bytes below (read_fits bytes zero_number) ∙ zero_number)
      ∙ ap {B = ℕ} (λ (k : ℕ). cond (ltb room k) 21 0) size_is

  pub text-number : (room : ℕ) → rows_number (text_of p) room ≡ cond (ltb room (length bytes)) 21 0
  text-number room =
      rows-number (text_of p) room ∙ ap (λ (o : Option (List Row)). number_of_rows o room) rows_back
      ∙ ap (λ (b : Bool). cond (fields_hold (rows_for p) && not b) 4 (write_number (parts_of_rows (rows_for p)) room)) (weights-rows p four-of three-of links-in nodes-in fit.0 fit.1 (form-short p has) fit.2 (start-below p has))
      ∙ never (fields_hold (rows_for p)) (write_number (parts_of_rows (rows_for p)) room)
      ∙ ap (λ (q : Parts). write_number q room) (parts_again p four-of three-of links-in nodes-in fit.0 fit.1 (form-short p has) fit.2 (start-below p has) has)
      ∙ write_again room
    where
      never : (a : Bool) (x : ℕ) → cond (a && not true) 4 x ≡ x
      never true x = refl
      never false x = refl

  -- The text converted over an area that is long enough gives the sheet, and the rest of the area as it was.
  pub sheet-over : (old : List ℕ) → length bytes ≤ length old → sheet_over (text_of p) old ≡ bytes ++ drop (length bytes) old
  sheet-over old h =
      ap (λ (k : ℕ). cond (eqb k 0) (sheet_of_rows (text_of p) ++ drop (length (sheet_of_rows (text_of p))) old) old) (text-number (length old) ∙ ap {B = ℕ} (λ (b : Bool). cond b 21 0) (le-ltb (length old) (length bytes) h))
      ∙ ap (λ (l : List ℕ). l ++ drop (length l) old) sheet-back

-- What the call that writes rows promises: where it refuses nothing, the text it leaves converts to the sheet.
pub text-returned : (bytes old : List ℕ) → Below 256 bytes → text_number bytes (length old) ≡ 0 → sheet_of_rows (take (length (text_of (parts_of bytes))) (text_over bytes old)) ≡ bytes
text-returned bytes old below e =
    let r = written-number bytes (length old) e in
    ap (λ (k : ℕ). sheet_of_rows (take (length (text_of (parts_of bytes))) (cond (eqb k 0) (text_of (parts_of bytes) ++ drop (length (text_of (parts_of bytes))) old) old))) e
    ∙ ap sheet_of_rows (take-append_seam (text_of (parts_of bytes)) (drop (length (text_of (parts_of bytes))) old))
    ∙ sheet-back bytes below r.0 r.1
