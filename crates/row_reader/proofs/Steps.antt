-- A pass over the rows: what the row reader answers at a place says what rows are left from there on. Assumes nothing.
use mathlib.Core.Path.{◌≡◌, refl, sym, ap, ◌∙◌}
use mathlib.Core.Bool.{Bool, true, false, cond}
use Rattle.std.proofs.Common.{Option, None, Some}
use mathlib.Core.List.{List, [], ◌∷◌}
use Prim.Native.Nat.{ℕ, ◌+◌, ◌≤◌, ◌<◌}
use native.Mathlib.Omega.{arith}
use lib.Dec.{ltb}
use lib.ListN.{length}
use borrow.Author.Tests.{ltb-true}
use Rattle.text_rows.specs.Fields as Fields
use Rattle.text_rows.specs.Fields.{and_then}
use Rattle.text_rows.specs.Rows.{Row, link, final, row_by}
use Rattle.row_reader.specs.Places.{line_end, row_fields, rows_left}
use Rattle.row_reader.specs.RowReading.{row_read, read_to, row_at, Gives}
use Rattle.row_reader.specs.Reading.{weight_read}
use Rattle.row_reader.specs.declared.values.Weight.{Weight}
use Rattle.row_reader.specs.declared.row.Link as Code_link
use Rattle.row_reader.specs.declared.row.Row as Code
use Rattle.row_reader.specs.declared.row.Row.TheVariants.{Link, Final}
use Rattle.row_reader.specs.declared.row.Read.{Read}
use Rattle.row_reader.proofs.Places.{rows_step, rows_end}

abbrev before : Row → Option (List Row) → Option (List Row)
before r rest = and_then rest (λ rs. Some (r ∷ rs))

abbrev step_of : Bool → Option Row → Option (List Row) → Option (List Row)
step_of b o rest = cond b (and_then o (λ r. before r rest)) None

none-by : (b : Bool) (o : Option Row) (rest : Option (List Row)) (n : ℕ) → cond b (read_to o n) None ≡ None → step_of b o rest ≡ None
none-by false o rest n e = refl
none-by true None rest n e = refl
none-by true (Some r) rest n e = absurd (cc)

-- the row as the definitions have it, before the rows that are left at the place where it ends
record Begins (read : Code.Row) (end : ℕ) (left : ℕ → Option (List Row)) (b : Bool) (n : ℕ) (rows : Option (List Row)) : Type 0 where
  row : Row
  is : read ≡ row_read row
  rows_are : rows ≡ before row (left end)
  ended : b ≡ true
  next : end ≡ n

some-by : (left : ℕ → Option (List Row)) (n : ℕ) (b : Bool) (o : Option Row) (read : Code.Row) (end : ℕ) → cond b (read_to o n) None ≡ Some (record { row = read; end = end }) → Begins read end left b n (step_of b o (left n))
some-by left n false o read end e = absurd (cc)
some-by left n true None read end e = absurd (cc)
some-by left n true (Some r) read end e =
    let same : ◌≡◌ {A = Read} (record { row = row_read r; end = n }) (record { row = read; end = end }) = cc in
    let is : row_read r ≡ read = ap (λ (x : Read). x.row) same in
    let next : n ≡ end = ap (λ (x : Read). x.end) same in
    record { row = r; is = sym is; rows_are = λ j. before r (left (next j)); ended = refl; next = sym next }

-- ---- at a place of a text where a row begins
pub record Stepped (text : List ℕ) (at : ℕ) (read : Code.Row) (end : ℕ) : Type 0 where
  pub row : Row
  pub is : read ≡ row_read row
  pub rows : rows_left text at ≡ and_then (rows_left text end) (λ rs. Some (row ∷ rs))
  pub later : at < end
  pub within : end ≤ length text

-- unreadable, or not ended: so is what is left
pub step-none : (text : List ℕ) (at : ℕ) → at < length text → row_at text at ≡ None → rows_left text at ≡ None
step-none text at inside e = rows_step text at inside ∙ none-by (ltb (line_end text at) (length text)) (row_by (row_fields text at)) (rows_left text (line_end text at + 1)) (line_end text at + 1) e

-- a row, and those from its end on
pub step_is : (text : List ℕ) (at : ℕ) → at < length text → (read : Code.Row) (end : ℕ) → row_at text at ≡ Some (record { row = read; end = end }) → Stepped text at read end
step_is text at inside read end e =
    let b = some-by (rows_left text) (line_end text at + 1) (ltb (line_end text at) (length text)) (row_by (row_fields text at)) read end e in
    record {
      row = b.row;
      is = b.is;
      rows = rows_step text at inside ∙ b.rows_are;
      later = omega (arith, b.next);
      within = omega (arith, b.next, ltb-true (line_end text at) (length text) b.ended);
    }

-- ---- a link, and a final row, each with the weight that it has
pub record Weighed (text : List ℕ) (at : ℕ) (make : Fields.Weight → Row) (read : Weight) (end : ℕ) : Type 0 where
  pub weight : Fields.Weight
  pub weighs : read ≡ weight_read weight
  pub rows : rows_left text at ≡ and_then (rows_left text end) (λ rs. Some (make weight ∷ rs))
  pub later : at < end
  pub within : end ≤ length text

module _ (text : List ℕ) (at : ℕ) (inside : at < length text) where
  pub step-link : (s t i o : ℕ) (w : Weight) (end : ℕ)
      → row_at text at ≡ Some (record { row = Link (record { source = s; next = t; ilabel = i; olabel = o; weight = w }); end = end }) → Weighed text at (link s t i o) w end
  step-link s t i o w end e =
      let st = step_is text at inside (Link (record { source = s; next = t; ilabel = i; olabel = o; weight = w })) end e in
      go st.row st.is st.rows st.later st.within
    where
      go : (row : Row) → Link (record { source = s; next = t; ilabel = i; olabel = o; weight = w }) ≡ row_read row → rows_left text at ≡ and_then (rows_left text end) (λ rs. Some (row ∷ rs)) → at < end → end ≤ length text
          → Weighed text at (link s t i o) w end
      go (final v x) is rows later within = absurd (cc)
      go (link a b c d x) is rows later within =
          let same : ◌≡◌ {A = Code_link.Link} (record { source = s; next = t; ilabel = i; olabel = o; weight = w }) (record { source = a; next = b; ilabel = c; olabel = d; weight = weight_read x }) = cc in record {
            weight = x;
            weighs = ap (λ (l : Code_link.Link). l.weight) same;
            rows = rows ∙ (λ j. and_then (rows_left text end) (λ rs. Some (link (sym same j).source (sym same j).next (sym same j).ilabel (sym same j).olabel x ∷ rs)));
            later = later;
            within = within;
          }

  pub step-final : (v : ℕ) (w : Weight) (end : ℕ) → row_at text at ≡ Some (record { row = Final v w; end = end }) → Weighed text at (final v) w end
  step-final v w end e = let st = step_is text at inside (Final v w) end e in go st.row st.is st.rows st.later st.within
    where
      go : (row : Row) → Final v w ≡ row_read row → rows_left text at ≡ and_then (rows_left text end) (λ rs. Some (row ∷ rs)) → at < end → end ≤ length text → Weighed text at (final v) w end
      go (link a b c d x) is rows later within = absurd (cc)
      go (final u x) is rows later within =
          let node : v ≡ u = cc in record {
            weight = x;
            weighs = cc;
            rows = rows ∙ ap (λ (n : ℕ). and_then (rows_left text end) (λ rs. Some (final n x ∷ rs))) (sym node);
            later = later;
            within = within;
          }

-- ---- the same by what the rows of a text give
module _ (text : List ℕ) (at next : ℕ) where
  pub given-row : (o : Option Code.Row) (read : Code.Row) → o ≡ Some read → Gives text at (Some o) next → Stepped text at read next
  given-row None read e g = absurd (cc)
  given-row (Some r) read e g =
      let is : r ≡ read = cc in
      step_is text at g.0 read next (g.1 ∙ ap (λ (x : Code.Row). Some (record { row = x; end = next })) is)

  pub given-unread : (o : Option Code.Row) → o ≡ None → Gives text at (Some o) next → rows_left text at ≡ None
  given-unread None e g = step-none text at g.0 g.1
  given-unread (Some r) e g = absurd (cc)

  pub given-end : Gives text at None next → rows_left text at ≡ Some []
  given-end g = rows_end text at g.0
