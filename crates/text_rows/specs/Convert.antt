-- The sheet of rows, and the number that converting them answers. Definitions only.
use Rattle.std.specs.Prelude.{ℕ, ◌+◌, ◌*◌, ◌^◌, Bool, not, ◌&&◌, cond, ltb, eqb, length, Option, None, Some}
use mathlib.Core.List.{List, [], ◌∷◌, flat_map}
use Rattle.tropical_weight.specs.Limits.{unit}
use Rattle.sheet.specs.declared.form.Form.{Form}
use Rattle.sheet.specs.Below.{list_below}
use Rattle.sheet.specs.Refusals.{answer_over}
use Rattle.sheet.specs.Sheet.{Parts, link_length, node_length, short_trailer, sheet_of}
use Rattle.sheet.specs.Machine.{bits_of}
use Rattle.text_rows.specs.Fields.{Weight}
use Rattle.text_rows.specs.Rows.{Row, link, final, read_rows, first_node, highest, weights_pass, weighs}

-- the field of a weight, in 64ths
abbrev pub field_of : Weight → ℕ
field_of w = bits_of unit (weighs w)

-- a node's links, in row order, in the fields of a sheet
abbrev pub link_from : ℕ → Row → List ℕ
link_from v (link s t i o w) = cond (eqb s v) (i ∷ o ∷ field_of w ∷ t ∷ []) []
link_from v (final u w) = []

-- how many they are
abbrev pub is_from : ℕ → Row → ℕ
is_from v (link s t i o w) = cond (eqb s v) 1 0
is_from v (final u w) = 0

unfoldable pub count_from : ℕ → List Row → ℕ
count_from v [] = 0
count_from v (r ∷ rs) = is_from v r + count_from v rs

-- its mark and its final weight's field
unfoldable pub mark_fields : ℕ → List Row → List ℕ
mark_fields v [] = 0 ∷ 0 ∷ []
mark_fields v (link s t i o w ∷ rs) = mark_fields v rs
mark_fields v (final u w ∷ rs) = cond (eqb u v) (1 ∷ field_of w ∷ []) (mark_fields v rs)

-- how many rows are links
abbrev pub is_link : Row → ℕ
is_link (link s t i o w) = 1
is_link (final v w) = 0

unfoldable pub links_in : List Row → ℕ
links_in [] = 0
links_in (r ∷ rs) = is_link r + links_in rs

abbrev pub nodes_in : List Row → ℕ
nodes_in rs = highest rs + 1

-- nodes run to the highest number named, a node's links in row order; the trailer is the shorter one
unfoldable pub parts_of_rows : List Row → Parts
unfolding highest flat_map list_below count_from mark_fields
parts_of_rows rs = record {
  links = flat_map (λ v. flat_map (link_from v) rs) (list_below (nodes_in rs) (λ v. v));
  nodes = flat_map (λ v. count_from v rs ∷ mark_fields v rs) (list_below (nodes_in rs) (λ v. v));
  start = first_node rs;
  form = Form.Short;
}

abbrev pub length_of : List Row → ℕ
length_of rs = link_length * links_in rs + node_length * nodes_in rs + short_trailer

-- ---- the call: 8, then the sheet refusals 1 and 4 (14, 2 and 3 cannot come), then 21
abbrev pub fields_hold : List Row → Bool
fields_hold rs = ltb (nodes_in rs) (2 ^ 32) && ltb (link_length * links_in rs) (2 ^ 32)

abbrev pub number_by : Option (List Row) → ℕ → ℕ
number_by None room = 8
number_by (Some rs) room = cond (not (fields_hold rs)) 1 (cond (not (weights_pass rs)) 4 (cond (ltb room (length_of rs)) 21 0))

unfoldable pub rows_number : List ℕ → ℕ → ℕ
unfolding read_rows highest links_in weights_pass
rows_number text room = number_by (read_rows text) room

abbrev pub or_no_rows : Option (List Row) → List Row
or_no_rows None = []
or_no_rows (Some rs) = rs

-- the rows of a text that is not refused
abbrev pub rows_in : List ℕ → List Row
rows_in text = or_no_rows (read_rows text)

-- their sheet
unfoldable pub sheet_of_rows : List ℕ → List ℕ
unfolding read_rows parts_of_rows sheet_of
sheet_of_rows text = sheet_of (parts_of_rows (rows_in text))

-- the result area afterwards
abbrev pub sheet_over : List ℕ → List ℕ → List ℕ
sheet_over text old = answer_over (sheet_of_rows text) (rows_number text (length old)) old
