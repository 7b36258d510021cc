-- The rows of a sheet as text, and which sheets have rows. Definitions only.
use Rattle.std.specs.Prelude.{ℕ, zero, suc, ◌+◌, ◌-◌, ◌*◌, ◌/◌, ◌%◌, Bool, true, false, ◌&&◌, ◌||◌, eqb, ℤ, pos, negsuc, length}
use Rattle.std.proofs.Math.Bool.{not, cond}
use mathlib.Core.List.{List, [], ◌∷◌, ◌++◌, flat_map}
use Rattle.std.proofs.Math.Dec.{ltb}
use Rattle.std.specs.Float.{binary32}
use Rattle.std.specs.Float.Ieee.{of_bits}
use Rattle.io.specs.Digits.{last_digits}
use Rattle.decimals.specs.Decimal.{decimal}
use Rattle.tropical_weight.specs.Limits.{unit}
use Rattle.tropical_weight.specs.Grid as Grid
use Rattle.sheet.specs.declared.form.Form.{Form}
use Rattle.sheet.specs.Below.{all_below, sum_below, list_below}
use Rattle.sheet.specs.Refusals.{answer_over}
use Rattle.sheet.specs.Sheet.{Parts, barred_bits, link_count, node_count, ilabel, olabel, link_bits, next, count, mark, final_bits, parts_of, read_number}
use Rattle.text_rows.specs.Fields.{infinity_text}
use Rattle.text_rows.specs.Rows.{units_in_one, in_unit}

-- ---- weights
-- six digits without the zeros at their end: at the end of k digits of n
unfoldable pub shortest : ℕ → ℕ → List ℕ
shortest zero n = []
shortest (suc k) n = cond (eqb (n % 10) 0) (shortest k (n / 10)) (last_digits 10 (suc k) n)

-- a point and the digits of so many millionths below 1; nothing for 0
abbrev pub part_text : ℕ → List ℕ
part_text part = cond (eqb part 0) [] (46 ∷ shortest 6 part)

-- so many units
unfoldable pub magnitude_text : ℕ → List ℕ
unfolding decimal shortest
magnitude_text k = decimal (k / units_in_one) ++ part_text (k % units_in_one * in_unit)

unfoldable pub weight_text : ℤ → List ℕ
unfolding magnitude_text
weight_text (pos k) = magnitude_text k
weight_text (negsuc k) = 45 ∷ magnitude_text (suc k)

-- of a weight's field
abbrev pub field_text : ℕ → List ℕ
field_text bits = cond (eqb bits barred_bits) infinity_text (weight_text (Grid.units_of unit (of_bits binary32 bits)))

-- ---- rows
-- a tab and a number
abbrev pub and_number : ℕ → List ℕ
and_number n = 9 ∷ decimal n

-- a tab and a weight, by its field; a weight of 0 is left out
abbrev pub and_weight : ℕ → List ℕ
and_weight bits = cond (eqb bits 0) [] (9 ∷ field_text bits)

-- whether a sheet ends in the shorter trailer: text rows serve no other
abbrev pub is_short : Form → Bool
is_short Form.Short = true
is_short (Form.Long u) = false

module _ (p : Parts) where
  -- link l of node v
  abbrev pub link_row : ℕ → ℕ → List ℕ
  link_row v l = decimal v ++ and_number (next p l) ++ and_number (ilabel p l) ++ and_number (olabel p l) ++ and_weight (link_bits p l) ++ (10 ∷ [])

  abbrev pub final_row : ℕ → List ℕ
  final_row v = cond (eqb (mark p v) 0) [] (decimal v ++ and_weight (final_bits p v) ++ (10 ∷ []))

  -- the number of node v's first link
  abbrev pub first_of : ℕ → ℕ
  first_of v = sum_below v (count p)

  -- a node's links, then its final row
  unfoldable pub node_rows : ℕ → List ℕ
  unfolding decimal infinity_text weight_text sum_below list_below flat_map Grid.units_of of_bits
  node_rows v = flat_map (λ i. link_row v (first_of v + i)) (list_below (count p v) (λ i. i)) ++ final_row v

  -- the start's rows first, then by rising node
  unfoldable pub text_of : List ℕ
  unfolding node_rows list_below flat_map
  text_of = node_rows p.start ++ flat_map (λ v. cond (eqb v p.start) [] (node_rows v)) (list_below (node_count p) (λ v. v))

  -- ---- which sheets have rows
  -- a link or a mark
  abbrev pub has_own : ℕ → Bool
  has_own v = not (eqb (count p v) 0) || eqb (mark p v) 1

  -- a link to it
  unfoldable pub is_led : ℕ → Bool
  unfolding all_below
  is_led v = not (all_below (link_count p) (λ l. not (eqb (next p l) v)))

  -- None if the trailer is the longer one, the start is absent or has no link and no mark, or the last node has no link, no mark and no link to it.
  unfoldable pub has_rows : Bool
  unfolding is_led
  has_rows = is_short p.form && ltb p.start (node_count p) && has_own p.start && (has_own (node_count p - 1) || is_led (node_count p - 1))

-- ---- the call: 1, 14 and 2 to 4, then 9, then 21
unfoldable pub text_number : List ℕ → ℕ → ℕ
unfolding read_number parts_of has_rows text_of
text_number bytes room =
    let k = read_number bytes in
    cond (not (eqb k 0)) k (cond (not (has_rows (parts_of bytes))) 9 (cond (ltb room (length (text_of (parts_of bytes)))) 21 0))

-- the result area afterwards
abbrev pub text_over : List ℕ → List ℕ → List ℕ
text_over bytes old = answer_over (text_of (parts_of bytes)) (text_number bytes (length old)) old
