-- The tests that come before the one for room decide alone, whatever the room: a measured length is the least that is enough. Assumes nothing.
use mathlib.Core.Path.{◌≡◌, refl, sym, ap}
use mathlib.Core.Bool.{Bool, true, false, not, cond}
use Rattle.std.proofs.Common.{Option, None, Some}
use mathlib.Core.List.{List}
use Prim.Native.Nat.{ℕ}
use native.Mathlib.Omega.{arith}
use lib.Dec.{ltb, eqb}
use lib.ListN.{length}
use borrow.Author.Tests.{le-ltb}
use Rattle.sheet.specs.Sheet.{parts_of, read_number}
use Rattle.text_rows.specs.Rows.{Row, read_rows, weights_pass}
use Rattle.text_rows.specs.Convert.{fields_hold, length_of, number_by, rows_number, or_no_rows, rows_in}
use Rattle.text_rows.specs.Written.{has_rows, text_of, text_number}

-- by the number in an area of just the length
abbrev pub in_room : ℕ → ℕ → ℕ → ℕ
in_room number size room = cond (not (eqb number 0)) number (cond (ltb room size) 21 0)

-- a number that is 0 only where there is room
by-room : (size room : ℕ) → cond (ltb room size) 21 0 ≡ in_room (cond (ltb size size) 21 0) size room
by-room size room = sym (ap (λ (b : Bool). in_room (cond b 21 0) size room) (le-ltb size size (omega arith)))

pub rows-in-room : (text : List ℕ) (room : ℕ) → rows_number text room ≡ in_room (rows_number text (length_of (rows_in text))) (length_of (rows_in text)) room
unfolding rows_number
rows-in-room text room = go (read_rows text)
  where
    go : (o : Option (List Row)) → number_by o room ≡ in_room (number_by o (length_of (or_no_rows o))) (length_of (or_no_rows o)) room
    go None = refl
    go (Some rs) = by (fields_hold rs) (weights_pass rs)
      where
        by : (b c : Bool) → cond (not b) 1 (cond (not c) 4 (cond (ltb room (length_of rs)) 21 0)) ≡ in_room (cond (not b) 1 (cond (not c) 4 (cond (ltb (length_of rs) (length_of rs)) 21 0))) (length_of rs) room
        by false c = refl
        by true false = refl
        by true true = by-room (length_of rs) room

pub text_in-room : (bytes : List ℕ) (room : ℕ) → text_number bytes room ≡ in_room (text_number bytes (length (text_of (parts_of bytes)))) (length (text_of (parts_of bytes))) room
unfolding text_number
text_in-room bytes room = go (eqb (read_number bytes) 0) refl (has_rows (parts_of bytes))
  where
    go : (b : Bool) → eqb (read_number bytes) 0 ≡ b → (c : Bool)
        → cond (not b) (read_number bytes) (cond (not c) 9 (cond (ltb room (length (text_of (parts_of bytes)))) 21 0))
        ≡ in_room (cond (not b) (read_number bytes) (cond (not c) 9 (cond (ltb (length (text_of (parts_of bytes))) (length (text_of (parts_of bytes)))) 21 0))) (length (text_of (parts_of bytes))) room
    go false q c = sym (ap (λ (b : Bool). cond (not b) (read_number bytes) (cond (ltb room (length (text_of (parts_of bytes)))) 21 0)) q)
    go true q false = refl
    go true q true = by-room (length (text_of (parts_of bytes))) room
