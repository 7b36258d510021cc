-- What the answers tell by numbers: first the number of the refusal, or 0, that their definitions give. Assumes nothing.
use mathlib.Core.Path.{◌≡◌, refl, sym, ap, ◌∙◌}
use mathlib.Core.Logic.{inl, inr}
use mathlib.Core.Bool.{Bool, not, cond}
use mathlib.Core.List.{List}
use mathlib.Core.Option.{Option as Maybe, none, some}
use Prim.Native.Nat.{ℕ, ◌/◌}
use lib.Dec.{leb, ltb, eqb}
use lib.ListN.{length}
use borrow.Author.Tests.{ne_eqb}
use Rattle.std.specs.Prelude.{Option, None, Some, Result, Ok, Err, MatchResult, IsOkAnd}
use Rattle.tropical_weight.specs.Limits.{list_limit}
use Rattle.sheet.specs.declared.form.Form.{Form}
use Rattle.sheet.specs.declared.refusal.Refusal.{Refusal}
use Rattle.sheet.specs.Refusals.{number_of, answer, number_in}
use Rattle.sheet.specs.Answers.{written}
use Rattle.sheet.specs.Sheet.{Parts, records_fit, verdict, sheet_length, parts_of, read_number, write_number}
use Rattle.sheet.proofs.Refusals.{Known, known, known-cond, number-told, number-positive, same-refusal, answer-ok, answer-err}
use Rattle.sheet.proofs.AcceptedSheet.{verdict-known, read-known}
use Rattle.machine.specs.Input.{input_number}
use Rattle.machine.proofs.Machines.{input-known}
use Rattle.sheet.specs.Machine.{machine}
use Rattle.text_rows.specs.Rows.{Row, read_rows, weights_pass}
use Rattle.text_rows.specs.Convert.{fields_hold, length_of, number_by, rows_number}
use Rattle.text_rows.specs.Written.{has_rows, text_of, text_number}
use Rattle.text_rows.proofs.Measuring.{in_room}
use Rattle.list_answer.specs.declared.Listed.{Listed}
use Rattle.shortest_distance.specs.Outcome.{answer_of as distances_of, slots_needed as distance_slots, distance_number, distance_answer}
use Rattle.shortest_path.specs.Outcome.{answer_of, slots_needed, tested_number, areas_number, list_number, list_answer}
use Rattle.read_back.specs.Way.{count_in, is_list}
use Rattle.read_back.specs.Answers.{count_number, held_reading, room_number, held_number, reading_number}
use Rattle.yeldmur.specs.Areas.{measured_number}
use Rattle.yeldmur.specs.Told.{value_told, listed_told}

-- ---- each number is 0 or a refusal's
room-known : (b : Bool) → Known (cond b 21 0)
room-known b = known-cond b 21 0 (known Refusal.Room) (inl refl)

pub write-known : (p : Parts) (room : ℕ) → Known (write_number p room)
unfolding write_number
write-known p room =
    known-cond (not (eqb (verdict (records_fit p) p) 0)) (verdict (records_fit p) p) (cond (ltb room (sheet_length p)) 21 0) (verdict-known (records_fit p) p) (room-known (ltb room (sheet_length p)))

by-known : (o : Option (List Row)) (room : ℕ) → Known (number_by o room)
by-known None room = known Refusal.Rows
by-known (Some rs) room =
    known-cond (not (fields_hold rs)) 1 (cond (not (weights_pass rs)) 4 (cond (ltb room (length_of rs)) 21 0)) (known Refusal.Layout)
    (known-cond (not (weights_pass rs)) 4 (cond (ltb room (length_of rs)) 21 0) (known Refusal.Weight) (room-known (ltb room (length_of rs))))

pub rows-known : (text : List ℕ) (room : ℕ) → Known (rows_number text room)
unfolding rows_number
rows-known text room = by-known (read_rows text) room

pub text-known : (bytes : List ℕ) (room : ℕ) → Known (text_number bytes room)
unfolding text_number
text-known bytes room =
    known-cond (not (eqb (read_number bytes) 0)) (read_number bytes) (cond (not (has_rows (parts_of bytes))) 9 (cond (ltb room (length (text_of (parts_of bytes)))) 21 0)) (read-known bytes)
    (known-cond (not (has_rows (parts_of bytes))) 9 (cond (ltb room (length (text_of (parts_of bytes)))) 21 0) (known Refusal.NoRows) (room-known (ltb room (length (text_of (parts_of bytes))))))

areas-known : (b c : Bool) → Known (cond b 20 (cond c 21 0))
areas-known b c = known-cond b 20 (cond c 21 0) (known Refusal.Work) (room-known c)

pub distance-known : (bytes : List ℕ) (words room : ℕ) → Known (distance_number bytes words room)
unfolding distance_number
distance-known bytes words room =
    known-cond (not (eqb (input_number bytes) 0)) (input_number bytes) (cond (ltb (words / 8) (distance_slots bytes)) 20 (cond (ltb room (length (distances_of bytes))) 21 0)) (input-known bytes)
    (areas-known (ltb (words / 8) (distance_slots bytes)) (ltb room (length (distances_of bytes))))

tested-known : (bytes : List ℕ) (n last : ℕ) → Known last → Known (tested_number bytes n last)
unfolding tested_number
tested-known bytes n last h =
    known-cond (not (eqb (input_number bytes) 0)) (input_number bytes) (cond (ltb list_limit n) 7 last) (input-known bytes) (known-cond (ltb list_limit n) 7 last (known Refusal.Count) h)

pub list-known : (bytes : List ℕ) (n words room : ℕ) → Known (list_number bytes n words room)
unfolding list_number
list-known bytes n words room = tested-known bytes n (areas_number bytes n words room) (areas-known (ltb (words / 8) (slots_needed bytes n)) (ltb room (length (answer_of bytes n))))

pub count-known : (form : Form) (result : List ℕ) (n states links : ℕ) → Known (count_number form result n states links)
unfolding count_number
count-known form result n states links =
    known-cond (ltb list_limit n) 7 (cond (not (is_list form result states links n)) 30 0) (known Refusal.Count) (known-cond (not (is_list form result states links n)) 30 0 (known Refusal.NoAnswer) (inl refl))

held-known : (o : Maybe (List ℕ)) (room : ℕ) → Known (room_number o room)
held-known none room = known Refusal.NoAnswer
held-known (some run) room = room-known (ltb room (length run))

pub reading-known : (sheet : List ℕ) (n : ℕ) (result : List ℕ) (states links k room : ℕ) → Known (reading_number sheet n result states links k room)
unfolding reading_number
reading-known sheet n result states links k room =
    let last = room_number (held_reading (machine sheet) result n states links k) room in
    tested-known sheet n (held_number (machine sheet) result n states links k room)
    (known-cond (not (is_list (machine sheet).form result states links n)) 30 (cond (leb (count_in result states links n) k) 31 last) (known Refusal.NoAnswer)
    (known-cond (leb (count_in result states links n) k) 31 last (known Refusal.Absent) (held-known (held_reading (machine sheet) result n states links k) room)))

-- ---- what is told
-- what a refusal leaves
pub kept : (k new old : ℕ) → (k ≡ 0 → ⊥) → old ≡ cond (eqb k 0) new old
kept k new old h = sym (ap (λ (b : Bool). cond b new old) (ne_eqb k 0 h))

-- first the number, of any answer
pub number-first : (a : Result ℕ Refusal) (old : ℕ) → (value_told a old).0 ≡ number_in a
number-first (Ok value) old = refl
number-first (Err r) old = refl

pub value-number : (value k old : ℕ) {r s : ℕ} → Known k → (r, s) ≡ value_told (answer value k) old → r ≡ k
value-number value k old n e = ap (λ (x : ℕ × ℕ). x.0) e ∙ number-first (answer value k) old ∙ number-told value k n

-- a size as it is handed to C is the same number
pub widened : (P : ℕ → ℕ → Type 0) (a b : Result ℕ Refusal) → MatchResult a (λ x. IsOkAnd b (P x)) (λ e. b ≡ Err e) → ((x y : ℕ) → P x y → y ≡ x) → b ≡ a
widened P (Ok x) (Ok y) h f = ap Ok (f x y h)
widened P (Ok x) (Err r) h f = absurd h
widened P (Err r) b h f = h

-- the number 0 tells of a value, and a refusal's of that refusal
pub length-told : (a : Result ℕ Refusal) (old : ℕ) {r s : ℕ} → (r, s) ≡ value_told a old → r ≡ 0 → a ≡ Ok s
length-told (Ok value) old e z = ap Ok (sym (ap (λ (x : ℕ × ℕ). x.1) e))
length-told (Err q) old e z = absurd (number-positive q (sym (ap (λ (x : ℕ × ℕ). x.0) e) ∙ z))

pub told-refused : (a : Result ℕ Refusal) (old : ℕ) {r s : ℕ} (q : Refusal) → (r, s) ≡ value_told a old → r ≡ number_of q → a ≡ Err q
told-refused (Ok value) old q e z = absurd (number-positive q (sym z ∙ ap (λ (x : ℕ × ℕ). x.0) e))
told-refused (Err p) old q e z = ap Err (same-refusal p q (sym (ap (λ (x : ℕ × ℕ). x.0) e) ∙ z))

-- what measuring tells is the number in any room
pub told-in-room : (k size old : ℕ) {r s : ℕ} → Known k → (r, s) ≡ value_told (answer size k) old → (room : ℕ) → in_room k size room ≡ measured_number r s room
told-in-room k size old (inl z) e room =
    let whole = e ∙ ap (λ (a : Result ℕ Refusal). value_told a old) (answer-ok size k z) in
    ap (λ (j : ℕ). in_room j size room) z ∙ sym (ap (λ (x : ℕ × ℕ). measured_number x.0 x.1 room) whole)
told-in-room k size old (inr (q, z)) e room =
    let whole = e ∙ ap (λ (a : Result ℕ Refusal). value_told a old) (answer-err size k q z) in
    let positive = ne_eqb (number_of q) 0 (number-positive q) in
    ap (λ (j : ℕ). in_room j size room) z ∙ ap (λ (b : Bool). cond (not b) (number_of q) (cond (ltb room size) 21 0)) positive
    ∙ sym (ap (λ (b : Bool). cond b (cond (ltb room old) 21 0) (number_of q)) positive) ∙ sym (ap (λ (x : ℕ × ℕ). measured_number x.0 x.1 room) whole)

-- ---- so the first number that each call tells is that of its definition, and no refusal has the number 0
pub written-number : (p : Parts) (room old : ℕ) → (value_told (written p room) old).0 ≡ write_number p room
written-number p room old = number-first (written p room) old ∙ number-told (sheet_length p) (write_number p room) (write-known p room)

pub written-refused : (p : Parts) (room : ℕ) (r : Refusal) → Err r ≡ written p room → number_of r ≡ 0 → ⊥
written-refused p room r e = number-positive r

-- of rows, and of a sheet that has rows
pub converted-number : (k : ℕ) → Known k → (size old : ℕ) → (value_told (answer size k) old).0 ≡ k
converted-number k n size old = number-first (answer size k) old ∙ number-told size k n

pub distances-number : (bytes : List ℕ) (words room old : ℕ) → (value_told (distance_answer bytes words room) old).0 ≡ distance_number bytes words room
distances-number bytes words room old = number-first (distance_answer bytes words room) old ∙ number-told _ (distance_number bytes words room) (distance-known bytes words room)

pub distances-refused : (bytes : List ℕ) (words room : ℕ) (r : Refusal) → Err r ≡ distance_answer bytes words room → number_of r ≡ 0 → ⊥
distances-refused bytes words room r e = number-positive r

listed-first : (a : Result Listed Refusal) (states links taken : ℕ) → (listed_told a states links taken).0 ≡ number_in a
listed-first (Ok made) states links taken = refl
listed-first (Err r) states links taken = refl

pub listed-number : (bytes : List ℕ) (n words room states links taken : ℕ) → (listed_told (list_answer bytes n words room) states links taken).0 ≡ list_number bytes n words room
listed-number bytes n words room states links taken =
    listed-first (list_answer bytes n words room) states links taken ∙ number-told _ (list_number bytes n words room) (list-known bytes n words room)

pub listed-refused : (bytes : List ℕ) (n words room : ℕ) (r : Refusal) → Err r ≡ list_answer bytes n words room → number_of r ≡ 0 → ⊥
listed-refused bytes n words room r e = number-positive r
