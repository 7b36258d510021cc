-- The outcome by the number of the first test that fails, and how long the answer and its parts are. Assumes nothing.
use mathlib.Core.Path.{◌≡◌, refl, sym, ap, ◌∙◌}
use mathlib.Core.Logic.{inl}
use mathlib.Core.Bool.{Bool, true, not, cond}
use mathlib.Core.List.{List, ◌++◌}
use Prim.Native.Nat.{ℕ, ◌+◌, ◌-◌, ◌*◌, ◌≤◌, ◌<◌}
use native.Mathlib.Omega.{arith}
use lib.Dec.{ltb, eqb}
use lib.ListN.{length, length-append}
use lib.Seq.{sets}
use borrow.Author.Tests.{lt-ltb, le-ltb}
use Rattle.std.specs.Prelude.{Ok, Err}
use Rattle.sheet.specs.declared.refusal.Refusal.{Refusal}
use Rattle.sheet.specs.Refusals.{number_of}
use Rattle.sheet.specs.Words.{word_length, bytes_of_all}
use Rattle.sheet.specs.Sheet.{sheet_size, node_length, trailer_length, sheet_of, trailer_of}
use Rattle.sheet.specs.Machine.{Machine, unit_in, machine, parts_for}
use Rattle.sheet.proofs.Below.{length-list_below}
use Rattle.sheet.proofs.Bytes.{length-bytes_of_all}
use Rattle.sheet.proofs.Writing.{trailer-size}
use Rattle.sheet.proofs.Encoding.{length-links, length-nodes}
use Rattle.sheet.proofs.Refusals.{answer-made, answer-none, over-refused, over-stored, Known, known, known-cond, first-passed, first-failed, first-zero}
use Rattle.machine.specs.Climbs.{Climbs}
use Rattle.machine.specs.Input.{input_number}
use Rattle.machine.proofs.Machines.{input-known}
use Rattle.machine.proofs.SheetFields.{sheet-fields}
use Rattle.narrowing.specs.Narrows.{narrows, narrow_number}
use Rattle.narrowing.proofs.Refused.{narrow-known, number-passes, passes-number}
use Rattle.narrowing.specs.Parts.{is_before, is_after, preheat, bake, numbers}
use Rattle.narrowing.proofs.Seam.{narrowing, seam, seam-in, first-links, first-form, first-nodes, second-links, second-form, second-nodes, numbers-before, numbers-after}
use Rattle.preheat_bake.specs.declared.counts.Counts.{Counts}
use Rattle.preheat_bake.specs.Outcome.{part_bytes, parted, answer_of, split_number, counts_of, split_answer, split_over}
use Rattle.preheat_bake.specs.Promise.{numbered_length, parted_size}

-- ---- the number
module _ (bytes : List ℕ) (c room : ℕ) where
  pub number-known : Known (split_number bytes c room)
  unfolding split_number
  number-known =
      known-cond (not (eqb (input_number bytes) 0)) (input_number bytes) _ (input-known bytes)
      (known-cond (not (eqb (narrow_number c (machine bytes)) 0)) (narrow_number c (machine bytes)) _ (narrow-known c (machine bytes))
      (known-cond (ltb room (length (answer_of bytes c))) 21 0 (known Refusal.Room) (inl refl)))

  pub number-input : (r : Refusal) → input_number bytes ≡ number_of r → split_number bytes c room ≡ number_of r
  unfolding split_number
  number-input r e = first-failed (input_number bytes) _ r e

  -- a sheet that passes tests 1, 14 and 2 to 6: by the test of the node, and then by the room
  module _ (i : input_number bytes ≡ 0) where
    pub number-node : split_number bytes c room ≡ (let j = narrow_number c (machine bytes) in cond (not (eqb j 0)) j (cond (ltb room (length (answer_of bytes c))) 21 0))
    unfolding split_number
    number-node = first-passed (input_number bytes) _ i

    pub number-refused : (r : Refusal) → narrow_number c (machine bytes) ≡ number_of r → split_number bytes c room ≡ number_of r
    number-refused r e = number-node ∙ first-failed (narrow_number c (machine bytes)) _ r e

    module _ (n : narrows c (machine bytes) ≡ true) where
      number-room : split_number bytes c room ≡ cond (ltb room (length (answer_of bytes c))) 21 0
      number-room = number-node ∙ first-passed (narrow_number c (machine bytes)) _ (number-passes c (machine bytes) n)

      pub number-short : room < length (answer_of bytes c) → split_number bytes c room ≡ 21
      number-short h = number-room ∙ ap (λ (b : Bool). cond b 21 0) (lt-ltb room (length (answer_of bytes c)) h)

      pub number-made : length (answer_of bytes c) ≤ room → split_number bytes c room ≡ 0
      number-made h = number-room ∙ ap (λ (b : Bool). cond b 21 0) (le-ltb room (length (answer_of bytes c)) h)

  -- 0 says that tests 1, 14, 2 to 6 and 13 are passed
  pub number-zero : split_number bytes c room ≡ 0 → (input_number bytes ≡ 0) × (narrows c (machine bytes) ≡ true)
  unfolding split_number
  number-zero e =
      let x = first-zero (input_number bytes) _ e in
      (x.0, passes-number c (machine bytes) (first-zero (narrow_number c (machine bytes)) _ x.1).0)

-- ---- what is answered and what is left by the number
module _ (bytes : List ℕ) (c : ℕ) (old : List ℕ) where
  module _ (r : Refusal) (e : split_number bytes c (length old) ≡ number_of r) where
    pub refused-answer : Err r ≡ split_answer bytes c (length old)
    refused-answer = answer-none (counts_of c (machine bytes)) (split_number bytes c (length old)) r (sym e)

    pub refused-over : old ≡ split_over bytes c old
    refused-over = over-refused (answer_of bytes c) old (split_number bytes c (length old)) r e

  module _ (e : split_number bytes c (length old) ≡ 0) where
    pub made-answer : (told : Counts) → told ≡ counts_of c (machine bytes) → Ok told ≡ split_answer bytes c (length old)
    made-answer told h = answer-made (counts_of c (machine bytes)) (split_number bytes c (length old)) told h e

    pub made-over : length (answer_of bytes c) ≤ length old → sets old 0 (answer_of bytes c) ≡ split_over bytes c old
    made-over h = over-stored (answer_of bytes c) old (split_number bytes c (length old)) e h

-- ---- how long they are
pub sheet-long : (part : Machine) → length (sheet_of (parts_for part)) ≡ sheet_size part.form (length part.links) (length part.finals)
unfolding sheet_of parts_for
sheet-long part =
    let p = parts_for part in
    omega (arith, length-bytes_of_all (p.links ++ p.nodes ++ trailer_of p), length-append (p.links ++ p.nodes) (trailer_of p), length-append p.links p.nodes, length-links (unit_in part) part.links, length-nodes (unit_in part) part.links 0 part.finals, trailer-size p)

part-length : (part : Machine) (own : List ℕ) → length (part_bytes part own) ≡ sheet_size part.form (length part.links) (length part.finals) + word_length * length own
part-length part own = length-append (sheet_of (parts_for part)) (bytes_of_all own) ∙ omega (arith, sheet-long part, length-bytes_of_all own)

module _ (c : ℕ) (m : Machine) (k : Climbs m) where
  pub first-own : length (numbers (is_before c) m) ≡ length (preheat c m).links
  first-own = ap length (numbers-before c m k) ∙ length-list_below (seam c m) (λ l. l) ∙ sym (first-links c m)

  second-own : length (numbers (is_after c) m) ≡ length (bake c m).links
  second-own = ap length (numbers-after c m k) ∙ length-list_below (length m.links - seam c m) (λ l. seam c m + l) ∙ sym (second-links c m k)

  module _ (inside : c < length m.finals) where
    pub first-length : length (part_bytes (preheat c m) (numbers (is_before c) m)) ≡ numbered_length * seam c m + node_length * (c + 1) + trailer_length m.form
    first-length = omega (arith, part-length (preheat c m) (numbers (is_before c) m), first-own, first-links c m, first-nodes c m inside, ap trailer_length (first-form c m))

    pub second-length : length (part_bytes (bake c m) (numbers (is_after c) m)) ≡ numbered_length * (length m.links - seam c m) + node_length * (length m.finals - c) + trailer_length m.form
    second-length = omega (arith, part-length (bake c m) (numbers (is_after c) m), second-own, second-links c m k, second-nodes c m, ap trailer_length (second-form c m))

    -- whatever c is
    pub parted-length : length (parted c m) ≡ parted_size m
    unfolding parted
    parted-length =
        let first = part_bytes (preheat c m) (numbers (is_before c) m) in
        let second = part_bytes (bake c m) (numbers (is_after c) m) in
        omega (arith, length-append first second, first-length, second-length, seam-in c m, inside)

pub answer-length : (bytes : List ℕ) (c : ℕ) → input_number bytes ≡ 0 → narrows c (machine bytes) ≡ true
    → length (answer_of bytes c) ≡ parted_size (machine bytes)
answer-length bytes c i n = parted-length c (machine bytes) (sheet-fields bytes i).climbs (narrowing c (machine bytes) n).inside
