-- What counting answers, and what is told of the unit, by what reading found. Assumes nothing.
use mathlib.Core.Path.{◌≡◌, sym, ap, ◌∙◌}
use mathlib.Core.List.{List}
use Prim.Native.Nat.{ℕ, ◌^◌}
use lib.ListN.{length}
use Rattle.std.specs.Prelude.{Ok, Err}
use Rattle.sheet.specs.declared.accepted.Sheet.{Sheet}
use Rattle.sheet.specs.declared.tr.Trailer.{Trailer}
use Rattle.sheet.specs.declared.refusal.Refusal.{Refusal}
use Rattle.sheet.specs.Refusals.{number_of}
use Rattle.sheet.specs.Below.{list_below}
use Rattle.sheet.specs.Records.{mark_at, final_at, trailer_at}
use Rattle.sheet.specs.Answers.{tested}
use Rattle.sheet.specs.Sheet.{unit_of, mark, final_bits, parts_of, read_number, stated_links, stated_nodes, trailer_field}
use Rattle.sheet.specs.Machine.{machine_of, machine, unit_in, final_of, start_field}
use Rattle.sheet.proofs.Refusals.{answer-ok, answer-some, answer-none}
use Rattle.sheet.proofs.Below.{list_below-same}
use Rattle.sheet.proofs.Fields.{read-fields}
use Rattle.machine.specs.Readings.{marked}
use Rattle.machine.proofs.Again.{start_again, links-stated, nodes-stated}
use Rattle.machine.proofs.Machines.{unit-of}
use Rattle.machine.specs.Finals.{final_count}
use Rattle.machine.proofs.FinalCount.{count-marked}
use Rattle.sheet_fields.specs.declared.counts.SheetCounts.{SheetCounts}
use Rattle.sheet_fields.specs.Counts.{counts_in, counts_of}
use Rattle.sheet_fields.specs.Units.{unit_told}

-- ---- the machine of a sheet, by what the trailer states
module _ (bytes : List ℕ) where
  finals-stated : final_count bytes (stated_links bytes) (stated_nodes bytes) ≡ marked (machine bytes).finals
  unfolding machine_of
  finals-stated =
      let p = parts_of bytes in
      let unit = unit_of p.form in
      let T = stated_links bytes in
      let N = stated_nodes bytes in
      let f = read-fields bytes in
      sym (count-marked bytes T unit N)
      ∙ ap marked
      (list_below-same N (λ v. final_of unit (mark_at bytes T v) (final_at bytes T v)) (λ v. final_of unit (mark p v) (final_bits p v)) (λ v h i. final_of unit (sym (f.mark-is v h) i) (sym (f.final-is v h) i))
      ∙ ap (λ (n : ℕ). list_below n (λ v. final_of unit (mark p v) (final_bits p v))) (sym f.nodes-are))

  start-stated : trailer_field bytes 4 ≡ start_field (machine bytes).start
  unfolding machine_of parts_of
  start-stated = sym (start_again (trailer_field bytes 4))

-- ---- the answer
pub counts-refused : (bytes : List ℕ) (r : Refusal) → number_of r ≡ read_number bytes → Err r ≡ counts_of bytes
counts-refused bytes r e = answer-none (counts_in (machine bytes)) (read_number bytes) r e

-- of what reading accepts, by its trailer
pub counts-of-trailer : (bytes : List ℕ) (t : Trailer) → read_number bytes ≡ 0 → t ≡ trailer_at bytes → (finals : ℕ) → finals ≡ final_count bytes t.links t.nodes → Ok (record { nodes = t.nodes; links = t.links; finals = finals; start = t.start }) ≡ counts_of bytes
counts-of-trailer bytes t accepted stated finals f =
    let nodes : t.nodes ≡ length (machine bytes).finals = ap (λ (t : Trailer). t.nodes) stated ∙ sym (nodes-stated bytes) in
    let links : t.links ≡ length (machine bytes).links = ap (λ (t : Trailer). t.links) stated ∙ sym (links-stated bytes) in
    let marks : finals ≡ marked (machine bytes).finals = f ∙ ap (λ (t : Trailer). final_count bytes t.links t.nodes) stated ∙ finals-stated bytes in
    let start : t.start ≡ start_field (machine bytes).start = ap (λ (t : Trailer). t.start) stated ∙ start-stated bytes in
    let made : SheetCounts = counts_in (machine bytes) in
    (λ i. Ok (record { nodes = nodes i; links = links i; finals = marks i; start = start i })) ∙ sym (answer-ok made (read_number bytes) accepted)

pub counts-told : (bytes : List ℕ) (t : Trailer) → tested bytes ≡ Ok t → (finals : ℕ) → finals ≡ final_count bytes t.links t.nodes → Ok (record { nodes = t.nodes; links = t.links; finals = finals; start = t.start }) ≡ counts_of bytes
counts-told bytes t e finals f =
    let a = answer-some (trailer_at bytes) (read_number bytes) t (sym e) in
    counts-of-trailer bytes t a.0 a.1 finals f

-- ---- the unit
pub unit-refused : (bytes : List ℕ) (r : Refusal) → number_of r ≡ read_number bytes → Err r ≡ unit_told bytes
unit-refused bytes r e = answer-none (2 ^ unit_in (machine bytes)) (read_number bytes) r e

pub unit-told : (s : Sheet) (units : ℕ) → units ≡ 2 ^ unit_of s.form → Ok units ≡ unit_told s.bytes.now
unit-told s units e = let bytes = s.bytes.now in ap Ok (e ∙ ap (λ (j : ℕ). 2 ^ j) (sym (unit-of s))) ∙ sym (answer-ok (2 ^ unit_in (machine bytes)) (read_number bytes) s.accepted)
