use mathlib.Core.Path.{◌≡◌, ap, ◌∙◌}
use mathlib.Core.List.{List, [], ◌∷◌}
use Prim.Native.Nat.{ℕ}
use lib.ListN.{length}
use Rattle.std.specs.Prelude.{Option}
use Rattle.sheet.specs.declared.tr.Link.{Link}
use Rattle.sheet.specs.Sheet.{read_number}
use Rattle.sheet.specs.Machine.{machine, unit_in, link_fields}
use Rattle.sheet.specs.Reading.{next_link}
use Rattle.machine.specs.Readings.{link}
use Rattle.sheet_fields.proofs.Passed.{link-told}
use Rattle.yeldmur.specs.Told.{link_told, numbered}
use Rattle.yeldmur.proofs.Numbered.{link-numbered}
use Rattle.yeldmur.proofs.yeldmur_link.Goals as goal

-- an answer told by numbers, with what it is of an accepted sheet
answer : (sheet : List ℕ) (number : ℕ) (old : List ℕ) (s : Option Link) → s ≡ next_link sheet number → (x : List ℕ) → x ≡ link_told s old
    → (x ≡ link_told (next_link sheet number) old) × (read_number sheet ≡ 0 → x ≡ numbered number (length (machine sheet).links) (link_fields (unit_in (machine sheet)) (link (machine sheet) number)) old)
answer sheet number old s e x is =
    let told = is ∙ ap (λ (s : Option Link). link_told s old) e in
    (told, λ read. told ∙ link-numbered (machine sheet) number old (next_link sheet number) (link-told sheet read number))

pub returns-in-Some : goal.returns-in-Some
returns-in-Some c =
    let a = c.args in
    let k = c.in-Some.link in
    let old = a.ilabel.now ∷ a.olabel.now ∷ a.weight_bits.now ∷ a.next.now ∷ [] in
    let told = answer a.sheet.now a.number old _ c.in-Some.ensures _ (λ i. 0 ∷ k.ilabel ∷ k.olabel ∷ c.to_bits.ensures i ∷ k.nextstate ∷ []) in
    record { next_after = told.0; next_after_2 = told.1 }

pub returns-in-None : goal.returns-in-None
returns-in-None c =
    let a = c.args in
    let old = a.ilabel.now ∷ a.olabel.now ∷ a.weight_bits.now ∷ a.next.now ∷ [] in
    let told = answer a.sheet.now a.number old _ c.in-None.ensures _ (λ i. c.from.ensures i ∷ old) in
    record { next_after = told.0; next_after_2 = told.1 }
