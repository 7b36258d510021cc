-- The parts of a text, one after the other. Assumes nothing.
use Rattle.std.proofs.Common.{◌≡◌, ℕ, zero, suc, ◌-◌, List, [], ◌∷◌, refl, ap, ◌∙◌, drop}
use Rattle.std.specs.Prelude.{Some, None}
use Rattle.std.specs.List.{fold}
use Rattle.stored_cases.specs.declared.bytes.Part.{Part}
use Rattle.stored_cases.specs.declared.bytes.Part.TheVariants.{Byte, Nothing, Again, Raised}
use Rattle.stored_cases.specs.Parts.{part_at, size_of, led_by, parts_from, with_part, with_parts}

-- those behind so many characters are those of what is left
skipped : (k : ℕ) (text : List ℕ) → parts_from k text ≡ parts_from 0 (drop k text)
unfolding parts_from
skipped zero text = refl
skipped (suc k) [] = refl
skipped (suc k) (c ∷ text) = skipped k text

cut : (part : Part) (c : ℕ) (text : List ℕ) → drop (size_of part - 1) text ≡ drop (size_of part) (c ∷ text)
cut (Byte value) c text = refl
cut Nothing c text = refl
cut (Again back more) c text = refl
cut (Raised back more) c text = refl

-- the first part, and those behind it
parts-next : (text : List ℕ) (part : Part) → part_at text ≡ Some part → parts_from 0 text ≡ part ∷ parts_from 0 (drop (size_of part) text)
unfolding parts_from
parts-next [] part e = absurd (cc)
parts-next (c ∷ text) part e =
    ap (λ p. led_by p (λ k. parts_from k text)) e ∙ ap (λ rest. part ∷ rest) (skipped (size_of part - 1) text ∙ ap (parts_from 0) (cut part c text))

-- where none begins there are none
parts-none : (text : List ℕ) → part_at text ≡ None → parts_from 0 text ≡ []
unfolding parts_from
parts-none [] e = refl
parts-none (c ∷ text) e = ap (λ p. led_by p (λ k. parts_from k text)) e

-- ---- what they put
pub with-next : (room : ℕ) (bytes text : List ℕ) (part : Part) → part_at text ≡ Some part → with_parts room bytes (parts_from 0 text) ≡ with_parts room (with_part room bytes part) (parts_from 0 (drop (size_of part) text))
unfolding with_parts
with-next room bytes text part e = ap (fold (with_part room) bytes) (parts-next text part e)

pub with-none : (room : ℕ) (bytes text : List ℕ) → part_at text ≡ None → with_parts room bytes (parts_from 0 text) ≡ bytes
unfolding with_parts
with-none room bytes text e = ap (fold (with_part room) bytes) (parts-none text e)
