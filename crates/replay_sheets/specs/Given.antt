-- What a link reader must give, by the links that a stored case tells. Definitions only.
use Rattle.std.specs.Prelude.{◌≡◌, List, ℕ, ◌+◌, ◌*◌, ◌≤◌, length, Option, Some, None}
use Rattle.std.specs.Float.{binary32}
use Rattle.std.specs.Float.Ieee.{to_bits}
use Rattle.sheet.specs.declared.tr.Link.{Link}
use Rattle.sheet.specs.Words.{word_length, word}
use Rattle.sheet.specs.Sheet.{link_length}
use Rattle.sheet.specs.Reading.{next_link, place_at}
use Rattle.sheet.specs.Refusals.{number_in}
use Rattle.sheet.specs.Answers.{tested}
use Rattle.stored_cases.specs.Digits.{number_on}
use Rattle.stored_cases.specs.Fields.{field_of, rest_of}
use Rattle.stored_cases.specs.Parts.{bytes_told}

-- a link with the four fields that stand at an index
abbrev pub SameFields : Link → List ℕ → ℕ → Type 0
SameFields k links at = (k.ilabel ≡ word links at) × (k.olabel ≡ word links (at + word_length)) × (to_bits binary32 k.weight ≡ word links (at + 2 * word_length)) × (k.nextstate ≡ word links (at + 3 * word_length))

-- the link whose fields stand at an index, or none where the links end there
abbrev pub Given : Option Link → List ℕ → ℕ → Type 0
Given (Some k) links at = (at + link_length ≤ length links) × SameFields k links at
Given None links at = length links ≡ at

-- one by one, from the first link to the end: what a reader gives that went on k times
abbrev pub Reads : List ℕ → List ℕ → Type 0
Reads sheet links = (k : ℕ) → link_length * k ≤ length links → Given (next_link sheet (place_at sheet k)) links (link_length * k)

-- the case of a line: reading the sheet from field 1 on answers the number in field 0, and a link reader gives the links from field 2 on
abbrev pub Holds : List ℕ → Type 0
Holds line = let sheet = bytes_told (rest_of line 1) 256 in (number_in (tested sheet) ≡ number_on 0 (field_of line 0)) × Reads sheet (bytes_told (rest_of line 2) 256)
