-- What a link reader gives: the links that the trailer states, by their numbers, and then none. Definitions only.
use Rattle.std.specs.Prelude.{ℕ, zero, suc, ◌+◌, ◌*◌, Bool, true, false, ◌&&◌, List, leb, ltb, length, Option, Some, None}
use Rattle.sheet.specs.declared.reader.Reader.{Reader}
use Rattle.sheet.specs.declared.tr.Link.{Link}
use Rattle.sheet.specs.Sheet.{link_length, short_trailer, trailer_size, stated_links}
use Rattle.sheet.specs.Records.{link_at}

-- whether there is a link l: the trailer states it, and the links that it states lie before the trailer
abbrev pub has_link : List ℕ → ℕ → Bool
has_link bytes l =
    leb short_trailer (length bytes) && ltb l (stated_links bytes) && leb (link_length * stated_links bytes + trailer_size bytes) (length bytes)

-- by whether there is a link l
abbrev pub next_by : Bool → List ℕ → ℕ → Option Link
next_by true bytes l = Some (link_at bytes l)
next_by false bytes l = None

-- link l, or the end
abbrev pub next_link : List ℕ → ℕ → Option Link
next_link bytes l = next_by (has_link bytes l) bytes l

-- by whether there is a link l
abbrev pub place_by : Bool → ℕ → ℕ
place_by true l = l + 1
place_by false l = l

-- the number after l where there is a link l, else l
abbrev pub place_after : List ℕ → ℕ → ℕ
place_after bytes l = place_by (has_link bytes l) l

-- a reader past its next link: the same borrow, and the number after
abbrev pub read_on : Reader → Reader
read_on r = record { sheet = r.sheet; next = place_after r.sheet.now r.next }

-- the place of a reader that began at link 0 and went on so many times
unfoldable pub place_at : List ℕ → ℕ → ℕ
place_at bytes zero = 0
place_at bytes (suc k) = place_after bytes (place_at bytes k)
