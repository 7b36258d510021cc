-- A reader as an iterator: what its next step gives, and how many links are left. Definitions only.
use Rattle.std.specs.Prelude.{◌≡◌, ℕ, ◌-◌, Option}
use Rattle.sheet.specs.declared.reader.Reader.{Reader}
use Rattle.sheet.specs.declared.tr.Link.{Link}
use Rattle.sheet.specs.Sheet.{stated_links}
use Rattle.sheet.specs.Reading.{next_link, read_on}

-- the next link or none, and then the reader past it, over the same borrow
abbrev pub Gives : Reader → Option Link → Reader → Type 0
Gives r given after = (given ≡ next_link r.sheet.now r.next) × (after ≡ read_on r)

-- no more than the links that the trailer states past the next one's number
abbrev pub links_left : Reader → ℕ
links_left r = stated_links r.sheet.now - r.next
