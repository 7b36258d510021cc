use Rattle.std.proofs.Common.{◌≡◌, ℕ, ◌*◌, ◌<◌}
use Rattle.sheet.specs.Sheet.{link_length}
use Rattle.sheet.specs.Reading.{next_link, place_at}
use Rattle.replay_sheets.specs.Given.{Given}
use Rattle.replay_sheets.proofs.reads.Given as goal

abbrev pub invariant-loop-k : goal.invariant-loop-k
invariant-loop-k l = (l.reader.sheet.now ≡ l.sheet) × (l.reader.next ≡ place_at l.sheet l.k) × ((j : ℕ) → j < l.k → Given (next_link l.sheet (place_at l.sheet j)) l.links (link_length * j))
