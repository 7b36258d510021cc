-- Mirrors the code: a walk over the links of a sheet, link by link. A reader need not believe it: laws tie it to Follows (proofs/Follow).
-- Definitions only.
use Rattle.std.specs.Prelude.{◌≡◌, true, false, cond, List, ℕ, ◌+◌, length, Option as Maybe, Some, None}
use Rattle.std.proofs.Math.Option.{Option, none, some}
use Rattle.sheet.specs.Machine.{Machine, machine}
use Rattle.machine.specs.Readings.{link, IsReading, reading_of}
use Rattle.read_back.specs.declared.walk.Walk.{Walk}
use Rattle.read_back.specs.declared.way.HeldList.{HeldList}
use Rattle.read_back.specs.Way.{last_state, only_link, falls, way_from, way_of}
use Rattle.read_back.specs.Follows.{goes_by, follows, ends_at, if_reading}
use Rattle.read_back.specs.Answers.{run_in}

-- the place that a walk comes to by what a result tells, as how many links it has taken and the node: where that is no number it stays, else it goes on by that link
abbrev pub goes_to : Machine → ℕ → ℕ → Maybe ℕ → Option (ℕ × ℕ)
goes_to m u count None = some (count, u)
goes_to m u count (Some l) = cond (goes_by m u l) (some (count + 1, (link m l).next)) none

-- the links of a reading from here on, with those before them, and the node where it ends
abbrev pub ended_by : ℕ → List ℕ → Option ℕ → Option (ℕ × ℕ)
ended_by count run none = none
ended_by count run (some v) = some (count + length run, v)

abbrev pub outcome : Machine → ℕ → ℕ → Option (List ℕ) → Option (ℕ × ℕ)
outcome m u count none = none
outcome m u count (some run) = ended_by count run (ends_at m (follows m u run))

-- a walk over this sheet that has come to this place
abbrev pub Comes : List ℕ → Option (ℕ × ℕ) → Maybe Walk → Type 0
Comes sheet place None = place ≡ none
Comes sheet place (Some w) = (w.at.sheet.bytes.now ≡ sheet) × (place ≡ some (w.count, w.at.node))

-- ---- the list for n that a result holds
-- a way through its machine
abbrev pub way_in : HeldList → ℕ → Option (List ℕ)
way_in l q = way_from l.form l.res.now l.nodes l.links l.before (last_state l.n) l.nodes q

-- the only link of a state above the last, where it leads to a lower state
abbrev pub FallsBy : HeldList → ℕ → Maybe ℕ → Type 0
FallsBy l q None = falls l.res.now l.nodes l.links l.before (last_state l.n) q ≡ false
FallsBy l q (Some only) = (falls l.res.now l.nodes l.links l.before (last_state l.n) q ≡ true) × (only ≡ only_link l.res.now l.nodes l.links l.before (last_state l.n) q)

-- the way of reading k
abbrev pub way_to : HeldList → ℕ → Option (List ℕ)
way_to l k = way_of l.form l.res.now l.nodes l.links l.n k

-- the state where it begins, where there is one
abbrev pub BeginsBy : HeldList → ℕ → Maybe ℕ → Type 0
BeginsBy l k None = way_to l k ≡ none
BeginsBy l k (Some q) = way_in l q ≡ way_to l k

-- a way that is a reading, as a walk counted it and where it came to
pub record Follows (m : Machine) (way : Option (List ℕ)) (w : Walk) : Type 0 where
  pub is : way ≡ some (run_in way)
  pub held : if_reading m way ≡ some (run_in way)
  pub counts : w.count ≡ length (run_in way)
  pub reading : IsReading m (reading_of m (run_in way))
  pub ends : w.at.node ≡ (reading_of m (run_in way)).end

-- the walk along the way of reading k, from the start of the sheet, where it is a reading
abbrev pub Walked : List ℕ → Option (List ℕ) → Maybe Walk → Type 0
Walked sheet way None = if_reading (machine sheet) way ≡ none
Walked sheet way (Some w) = (w.at.sheet.bytes.now ≡ sheet) × Follows (machine sheet) way w
