-- Whether a run of link numbers is a reading of a machine, as a test: it begins at the start, no link of it is barred, and its node gives a finite ending. Definitions only.
use Rattle.std.specs.Prelude.{Bool, ◌&&◌, cond, List, [], ◌∷◌, ℕ, eqb, ltb, length}
use Rattle.std.proofs.Math.Option.{Option, none, some}
use Rattle.tropical_weight.specs.Tropical.{Tropical, inf, lt_t}
use Rattle.sheet.specs.Machine.{Machine}
use Rattle.machine.specs.Readings.{link, final, final_weight}

-- link l is one of the machine's, and leaves u
abbrev pub leaves : Machine → ℕ → ℕ → Bool
leaves m u l = ltb l (length m.links) && eqb (link m l).source u

-- and is not barred
abbrev pub goes_by : Machine → ℕ → ℕ → Bool
goes_by m u l = leaves m u l && lt_t (link m l).weight inf

-- the node that a run from u leads to, or none where a link of it does not leave the node reached, or is barred
abbrev pub follows : Machine → ℕ → List ℕ → Option ℕ
follows m u [] = some u
follows m u (l ∷ run) = let on = follows m (link m l).next run in cond (goes_by m u l) on none

-- mark 1, and a finite weight
abbrev pub is_ending : Option Tropical → Bool
is_ending o = lt_t (final_weight o) inf

-- a node, where a reading may end at it
abbrev pub ends_at : Machine → Option ℕ → Option ℕ
ends_at m none = none
ends_at m (some v) = cond (is_ending (final m v)) (some v) none

-- the node that a run from u ends at as a reading does
abbrev pub ends_from : Machine → Option ℕ → List ℕ → Option ℕ
ends_from m none run = none
ends_from m (some u) run = ends_at m (follows m u run)

-- the node that a run ends at as a reading, or none where it is no reading
abbrev pub reads_to : Machine → List ℕ → Option ℕ
reads_to m run = ends_from m m.start run

-- a run, where it is a reading
abbrev pub run_by : List ℕ → Option ℕ → Option (List ℕ)
run_by run none = none
run_by run (some v) = some run

abbrev pub if_reading : Machine → Option (List ℕ) → Option (List ℕ)
if_reading m none = none
if_reading m (some run) = run_by run (reads_to m run)
