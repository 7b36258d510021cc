-- Serves the proofs: what the laws ask of a machine. A reader need not believe it: the machine of an accepted sheet is such a one (proofs/Accepted).
-- That its links climb, and how large its weights are. Definitions only.
use Rattle.std.specs.Prelude.{◌≡◌, ℕ, ◌≤◌, ◌<◌, length}
use Rattle.std.proofs.Math.Option.{some}
use Rattle.tropical_weight.specs.Tropical.{Tropical, Within}
use Rattle.sheet.specs.Machine.{Machine}
use Rattle.machine.specs.Readings.{link, final}

-- Each link leads to a higher node below N, and sources never fall along the list.
pub record Climbs (m : Machine) : Type 0 where
  pub rises : (l : ℕ) → l < length m.links → (link m l).source < (link m l).next
  pub inside : (l : ℕ) → l < length m.links → (link m l).next < length m.finals
  pub sorted : (k l : ℕ) → k ≤ l → l < length m.links → (link m k).source ≤ (link m l).source

-- no finite weight has more than `most` units either way
pub record Small (most : ℕ) (m : Machine) : Type 0 where
  pub on_link : (l : ℕ) → l < length m.links → Within most (link m l).weight
  pub on_final : (v : ℕ) (w : Tropical) → final m v ≡ some w → Within most w
