-- Demand 2 of the open call for distances, about the count that it answers and the bytes of the result area alone: each distance is reached at the least path sum
-- of Mohri's definition, or unreached. Definitions only.
use Rattle.std.specs.Prelude.{◌≡◌, ◌⊎◌, List, ℕ, suc, ◌+◌, ◌*◌, ◌<◌, ℤ, length, Result, Ok, Err}
use Rattle.std.proofs.Math.Option.{some}
use Rattle.tropical_weight.specs.Tropical.{fin, ◌≼◌}
use Rattle.sheet.specs.Words.{word_length, word}
use Rattle.sheet.specs.Machine.{Machine, unit_in, machine, bits_of}
use Rattle.machine.specs.Readings.{link, IsRun, run_cost}
use Rattle.distance.specs.Written.{written_length}
use Rattle.sheet.specs.declared.refusal.Refusal.{Refusal}

-- a run of links from the start to v, at a finite cost
pub record RunTo (m : Machine) (v : ℕ) : Type 0 where
  pub start : ℕ
  pub run : List ℕ
  pub starts : m.start ≡ some start
  pub runs : IsRun m start run v
  pub costs : ℤ
  pub finite : run_cost m run ≡ fin costs

-- a link, barred or not, that leads to v from a node that such a run leads to
pub record LedTo (m : Machine) (v : ℕ) : Type 0 where
  pub by : ℕ
  pub exists : by < length m.links
  pub leads : (link m by).next ≡ v
  pub from : RunTo m (link m by).source

-- So many units are the least cost of a run to v.
pub record LeastTo (m : Machine) (v : ℕ) (k : ℤ) : Type 0 where
  -- at most the cost of every run, and that of one
  pub below : (x : RunTo m v) → fin k ≼ run_cost m x.run
  pub run : RunTo m v
  pub attained : run_cost m run.run ≡ fin k

-- The two words of v are 1 and the bits, in the unit of the machine, of the least cost of a run to it.
pub record ReachedAt (m : Machine) (result : List ℕ) (v : ℕ) : Type 0 where
  pub cost : ℤ
  pub mark : word result (written_length * v) ≡ 1
  pub bits : word result (written_length * v + word_length) ≡ bits_of (unit_in m) (fin cost)
  pub least : LeastTo m v cost

-- They are 0 and 0, and no such run leads to it.
pub record UnreachedAt (m : Machine) (result : List ℕ) (v : ℕ) : Type 0 where
  pub mark : word result (written_length * v) ≡ 0
  pub bits : word result (written_length * v + word_length) ≡ 0
  pub none : RunTo m v → ⊥

-- The first bytes of a result hold so many distances.
pub record Least (m : Machine) (count : ℕ) (result : List ℕ) : Type 0 where
  -- each is reached with its cost, or unreached
  pub values : (v : ℕ) → v < count → ReachedAt m result v ⊎ UnreachedAt m result v
  -- the count is above every node that such a run leads to, or such a link, and one more than such a node, or 0
  pub above : (v : ℕ) → RunTo m v ⊎ LedTo m v → v < count
  pub highest : (v : ℕ) → count ≡ suc v → RunTo m v ⊎ LedTo m v

-- of an answer, and the result area afterwards
abbrev pub Promised : List ℕ → Result ℕ Refusal → List ℕ → Type 0
Promised bytes (Ok count) result = Least (machine bytes) count result
Promised bytes (Err k) result = Unit
