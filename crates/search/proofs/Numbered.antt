-- What the numbers of a search tell: entries come from earlier ones, and what is listed are entries. Definitions only.
use mathlib.Core.Path.{◌≡◌}
use Prim.Native.Nat.{ℕ, ◌-◌, ◌≤◌, ◌<◌}
use lib.ListN.{length, get_or}
use Rattle.machine.specs.Demand.{◌∈◌}
use Rattle.search.specs.Search.{first, Search}

pub record Numbered (s : Search) : Type 0 where
  pub some_in : 0 < length s.entries
  pub zeroth : get_or s.entries 0 first ≡ first
  -- the first from itself
  pub earlier : (i : ℕ) → (get_or s.entries i first).from ≤ i - 1
  pub inside : (i : ℕ) → i ∈ s.listed → i < length s.entries
