-- What refusal 13 means, in the words of request (g). Definitions only.
use Rattle.std.specs.Prelude.{◌≡◌, ◌⊎◌, ℕ, ◌≤◌, ◌<◌, length}
use Rattle.std.proofs.Math.Option.{none, some}
use Rattle.tropical_weight.specs.Tropical.{Tropical}
use Rattle.sheet.specs.Machine.{Machine}
use Rattle.machine.specs.Readings.{link, final}

module _ (c : ℕ) (m : Machine) where
  -- the start is above c
  pub record StartsAbove : Type 0 where
    pub start : ℕ
    pub starts : m.start ≡ some start
    pub above : c < start

  -- a node below c has mark 1
  pub record MarkedBelow : Type 0 where
    pub node : ℕ
    pub weight : Tropical
    pub below : node < c
    pub marked : final m node ≡ some weight

  -- a link leads from below c to above it
  pub record LeadsPast : Type 0 where
    pub at : ℕ
    pub inside : at < length m.links
    pub from_below : (link m at).source < c
    pub to_above : c < (link m at).next

  -- 13: c is not below N, the start is absent or above c, or there is such a mark or such a link
  abbrev pub Wide : Type 0
  Wide = (length m.finals ≤ c) ⊎ ((m.start ≡ none) ⊎ (StartsAbove ⊎ (MarkedBelow ⊎ LeadsPast)))
