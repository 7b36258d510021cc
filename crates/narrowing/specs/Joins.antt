-- The readings of a machine by those of its two parts, in words for the user of both. Definitions only.
use Rattle.std.specs.Prelude.{◌≡◌, ℕ, ◌+◌, ◌++◌, map}
use Rattle.tropical_weight.specs.Tropical.{◌⊗◌}
use Rattle.sheet.specs.Machine.{Machine}
use Rattle.machine.specs.Readings.{Reading, IsReading, reading_cost}

-- a reading of the first part, and then one of the second, whose nodes count from c, by the numbers that their links have in the whole
abbrev pub joined : ℕ → (ℕ → ℕ) → (ℕ → ℕ) → Reading → Reading → Reading
joined c low high x y = record { run = map low x.run ++ map high y.run; end = c + y.end }

module _ (m first second : Machine) (join : Reading → Reading → Reading) where
  -- z is a reading of each part, joined
  pub record Halves (z : Reading) : Type 0 where
    pub first_half : Reading
    pub second_half : Reading
    pub first-reads : IsReading first first_half
    pub second-reads : IsReading second second_half
    pub is : z ≡ join first_half second_half

  -- The readings of m are those of the first part joined to those of the second, each pair once, and cost their sum.
  pub record Joins : Type 0 where
    pub whole : (x y : Reading) → IsReading first x → IsReading second y → IsReading m (join x y)
    pub sum : (x y : Reading) → IsReading first x → IsReading second y → reading_cost m (join x y) ≡ reading_cost first x ⊗ reading_cost second y
    pub halves : (z : Reading) → IsReading m z → Halves z
    pub apart : (x z y w : Reading) → IsReading first x → IsReading first z → IsReading second y → IsReading second w → join x y ≡ join z w → (x ≡ z) × (y ≡ w)
