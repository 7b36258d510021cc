-- The two readings that a reading of the product stands for, and what is said of them. Definitions only.
use Rattle.std.specs.Prelude.{◌≡◌, List, map, ℕ, ◌/◌, ◌%◌, get_or}
use Rattle.tropical_weight.specs.Tropical.{◌⊗◌}
use Rattle.sheet.specs.Machine.{Machine}
use Rattle.machine.specs.Readings.{Reading, IsReading, link, reading_cost}
use Rattle.product.specs.Product.{Pair, nodes, pairs}

-- the input labels along a run
abbrev pub labels : Machine → List ℕ → List ℕ
labels m r = map (λ l. (link m l).ilabel) r

-- what stands where no pair has the number
abbrev pub no_pair : Pair
no_pair = record { first = 0; second = 0 }

module _ (a b : Machine) where
  -- the pair of link q of the product
  abbrev pub pair_at : ℕ → Pair
  pair_at q = get_or (pairs a b) q no_pair

  abbrev pub firsts : List ℕ → List ℕ
  firsts r = map (λ q. (pair_at q).first) r

  abbrev pub seconds : List ℕ → List ℕ
  seconds r = map (λ q. (pair_at q).second) r

  -- the reading of the first machine, and of the second, link by link
  abbrev pub first_of : Reading → Reading
  first_of x = record { run = firsts x.run; end = x.end / nodes b }

  abbrev pub second_of : Reading → Reading
  second_of x = record { run = seconds x.run; end = x.end % nodes b }

  -- A reading x of m stands for a reading of each, with the labels of x, and costs their sum.
  pub record Halves (m : Machine) (x : Reading) : Type 0 where
    pub first_reads : IsReading a (first_of x)
    pub second_reads : IsReading b (second_of x)
    pub first-labels : labels a (first_of x).run ≡ labels m x.run
    pub second-labels : labels b (second_of x).run ≡ labels m x.run
    pub sum : reading_cost m x ≡ reading_cost a (first_of x) ⊗ reading_cost b (second_of x)

  -- y and z are the readings that a reading of m stands for
  pub record Whole (m : Machine) (y z : Reading) : Type 0 where
    pub whole : Reading
    pub reads : IsReading m whole
    pub first-is : first_of whole ≡ y
    pub second_is : second_of whole ≡ z

  -- The readings of m correspond one to one to the pairs of readings with the same labels, and cost their sum.
  pub record OneToOne (m : Machine) : Type 0 where
    pub halves : (x : Reading) → IsReading m x → Halves m x
    pub meets : (y z : Reading) → IsReading a y → IsReading b z → labels a y.run ≡ labels b z.run → Whole m y z
    pub apart : (x y : Reading) → IsReading m x → IsReading m y → first_of x ≡ first_of y → second_of x ≡ second_of y → x ≡ y
