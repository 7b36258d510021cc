-- What refusals 14, 10, 11 and 12 of two machines mean, in the words of requests (f) and (h). Every link counts, and every pair of links of one label
-- and of final nodes, reached or not. Definitions only.
use Rattle.std.specs.Prelude.{◌≡◌, ◌≢◌, ◌⊎◌, ◌↔◌, cond, ℕ, ◌*◌, ◌<◌, eqb, length}
use Rattle.std.proofs.Math.Option.{some}
use Rattle.tropical_weight.specs.Limits.{weight_limit, node_limit, link_limit}
use Rattle.tropical_weight.specs.Tropical.{Tropical, ◌⊗◌, Within}
use Rattle.sheet.specs.Below.{sum_below}
use Rattle.sheet.specs.Machine.{Machine, unit_in}
use Rattle.machine.specs.Readings.{link, final}
use Rattle.product.specs.Product.{nodes}

-- some link has input label 0, or another output label than its input label
pub record Mislabelled (m : Machine) : Type 0 where
  pub at : ℕ
  pub inside : at < length m.links
  pub wrong : ((link m at).ilabel ≡ 0) ⊎ ((link m at).olabel ≢ (link m at).ilabel)

-- of a sum: it is finite, and has more units than the limit either way
abbrev pub OffGrid : Tropical → Type 0
OffGrid w = Within weight_limit w → ⊥

module _ (a b : Machine) where
  -- links of one label whose weights' sum is off the grid
  pub record LinkSum : Type 0 where
    pub first : ℕ
    pub second : ℕ
    pub in-first : first < length a.links
    pub in-second : second < length b.links
    pub same-label : (link a first).ilabel ≡ (link b second).ilabel
    pub off : OffGrid ((link a first).weight ⊗ (link b second).weight)

  -- final nodes whose weights' sum is off the grid
  pub record FinalSum : Type 0 where
    pub first : ℕ
    pub second : ℕ
    pub first_weight : Tropical
    pub second_weight : Tropical
    pub in-first : final a first ≡ some first_weight
    pub in-second : final b second ≡ some second_weight
    pub off : OffGrid (first_weight ⊗ second_weight)

  -- 14: two sheets of unequal unit
  abbrev pub UnequalUnits : Type 0
  UnequalUnits = unit_in a ≢ unit_in b

  -- 10: a label that is 0 or differs between input and output
  abbrev pub BadLabel : Type 0
  BadLabel = Mislabelled a ⊎ Mislabelled b

  -- how many pairs of links have one label
  abbrev pub alike : ℕ
  alike = sum_below (length a.links) (λ l. sum_below (length b.links) (λ k. cond (eqb (link a l).ilabel (link b k).ilabel) 1 0))

  -- 11: a product above the node or link limit
  abbrev pub TooLarge : Type 0
  TooLarge = (node_limit < nodes a * nodes b) ⊎ (link_limit < alike)

  -- 12: a finite sum off the grid
  abbrev pub BadSum : Type 0
  BadSum = LinkSum ⊎ FinalSum

  -- each number where its words hold and those before do not, and nowhere else
  pub record Refused (number : ℕ) : Type 0 where
    pub units : number ≡ 14 ↔ UnequalUnits
    pub labels : number ≡ 10 ↔ ((UnequalUnits → ⊥) × BadLabel)
    pub size : number ≡ 11 ↔ ((UnequalUnits → ⊥) × (BadLabel → ⊥) × TooLarge)
    pub sums : number ≡ 12 ↔ ((UnequalUnits → ⊥) × (BadLabel → ⊥) × (TooLarge → ⊥) × BadSum)

  -- and none of the words
  abbrev pub Unrefused : Type 0
  Unrefused = (UnequalUnits → ⊥) × (BadLabel → ⊥) × (TooLarge → ⊥) × (BadSum → ⊥)
