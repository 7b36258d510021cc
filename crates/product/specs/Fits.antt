-- Serves the proofs: refusal 12 sum by sum. A reader need not believe it: laws tie it to Refusals (proofs/Numbers). Definitions only.
use Rattle.std.specs.Prelude.{Bool, true, ◌&&◌, ℕ, ◌*◌, length}
use Rattle.std.proofs.Math.Option.{Option, none, some}
use Rattle.tropical_weight.specs.Tropical.{Tropical}
use Rattle.sheet.specs.Below.{all_below}
use Rattle.sheet.specs.Sheet.{weight_fits}
use Rattle.sheet.specs.Machine.{Machine, unit_in, bits_of}
use Rattle.machine.specs.Readings.{link, final}
use Rattle.product.specs.Product.{nodes, pairs, product}

-- whether a final weight's field passes test 4, if there is one, in units of 1 / 2 ^ j
abbrev pub final_fits : ℕ → Option Tropical → Bool
final_fits j none = true
final_fits j (some w) = weight_fits j (bits_of j w)

module _ (a b : Machine) where
  -- of the links
  abbrev pub links_fit : Bool
  links_fit = all_below (length (pairs a b)) (λ q. weight_fits (unit_in a) (bits_of (unit_in a) (link (product a b) q).weight))

  -- and of the final nodes
  abbrev pub finals_fit : Bool
  finals_fit = all_below (nodes a * nodes b) (λ v. final_fits (unit_in a) (final (product a b) v))

  -- and all of them
  abbrev pub sums_fit : Bool
  sums_fit = links_fit && finals_fit
