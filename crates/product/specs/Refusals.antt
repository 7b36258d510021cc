-- Which machines of one unit have no product: refusals 10, 11 and 12. Definitions only.
use Rattle.std.specs.Prelude.{Bool, not, ◌&&◌, cond, ℕ, eqb, length}
use Rattle.sheet.specs.Below.{all_below}
use Rattle.sheet.specs.Sheet.{weights_fit}
use Rattle.sheet.specs.Machine.{Machine, parts_for}
use Rattle.machine.specs.Readings.{link}
use Rattle.machine.specs.Input.{counts_fit}
use Rattle.product.specs.Product.{product}

-- each link's output label is its input label, and is not 0
unfoldable pub labelled : Machine → Bool
unfolding all_below
labelled m = all_below (length m.links) (λ l. not (eqb (link m l).ilabel 0) && eqb (link m l).ilabel (link m l).olabel)

-- 10 for a label; 11 where the product fails test 5, the limits; 12 where it fails test 4, as a finite sum may leave the grid; else 0
unfoldable pub product_number : Machine → Machine → ℕ
unfolding labelled product parts_for weights_fit
product_number a b =
    let p = parts_for (product a b) in
    cond (not (labelled a && labelled b)) 10 (cond (not (counts_fit p)) 11 (cond (not (weights_fit p)) 12 0))
