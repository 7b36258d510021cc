-- Slots left zero. Assumes nothing.
use mathlib.Core.Path.{◌≡◌, ap}
use mathlib.Core.List.{List, ◌++◌}
use Prim.Native.Nat.{ℕ, ◌*◌}
use lib.ListN.{replicate, drop}
use Rattle.slots.specs.Slots.{cleared}

-- areas that agree beyond the slots are alike once the slots are left zero
pub cleared-same : (n : ℕ) (a b : List ℕ) → drop (8 * n) a ≡ drop (8 * n) b → cleared n a ≡ cleared n b
cleared-same n a b e = ap (λ (r : List ℕ). replicate (8 * n) 0 ++ r) e
