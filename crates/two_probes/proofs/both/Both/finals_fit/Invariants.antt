use mathlib.Core.Path.{◌≡◌}
use mathlib.Core.Bool.{Bool, true}
use Prim.Native.Nat.{ℕ}
use Rattle.sheet.specs.Below.{all_below}
use Rattle.sheet.specs.Machine.{Machine}
use Rattle.machine.specs.Readings.{final}
use Rattle.product.specs.Fits.{final_fits}
use Rattle.two_probes.specs.Held.{allowed_by, unit_by}
use Rattle.two_probes.proofs.both.Both.finals_fit.Given as goal

-- whether the final weight of node v passes test 4, if it has one
abbrev pub fits : ℕ → Machine → ℕ → Bool
fits j m v = final_fits j (final m v)

abbrev pub invariant-loop-v : goal.invariant-loop-v
invariant-loop-v l = all_below l.v (fits (unit_by l.self) (allowed_by l.self)) ≡ true
