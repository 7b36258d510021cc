use mathlib.Core.Path.{◌≡◌}
use mathlib.Core.Bool.{Bool, true}
use Prim.Native.Nat.{ℕ}
use Rattle.sheet.specs.Below.{all_below}
use Rattle.sheet.specs.Sheet.{weight_fits}
use Rattle.sheet.specs.Machine.{Machine, bits_of}
use Rattle.machine.specs.Readings.{link}
use Rattle.two_probes.specs.Held.{allowed_by, unit_by}
use Rattle.two_probes.proofs.both.Both.links_fit.Given as goal

-- whether the weight of link q passes test 4
abbrev pub fits : ℕ → Machine → ℕ → Bool
fits j m q = weight_fits j (bits_of j (link m q).weight)

abbrev pub invariant-loop-q : goal.invariant-loop-q
invariant-loop-q l = all_below l.q (fits (unit_by l.self) (allowed_by l.self)) ≡ true
