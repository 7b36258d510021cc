use mathlib.Core.Path.{◌≡◌}
use mathlib.Core.Bool.{Bool, true}
use Prim.Native.Nat.{ℕ}
use Rattle.sheet.specs.Below.{all_below}
use Rattle.sheet.specs.Machine.{Machine, machine}
use Rattle.machine.specs.Readings.{final}
use Rattle.narrowing.specs.Narrows.{unmarked}
use Rattle.narrowing.proofs.unmarked_below.Given as goal

-- whether node v has mark 0
abbrev pub plain : Machine → ℕ → Bool
plain m v = unmarked (final m v)

abbrev pub invariant-loop-v : goal.invariant-loop-v
invariant-loop-v l = all_below l.v (plain (machine l.machine.sheet.bytes.now)) ≡ true
