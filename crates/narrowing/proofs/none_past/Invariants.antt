use mathlib.Core.Path.{◌≡◌}
use mathlib.Core.Bool.{Bool, true, not, ◌&&◌}
use Prim.Native.Nat.{ℕ}
use lib.Dec.{ltb}
use Rattle.sheet.specs.Below.{all_below}
use Rattle.sheet.specs.Machine.{Machine, machine}
use Rattle.machine.specs.Readings.{link}
use Rattle.narrowing.proofs.none_past.Given as goal

-- whether link l does not lead from below c to above it
abbrev pub stays : ℕ → Machine → ℕ → Bool
stays c m l = not (ltb (link m l).source c && ltb c (link m l).next)

abbrev pub invariant-loop-l : goal.invariant-loop-l
invariant-loop-l l = all_below l.l (stays l.c (machine l.machine.sheet.bytes.now)) ≡ true
