use mathlib.Core.Path.{◌≡◌}
use mathlib.Core.Bool.{Bool, true, not, ◌&&◌}
use Prim.Native.Nat.{ℕ}
use lib.Dec.{eqb}
use Rattle.sheet.specs.Below.{all_below}
use Rattle.sheet.specs.Machine.{Machine, machine}
use Rattle.machine.specs.Readings.{link}
use Rattle.two_probes.proofs.labelled.Given as goal

-- whether link l has one label, which is not 0
abbrev pub one_label : Machine → ℕ → Bool
one_label m l = not (eqb (link m l).ilabel 0) && eqb (link m l).ilabel (link m l).olabel

abbrev pub invariant-loop-l : goal.invariant-loop-l
invariant-loop-l l = all_below l.l (one_label (machine l.machine.sheet.bytes.now)) ≡ true
