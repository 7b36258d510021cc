use mathlib.Core.Path.{◌≡◌}
use Prim.Native.Nat.{◌+◌}
use lib.Seq.{sets}
use Rattle.sheet.specs.Below.{list_below}
use Rattle.sheet.specs.Words.{bytes_of_all}
use Rattle.preheat_bake.proofs.parts.put_numbers.Given as goal

abbrev pub invariant-loop-i : goal.invariant-loop-i
invariant-loop-i l = l.res ≡ sets l.fn.res l.at (bytes_of_all (list_below l.i (λ i. l.from + i)))
