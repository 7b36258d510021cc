use mathlib.Core.Path.{◌≡◌}
use mathlib.Core.Bool.{cond}
use Prim.Native.Nat.{ℕ, ◌<◌}
use lib.Dec.{ltb}
use lib.ListN.{length, get_or}
use Rattle.stored_cases.specs.Left.{result_mark}
use Rattle.stored_cases.proofs.areas.result_left.Given as goal

abbrev pub invariant-loop-at : goal.invariant-loop-at
invariant-loop-at l = (i : ℕ) → i < l.at → get_or l.res i 0 ≡ cond (ltb i (length l.bytes)) (get_or l.bytes i 0) result_mark
