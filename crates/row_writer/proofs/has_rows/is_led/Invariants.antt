use mathlib.Core.Path.{◌≡◌}
use mathlib.Core.Bool.{true, not}
use lib.Dec.{eqb}
use Rattle.sheet.specs.Below.{all_below}
use Rattle.sheet.specs.Sheet.{next, parts_of}
use Rattle.row_writer.proofs.has_rows.is_led.Given as goal

abbrev pub invariant-loop-l : goal.invariant-loop-l
invariant-loop-l l = all_below l.l (λ k. not (eqb (next (parts_of l.sheet.bytes.now) k) l.v)) ≡ true
