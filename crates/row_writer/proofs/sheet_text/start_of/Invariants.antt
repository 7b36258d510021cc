use mathlib.Core.Path.{◌≡◌}
use Prim.Native.Nat.{◌≤◌}
use Rattle.row_writer.proofs.sheet_text.start_of.Given as goal

abbrev pub invariant-loop-source : goal.invariant-loop-source
invariant-loop-source l = (l.source-iterator.sheet ≡ l.sheet) × (l.source-iterator.node ≤ l.sheet.start)
