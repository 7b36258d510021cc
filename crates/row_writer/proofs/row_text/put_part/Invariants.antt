use mathlib.Core.Path.{◌≡◌}
use mathlib.Core.List.{◌++◌}
use Prim.Native.Nat.{◌<◌}
use lib.ListN.{length}
use Rattle.text_rows.specs.Written.{shortest}
use Rattle.row_writer.proofs.row_text.put_part.Given as goal

-- the digits that are written, and those of the rest behind them, are those of the part
abbrev pub invariant-loop-rest : goal.invariant-loop-rest
invariant-loop-rest l = record { below : l.rest < 1000000; all : l.row ++ shortest 6 l.rest ≡ l.initial.row ++ shortest 6 l.part }

abbrev pub decreases-loop-rest : goal.decreases-loop-rest
decreases-loop-rest l = length (shortest 6 l.rest)
