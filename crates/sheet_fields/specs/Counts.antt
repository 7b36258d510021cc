-- The counts of a sheet that passes tests 1, 14 and 2 to 4, and its start. Definitions only.
use Rattle.std.specs.Prelude.{List, ℕ, length, Result}
use Rattle.sheet.specs.declared.refusal.Refusal.{Refusal}
use Rattle.sheet.specs.Refusals.{answer}
use Rattle.sheet.specs.Sheet.{read_number}
use Rattle.sheet.specs.Machine.{Machine, machine, start_field}
use Rattle.machine.specs.Readings.{marked}
use Rattle.sheet_fields.specs.declared.counts.SheetCounts.{SheetCounts}

-- of a machine: N, T, F, and its start or FFFFFFFF hexadecimal
abbrev pub counts_in : Machine → SheetCounts
counts_in m = record { nodes = length m.finals; links = length m.links; finals = marked m.finals; start = start_field m.start }

-- of a byte string: the counts of its machine, or the refusal of the number
abbrev pub counts_of : List ℕ → Result SheetCounts Refusal
counts_of sheet = answer (counts_in (machine sheet)) (read_number sheet)
