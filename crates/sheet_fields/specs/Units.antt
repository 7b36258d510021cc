-- The unit of a sheet that passes tests 1, 14 and 2 to 4. Definitions only.
use Rattle.std.specs.Prelude.{List, ℕ, ◌^◌, Result}
use Rattle.sheet.specs.declared.refusal.Refusal.{Refusal}
use Rattle.sheet.specs.Refusals.{answer}
use Rattle.sheet.specs.Sheet.{read_number}
use Rattle.sheet.specs.Machine.{machine, unit_in}

-- of a byte string: how many of its units are 1, 64 or 256, or the refusal of the number
abbrev pub unit_told : List ℕ → Result ℕ Refusal
unit_told sheet = answer (2 ^ unit_in (machine sheet)) (read_number sheet)
