use Rattle.std.proofs.Common.{lit≤}
use Rattle.tropical_weight.specs.Limits.{unit}
use Rattle.tropical_weight.specs.Grid.{grid_shift}
use Rattle.tropical_weight.proofs.Table.{all_entries}
use Rattle.tropical_weight.proofs.ShiftTable.{are_shifts, shift-table}
use Rattle.tropical_weight.proofs.shifts.GridShifts.new.Goals as goal

-- the whole table by one test
pub invariant_of-result : goal.invariant_of-result
unfolding are_shifts all_entries grid_shift
invariant_of-result c = record { rule = shift-table unit (lit≤ tt) _ tt }
