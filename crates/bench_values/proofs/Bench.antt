-- Cases P1 to P9, by computation on the definitions. Assumes nothing.
use mathlib.Core.Path.{◌≡◌, refl}
use mathlib.Core.List.{[], ◌∷◌, map}
use lib.ListN.{length}
use lib.Ieee.{round, to_bits}
use Rattle.tropical_weight.specs.Grid.{of_k}
use Rattle.sheet.specs.Below.{list_below}
use Rattle.sheet.specs.Words.{words, bytes_of_all}
use Rattle.sheet.specs.Sheet.{parts_of}
use Rattle.sheet.specs.Machine.{machine_of}
use Rattle.machine.specs.Readings.{run_cost, marked}
use Rattle.shortest_distance.specs.Outcome.{distance_number}
use Rattle.search.specs.Reversed.{out_of_zero, links_into}
use Rattle.search.specs.Listed.{list_of}
use Rattle.shortest_path.specs.Outcome.{list_number}
use Rattle.bench_values.specs.Table.{sheet_a, sheet_e, one_link, Case, table, P1, P2, P3, P4, P5, P6, P7, P8, P9}

-- Sheet A has 148 bytes
size-A : length sheet_a ≡ 148
unfolding sheet_a bytes_of_all
size-A = refl

told-1 : P1.told ≡ P1.stated
unfolding sheet_a sheet_e one_link bytes_of_all list_below parts_of machine_of of_k round to_bits distance_number list_number list_of marked out_of_zero links_into run_cost words
told-1 = refl

told-2 : P2.told ≡ P2.stated
unfolding sheet_a sheet_e one_link bytes_of_all list_below parts_of machine_of of_k round to_bits distance_number list_number list_of marked out_of_zero links_into run_cost words
told-2 = refl

told-3 : P3.told ≡ P3.stated
unfolding sheet_a sheet_e one_link bytes_of_all list_below parts_of machine_of of_k round to_bits distance_number list_number list_of marked out_of_zero links_into run_cost words
told-3 = refl

told-4 : P4.told ≡ P4.stated
unfolding sheet_a sheet_e one_link bytes_of_all list_below parts_of machine_of of_k round to_bits distance_number list_number list_of marked out_of_zero links_into run_cost words
told-4 = refl

told-5 : P5.told ≡ P5.stated
unfolding sheet_a sheet_e one_link bytes_of_all list_below parts_of machine_of of_k round to_bits distance_number list_number list_of marked out_of_zero links_into run_cost words
told-5 = refl

told-6 : P6.told ≡ P6.stated
unfolding sheet_a sheet_e one_link bytes_of_all list_below parts_of machine_of of_k round to_bits distance_number list_number list_of marked out_of_zero links_into run_cost words
told-6 = refl

told-7 : P7.told ≡ P7.stated
unfolding sheet_a sheet_e one_link bytes_of_all list_below parts_of machine_of of_k round to_bits distance_number list_number list_of marked out_of_zero links_into run_cost words
told-7 = refl

told-8 : P8.told ≡ P8.stated
unfolding sheet_a sheet_e one_link bytes_of_all list_below parts_of machine_of of_k round to_bits distance_number list_number list_of marked out_of_zero links_into run_cost words
told-8 = refl

told-9 : P9.told ≡ P9.stated
unfolding sheet_a sheet_e one_link bytes_of_all list_below parts_of machine_of of_k round to_bits distance_number list_number list_of marked out_of_zero links_into run_cost words
told-9 = refl

-- each case of the table tells what is stated
pub table-holds : map (λ (c : Case). c.told) table ≡ map (λ (c : Case). c.stated) table
table-holds = λ i. told-1 i ∷ told-2 i ∷ told-3 i ∷ told-4 i ∷ told-5 i ∷ told-6 i ∷ told-7 i ∷ told-8 i ∷ told-9 i ∷ []
