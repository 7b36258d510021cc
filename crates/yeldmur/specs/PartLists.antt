-- What the lists of two parts tell of the list of the whole, by the results of the call for lists on the three byte strings. Definitions only.
use Rattle.std.specs.Prelude.{◌≡◌, ℕ, List}
use Rattle.list_answer.specs.declared.Listed.{Listed}
use Rattle.nested_costs.specs.NestedCosts.{ListFor, costs_listed}
use Rattle.narrowing.specs.Sums.{least_sums}
use Rattle.preheat_bake.specs.declared.counts.Counts.{Counts}
use Rattle.preheat_bake.specs.Promise.{first_sheet, second_sheet}

-- Of three such results for any n, on a sheet and on the two parts that an area holds: the whole's costs are the n least sums of one cost from each part's list, or all of them where there are fewer.
abbrev pub PartLists : List ℕ → ℕ → Counts → List ℕ → Type 0
PartLists sheet c counts area =
    let first = first_sheet sheet c counts area in
    let second = second_sheet sheet c counts area in
    (n : ℕ) (whole low high : Listed) (all below above : List ℕ)
    → ListFor sheet n whole all
    → ListFor first n low below
    → ListFor second n high above
    → costs_listed sheet n whole all ≡ least_sums n (costs_listed first n low below) (costs_listed second n high above)
