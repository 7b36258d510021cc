-- Lists for several n by computation on the definitions: Sheet A in either unit, a sheet whose readings are not nested, a negative best, and a barred reading. Assumes nothing.
use mathlib.Core.Path.{◌≡◌, refl, sym, ap, ◌∙◌}
use mathlib.Core.Option.{none, some}
use mathlib.Core.List.{List, [], ◌∷◌, ◌++◌, map, flatten}
use Prim.Native.Nat.{ℕ}
use lib.IntN.{pos, negsuc}
use lib.Ieee.{to_bits, round}
use lib.ListN.{length, take}
use native.Mathlib.Omega.{arith}
use Rattle.tropical_weight.specs.Tropical.{Tropical, fin, inf, one}
use Rattle.tropical_weight.specs.Grid.{of_k}
use Rattle.sheet.specs.declared.form.Form.{Form}
use Rattle.sheet.specs.Sheet.{parts_of}
use Rattle.sheet.specs.Machine.{Machine, machine_of}
use Rattle.machine.specs.Readings.{reading_of, run_cost, marked}
use Rattle.machine.specs.Distance.{dist, total}
use Rattle.machine.specs.Parents.{best}
use Rattle.machine.proofs.Bench.{arc, machine_a, machine_b, machine_fine}
use Rattle.search.specs.Reversed.{out_of_zero, links_into}
use Rattle.search.specs.Search.{search}
use Rattle.search.specs.ListMachine.{result_for, result_bytes}
use Rattle.search.specs.Listed.{list_of}
use Rattle.nested_costs.specs.NestedCosts.{costs, best_cost}

-- the list for n, as the bytes of its result tell it: its runs, and what they cost
abbrev listed : Machine → ℕ → List (List ℕ)
listed m n = let r = result_for m n in list_of m.form n (length r.machine.finals) (length r.machine.links) (result_bytes r)

abbrev listed_costs : Machine → ℕ → List Tropical
listed_costs m n = costs m (map (reading_of m) (listed m n))

-- ---- Sheet A, in 64ths and in 256ths: the third reading is dearer, so that the lists for 2 and for 3 have the same two in front
costs-A : (best_cost machine_a ≡ fin (pos 112) ∷ []) × (listed_costs machine_a 1 ≡ fin (pos 112) ∷ []) × (listed_costs machine_a 2 ≡ fin (pos 112) ∷ fin (pos 112) ∷ []) × (listed_costs machine_a 3 ≡ fin (pos 112) ∷ fin (pos 112) ∷ fin (pos 144) ∷ []) × (listed_costs machine_a 64 ≡ listed_costs machine_a 3)
unfolding search marked out_of_zero links_into dist total run_cost best result_for result_bytes list_of
costs-A = (refl, refl, refl, refl, refl)

costs-fine : (listed_costs machine_fine 1 ≡ fin (pos 448) ∷ []) × (listed_costs machine_fine 2 ≡ fin (pos 448) ∷ fin (pos 448) ∷ []) × (listed_costs machine_fine 3 ≡ fin (pos 448) ∷ fin (pos 448) ∷ fin (pos 576) ∷ [])
unfolding search marked out_of_zero links_into dist total run_cost best result_for result_bytes list_of
costs-fine = (refl, refl, refl)

-- ---- A sheet of 88 bytes whose readings are not nested: node 0, node 1 and node 2 in a line, each final, all of weight 0. Alone the reading without links is listed; of two it is the second.
sheet_ties : List ℕ
sheet_ties =
    (1 ∷ 0 ∷ 0 ∷ 0 ∷ 1 ∷ 0 ∷ 0 ∷ 0 ∷ 0 ∷ 0 ∷ 0 ∷ 0 ∷ 1 ∷ 0 ∷ 0 ∷ 0 ∷ [])
    ++ (2 ∷ 0 ∷ 0 ∷ 0 ∷ 2 ∷ 0 ∷ 0 ∷ 0 ∷ 0 ∷ 0 ∷ 0 ∷ 0 ∷ 2 ∷ 0 ∷ 0 ∷ 0 ∷ [])
    ++ (1 ∷ 0 ∷ 0 ∷ 0 ∷ 1 ∷ 0 ∷ 0 ∷ 0 ∷ 0 ∷ 0 ∷ 0 ∷ 0 ∷ [])
    ++ (1 ∷ 0 ∷ 0 ∷ 0 ∷ 1 ∷ 0 ∷ 0 ∷ 0 ∷ 0 ∷ 0 ∷ 0 ∷ 0 ∷ [])
    ++ (0 ∷ 0 ∷ 0 ∷ 0 ∷ 1 ∷ 0 ∷ 0 ∷ 0 ∷ 0 ∷ 0 ∷ 0 ∷ 0 ∷ [])
    ++ (0 ∷ 0 ∷ 0 ∷ 0 ∷ 32 ∷ 0 ∷ 0 ∷ 0 ∷ 3 ∷ 0 ∷ 0 ∷ 0 ∷ 2 ∷ 0 ∷ 0 ∷ 0 ∷ 0 ∷ 0 ∷ 0 ∷ 0 ∷ [])

machine_ties : Machine
machine_ties = record { links = arc 0 1 0 1 ∷ arc 1 2 0 2 ∷ []; finals = some one ∷ some one ∷ some one ∷ []; start = some 0; form = Form.Short }

of-ties : (length sheet_ties ≡ 88) × (machine_of (parts_of sheet_ties) ≡ machine_ties)
unfolding sheet_ties machine_ties parts_of machine_of
of-ties = (refl, refl)

ties1 : listed machine_ties 1 ≡ [] ∷ []
unfolding to_bits round of_k machine_ties search marked out_of_zero links_into dist total run_cost best result_for result_bytes list_of
ties1 = refl

ties2 : (listed machine_ties 2 ≡ (0 ∷ []) ∷ [] ∷ []) × (listed_costs machine_ties 2 ≡ one ∷ one ∷ [])
unfolding machine_ties search marked out_of_zero links_into dist total run_cost best result_for result_bytes list_of
ties2 = (refl, refl)

-- so that readings are not nested
not-nested : listed machine_ties 1 ≡ take 1 (listed machine_ties 2) → ⊥
unfolding flatten
not-nested e = let q : ◌≡◌ {A = ℕ} 0 1 = ap (λ (l : List (List ℕ)). length (flatten l)) (sym ties1 ∙ e ∙ ap (take 1) ties2.0) in omega (arith, q)

-- of six readings that tie, for 2 and for 3: the second is another
ties3 : (listed machine_b 2 ≡ (1 ∷ 2 ∷ []) ∷ (0 ∷ 3 ∷ []) ∷ []) × (listed machine_b 3 ≡ (1 ∷ 2 ∷ []) ∷ (1 ∷ 3 ∷ []) ∷ (0 ∷ 3 ∷ []) ∷ [])
unfolding machine_b search marked out_of_zero links_into dist total run_cost best result_for result_bytes list_of
ties3 = (refl, refl)

-- ---- a negative best, and a reading that would come second but for its barred link
machine_barred : Machine
machine_barred = record { links = arc 0 1 3 1 ∷ record { source = 0; ilabel = 2; olabel = 2; weight = inf; next = 1 } ∷ arc 0 3 9 1 ∷ []; finals = none ∷ some (fin (negsuc 63)) ∷ []; start = some 0; form = Form.Long 256 }

costs-barred : (listed_costs machine_barred 1 ≡ fin (negsuc 60) ∷ []) × (listed_costs machine_barred 2 ≡ fin (negsuc 60) ∷ fin (negsuc 54) ∷ []) × (listed_costs machine_barred 64 ≡ listed_costs machine_barred 2)
unfolding machine_barred search marked out_of_zero links_into dist total run_cost best result_for result_bytes list_of
costs-barred = (refl, refl, refl)
