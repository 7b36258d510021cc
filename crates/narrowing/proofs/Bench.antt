-- Small machines that narrow to a node and some that do not, both parts, and the least sums of their costs, by computation. Assumes nothing.
use mathlib.Core.Path.{◌≡◌, refl}
use mathlib.Core.Bool.{true, false}
use mathlib.Core.Option.{none, some}
use mathlib.Core.List.{List, [], ◌∷◌, map}
use Prim.Native.Nat.{ℕ}
use lib.IntN.{pos}
use lib.ListN.{length, take}
use Rattle.tropical_weight.specs.Tropical.{Tropical, fin, inf}
use Rattle.sheet.specs.declared.form.Form.{Form}
use Rattle.sheet.specs.Machine.{Machine}
use Rattle.machine.specs.Readings.{readings, reading_cost, run_cost}
use Rattle.machine.specs.Demand.{sort}
use Rattle.machine.proofs.Bench.{arc, machine_a}
use Rattle.narrowing.specs.Sums.{sums, least_sums}
use Rattle.narrowing.specs.Narrows.{narrows}
use Rattle.narrowing.specs.Parts.{is_before, is_after, preheat, bake, numbers}

-- three links to node 1, and two on to node 2, in any form
unfoldable pub three-two : Form → Machine
three-two f = record { links = arc 0 1 5 1 ∷ arc 0 2 1 1 ∷ arc 0 3 9 1 ∷ arc 1 4 10 2 ∷ arc 1 5 12 2 ∷ []; finals = none ∷ none ∷ some (fin (pos 100)) ∷ []; start = some 0; form = f }

parts : (f : Form) → (narrows 1 (three-two f) ≡ true)
    × (preheat 1 (three-two f) ≡ record { links = arc 0 1 5 1 ∷ arc 0 2 1 1 ∷ arc 0 3 9 1 ∷ []; finals = none ∷ some (fin (pos 0)) ∷ []; start = some 0; form = f })
    × (bake 1 (three-two f) ≡ record { links = arc 0 4 10 1 ∷ arc 0 5 12 1 ∷ []; finals = none ∷ some (fin (pos 100)) ∷ []; start = some 0; form = f })
unfolding three-two narrows preheat bake
parts f = (refl, refl, refl)

own-numbers : (f : Form) → (numbers (is_before 1) (three-two f) ≡ 0 ∷ 1 ∷ 2 ∷ []) × (numbers (is_after 1) (three-two f) ≡ 3 ∷ 4 ∷ [])
unfolding three-two numbers
own-numbers f = (refl, refl)

-- the costs of a list for n
abbrev list_costs : ℕ → Machine → List Tropical
list_costs n m = take n (sort (map (reading_cost m) (readings m)))

least : (f : Form) → (list_costs 2 (three-two f) ≡ fin (pos 111) ∷ fin (pos 113) ∷ [])
    × (least_sums 2 (list_costs 2 (preheat 1 (three-two f))) (list_costs 2 (bake 1 (three-two f))) ≡ fin (pos 111) ∷ fin (pos 113) ∷ [])
    × (length (list_costs 64 (three-two f)) ≡ 6)
    × (least_sums 64 (list_costs 64 (preheat 1 (three-two f))) (list_costs 64 (bake 1 (three-two f))) ≡ list_costs 64 (three-two f))
unfolding three-two preheat bake readings run_cost sort sums least_sums
least f = (refl, refl, refl, refl)

-- ---- 13: c not below N, a start absent or above c, a mark below c, a link past c
startless : Machine
startless = record { links = arc 0 1 5 1 ∷ []; finals = none ∷ none ∷ []; start = none; form = Form.Short }

start-two : Machine
start-two = record { links = arc 0 1 5 1 ∷ []; finals = none ∷ none ∷ none ∷ []; start = some 2; form = Form.Short }

-- node 0 has mark 1 and is not reached; its weight bars it
marked : Machine
marked = record { links = arc 1 1 5 2 ∷ []; finals = some inf ∷ none ∷ none ∷ []; start = some 1; form = Form.Short }

-- a barred link from 0 to 2
past : Machine
past = record { links = record { source = 0; ilabel = 1; olabel = 1; weight = inf; next = 2 } ∷ []; finals = none ∷ none ∷ none ∷ []; start = some 0; form = Form.Short }

refused : (f : Form) → (narrows 3 (three-two f) ≡ false) × (narrows 1 startless ≡ false) × (narrows 1 start-two ≡ false) × (narrows 1 marked ≡ false) × (narrows 1 past ≡ false)
unfolding three-two startless start-two marked past narrows
refused f = (refl, refl, refl, refl, refl)

-- and no 13: the first node, and a mark, a start and the end of a link at c itself
passed : (f : Form) → (narrows 0 (three-two f) ≡ true) × (narrows 2 (three-two f) ≡ true) × (narrows 2 start-two ≡ true) × (narrows 2 past ≡ true)
unfolding three-two start-two past narrows
passed f = (refl, refl, refl, refl)

-- Sheet A narrows to its last node, and not to node 1, past which link 1 leads
of-A : (narrows 3 machine_a ≡ true) × (narrows 1 machine_a ≡ false)
unfolding narrows
of-A = (refl, refl)
