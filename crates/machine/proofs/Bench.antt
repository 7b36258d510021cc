-- Machines by computation: Sheet A of document 01, equal links, a start above other nodes, and no start. Assumes nothing.
use mathlib.Core.Path.{◌≡◌, refl}
use mathlib.Core.Bool.{true, false}
use mathlib.Core.Option.{none, some}
use mathlib.Core.List.{List, [], ◌∷◌, ◌++◌, map}
use Prim.Native.Nat.{ℕ}
use lib.IntN.{pos}
use lib.ListN.{length}
use Rattle.tropical_weight.specs.Tropical.{fin, inf}
use Rattle.sheet.specs.declared.form.Form.{Form}
use Rattle.sheet.specs.Sheet.{parts_of}
use Rattle.sheet.specs.Machine.{Link, Machine, machine_of}
use Rattle.sheet.proofs.Bench.{sheet_a}
use Rattle.machine.specs.Readings.{Reading, link, readings, reading_cost, run_cost}
use Rattle.machine.specs.Distance.{reached, unreached, total, dist, relax, is_reached, distances}
use Rattle.machine.specs.Parents.{best}
use Rattle.machine.specs.Demand.{sort}

-- a link with equal labels, and its weight a number of units
abbrev pub arc : ℕ → ℕ → ℕ → ℕ → Link
arc s label units n = record { source = s; ilabel = label; olabel = label; weight = fin (pos units); next = n }

-- ---- Sheet A
abbrev pub machine_a : Machine
machine_a = record { links = arc 0 1 64 1 ∷ arc 0 2 32 2 ∷ arc 1 3 16 3 ∷ arc 1 5 0 2 ∷ arc 2 4 48 3 ∷ []; finals = none ∷ none ∷ none ∷ some (fin (pos 32)) ∷ []; start = some 0; form = Form.Short }

-- it is the machine of Sheet A's 148 bytes
of-sheet : machine_of (parts_of sheet_a) ≡ machine_a
unfolding sheet_a parts_of machine_of
of-sheet = refl

-- with a sixth field of 256 the same bytes are a sheet in 256ths: four times as many units
unfoldable pub sheet_fine : List ℕ
unfolding sheet_a
sheet_fine = sheet_a ++ (0 ∷ 1 ∷ 0 ∷ 0 ∷ [])

abbrev pub machine_fine : Machine
machine_fine = record { links = arc 0 1 256 1 ∷ arc 0 2 128 2 ∷ arc 1 3 64 3 ∷ arc 1 5 0 2 ∷ arc 2 4 192 3 ∷ []; finals = none ∷ none ∷ none ∷ some (fin (pos 128)) ∷ []; start = some 0; form = Form.Long 256 }

of_fine_sheet : machine_of (parts_of sheet_fine) ≡ machine_fine
unfolding sheet_fine parts_of machine_of
of_fine_sheet = refl

readings-A : map (λ (x : Reading). x.run) (readings machine_a) ≡ (0 ∷ 2 ∷ []) ∷ (1 ∷ 4 ∷ []) ∷ (0 ∷ 3 ∷ 4 ∷ []) ∷ []
unfolding readings
readings-A = refl

costs-A : map (reading_cost machine_a) (readings machine_a) ≡ fin (pos 112) ∷ fin (pos 112) ∷ fin (pos 144) ∷ []
unfolding readings run_cost
costs-A = refl

distances-A : (distances machine_a ≡ reached (pos 0) ∷ reached (pos 64) ∷ reached (pos 32) ∷ reached (pos 80) ∷ []) × (relax machine_a 5 ≡ distances machine_a) × (total machine_a ≡ fin (pos 112))
unfolding distances relax total
distances-A = (refl, refl, refl)

best-A : best machine_a ≡ some (record { run = 0 ∷ 2 ∷ []; end = 3 })
unfolding best
best-A = refl

labels-A : map (λ (l : ℕ). (link machine_a l).ilabel) (0 ∷ 2 ∷ []) ≡ 1 ∷ 3 ∷ []
labels-A = refl

-- ---- two equal links, then three: six readings, and the parents are the lowest of each
unfoldable pub machine_b : Machine
machine_b = record { links = arc 0 1 0 1 ∷ arc 0 1 0 1 ∷ arc 1 1 0 2 ∷ arc 1 1 0 2 ∷ arc 1 1 0 2 ∷ []; finals = none ∷ none ∷ some (fin (pos 0)) ∷ []; start = some 0; form = Form.Short }

ties-B : (length (readings machine_b) ≡ 6) × (best machine_b ≡ some (record { run = 0 ∷ 2 ∷ []; end = 2 }))
unfolding machine_b readings best
ties-B = (refl, refl)

-- ---- from node 1 of four: nodes 0 and 3 are not reached, though 0 links to 1; both finals cost the same, and the lower wins
unfoldable pub machine_c : Machine
machine_c = record { links = arc 0 1 7 1 ∷ arc 1 2 4 2 ∷ []; finals = some (fin (pos 0)) ∷ some (fin (pos 4)) ∷ some (fin (pos 0)) ∷ some (fin (pos 0)) ∷ []; start = some 1; form = Form.Short }

below-C : (map (is_reached machine_c) (0 ∷ 1 ∷ 2 ∷ 3 ∷ []) ≡ false ∷ true ∷ true ∷ false ∷ []) × (distances machine_c ≡ unreached ∷ reached (pos 0) ∷ reached (pos 4) ∷ []) × (best machine_c ≡ some (record { run = []; end = 1 }))
unfolding machine_c dist distances best
below-C = (refl, refl, refl)

-- ---- no start: no reading and no distance
machine_d : Machine
machine_d = record { links = []; finals = some (fin (pos 0)) ∷ []; start = none; form = Form.Short }

none-D : (readings machine_d ≡ []) × (distances machine_d ≡ []) × (best machine_d ≡ none) × (total machine_d ≡ inf)
unfolding machine_d readings distances best total
none-D = (refl, refl, refl, refl)

sorted : sort (fin (pos 3) ∷ inf ∷ fin (pos 1) ∷ fin (pos 2) ∷ []) ≡ fin (pos 1) ∷ fin (pos 2) ∷ fin (pos 3) ∷ inf ∷ []
unfolding sort
sorted = refl

-- ---- barred: 1 is reached, 2 led to by a barred link from it, 3 led to only from 2; of six runs to marks one is of finite cost, the one reading
machine_e : Machine
machine_e = record { links = arc 0 1 5 1 ∷ barred 0 2 1 ∷ barred 1 3 2 ∷ arc 2 4 0 3 ∷ []; finals = none ∷ some (fin (pos 1)) ∷ some inf ∷ some (fin (pos 0)) ∷ []; start = some 0; form = Form.Short }
  where
    barred : ℕ → ℕ → ℕ → Link
    barred s label n = record { source = s; ilabel = label; olabel = label; weight = inf; next = n }

barred-E : (distances machine_e ≡ reached (pos 0) ∷ reached (pos 5) ∷ unreached ∷ []) × (map (λ (x : Reading). x.run) (readings machine_e) ≡ (0 ∷ []) ∷ []) × (total machine_e ≡ fin (pos 6))
unfolding machine_e distances readings total
barred-E = (refl, refl, refl)
