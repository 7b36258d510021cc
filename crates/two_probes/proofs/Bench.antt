-- Two small machines and their product, the refusals, sheets of both forms and units, and Sheet A with itself, by computation. Assumes nothing.
use mathlib.Core.Path.{◌≡◌, refl}
use mathlib.Core.Option.{none, some}
use mathlib.Core.List.{List, [], ◌∷◌, map}
use Prim.Native.Nat.{ℕ}
use lib.IntN.{pos}
use lib.Ieee.{round, to_bits}
use lib.ListN.{length}
use Rattle.tropical_weight.specs.Tropical.{fin, inf}
use Rattle.tropical_weight.specs.Grid.{of_k}
use Rattle.sheet.specs.declared.form.Form.{Form}
use Rattle.sheet.specs.Words.{bytes_of_all}
use Rattle.sheet.specs.Sheet.{form_of}
use Rattle.sheet.specs.Machine.{Machine, machine_of}
use Rattle.sheet.proofs.Bench.{sheet_a}
use Rattle.machine.specs.Readings.{readings, reading_cost}
use Rattle.machine.proofs.Bench.{arc, machine_a}
use Rattle.product.specs.Product.{Pair, pairs, product}
use Rattle.product.specs.Refusals.{product_number}
use Rattle.two_probes.specs.Outcome.{answer_of, both_number}

-- two links of label 7 and one of label 8 to the end
abbrev a : Machine
a = record { links = arc 0 7 1 1 ∷ arc 0 7 2 1 ∷ arc 0 8 5 1 ∷ []; finals = none ∷ some (fin (pos 3)) ∷ []; start = some 0; form = Form.Short }

-- label 8, then label 7, from the first node, and label 7 from the second; node 2 is final too
abbrev b : Machine
b = record { links = arc 0 8 10 2 ∷ arc 0 7 20 1 ∷ arc 1 7 30 2 ∷ []; finals = none ∷ some (fin (pos 100)) ∷ some (fin (pos 200)) ∷ []; start = some 0; form = Form.Short }

abbrev pair : ℕ → ℕ → Pair
pair l k = record { first = l; second = k }

-- the node for i and j is 3 × i + j; links by the first's, then the second's
of-pairs : pairs a b ≡ pair 0 1 ∷ pair 1 1 ∷ pair 2 0 ∷ pair 0 2 ∷ pair 1 2 ∷ []
unfolding pairs
of-pairs = refl

of-both : product a b ≡ record {
  links = arc 0 7 21 4 ∷ arc 0 7 22 4 ∷ arc 0 8 15 5 ∷ arc 1 7 31 5 ∷ arc 1 7 32 5 ∷ [];
  finals = none ∷ none ∷ none ∷ none ∷ some (fin (pos 103)) ∷ some (fin (pos 203)) ∷ [];
  start = some 0;
  form = Form.Short;
}
unfolding product
of-both = refl

costs : map (reading_cost (product a b)) (readings (product a b)) ≡ fin (pos 124) ∷ fin (pos 125) ∷ fin (pos 218) ∷ []
unfolding product readings
costs = refl

-- ---- the refusals: 10 for a label 0, 12 for a sum off the grid, 10 before 12, and none for a barred sum
abbrev zero-label : Machine
zero-label = record { links = arc 0 0 1 1 ∷ []; finals = none ∷ none ∷ []; start = none; form = Form.Short }

abbrev heavy : Machine
heavy = record { links = arc 0 7 8192 1 ∷ []; finals = none ∷ none ∷ []; start = none; form = Form.Short }

abbrev barred : Machine
barred = record { links = record { source = 0; ilabel = 7; olabel = 7; weight = inf; next = 1 } ∷ []; finals = none ∷ none ∷ []; start = none; form = Form.Short }

refused : (product_number a b ≡ 0) × (product_number a zero-label ≡ 10) × (product_number zero-label a ≡ 10) × (product_number a heavy ≡ 12) × (product_number zero-label heavy ≡ 10) × (product_number barred heavy ≡ 0)
unfolding product_number to_bits of_k round
refused = (refl, refl, refl, refl, refl, refl)

-- ---- both forms: one link of some label and weight from node 0 to node 1, which is final with 0; and the fields from the start on
abbrev ended : ℕ → ℕ → List ℕ → List ℕ
ended label bits rest = bytes_of_all (label ∷ label ∷ bits ∷ 1 ∷ 1 ∷ 0 ∷ 0 ∷ 0 ∷ 1 ∷ 0 ∷ 0 ∷ 16 ∷ 2 ∷ 1 ∷ rest)

-- in 64ths with each trailer; and in 256ths, with a weight of one
abbrev short : List ℕ
short = ended 7 0 (0 ∷ [])

abbrev long : List ℕ
long = ended 7 0 (0 ∷ 64 ∷ [])

abbrev fine : List ℕ
fine = ended 7 0x3b80_0000 (0 ∷ 256 ∷ [])

-- a unit that no sheet may have, and a start past the nodes
abbrev other : List ℕ
other = ended 7 0 (7 ∷ 128 ∷ [])

-- unequal units, either way round, also before the second's 2; equal ones, of one trailer and of two: the answer ends as the first does
apart : (both_number short fine 84 ≡ 14) × (both_number fine long 88 ≡ 14) × (both_number short (ended 7 0 (7 ∷ 256 ∷ [])) 84 ≡ 14)
unfolding machine_of both_number to_bits of_k round
apart = (refl, refl, refl)

alike : (both_number short long 84 ≡ 0) × (both_number long short 88 ≡ 0) × (both_number long short 87 ≡ 21) × (both_number fine fine 88 ≡ 0)
unfolding machine_of both_number to_bits of_k round
alike = (refl, refl, refl, refl)

endings : (form_of (answer_of short long) ≡ Form.Short) × (form_of (answer_of long short) ≡ Form.Long 64) × (form_of (answer_of fine fine) ≡ Form.Long 256)
unfolding machine_of both_number form_of to_bits of_k round
endings = (refl, refl, refl)

-- 14 for a second unit that no sheet may have, before its start; for unequal ones before 10; 1 for a second sheet laid out under neither, whatever the first's unit
refused-units : (both_number short other 84 ≡ 14) × (both_number fine (ended 0 0 (0 ∷ [])) 88 ≡ 14) × (both_number short [] 84 ≡ 1) × (both_number fine [] 88 ≡ 1)
unfolding machine_of both_number to_bits of_k round
refused-units = (refl, refl, refl, refl)

-- ---- Sheet A with itself: 16 nodes, 5 links, 292 bytes
own : (both_number sheet_a sheet_a 292 ≡ 0) × (both_number sheet_a sheet_a 291 ≡ 21) × (length (answer_of sheet_a sheet_a) ≡ 292)
unfolding sheet_a machine_of both_number to_bits of_k round
own = (refl, refl, refl)

own-readings : map (reading_cost (product machine_a machine_a)) (readings (product machine_a machine_a)) ≡ fin (pos 224) ∷ fin (pos 224) ∷ fin (pos 288) ∷ []
unfolding product readings
own-readings = refl
