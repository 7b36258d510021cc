-- Case P1 of document 01, nodes that no run leads to, barred links, the longer trailer, and the tests of the areas at their limits, by computation on the
-- definitions. Assumes nothing.
use mathlib.Core.Path.{◌≡◌, refl}
use mathlib.Core.List.{List, [], ◌∷◌, ◌++◌}
use Prim.Native.Nat.{ℕ}
use lib.Ieee.{round, to_bits}
use Rattle.tropical_weight.specs.Grid.{of_k}
use Rattle.sheet.specs.Words.{bytes_of_all}
use Rattle.sheet.specs.Machine.{machine_of}
use Rattle.sheet.proofs.Bench.{sheet_a}
use Rattle.std.specs.Prelude.{Ok, Err}
use Rattle.sheet.specs.declared.refusal.Refusal.TheVariants as Refusal
use Rattle.shortest_distance.specs.Outcome.{answer_of, distance_number, distance_answer}

-- reached at 0, 1, 0.5 and 1.25
values-A : answer_of sheet_a ≡ bytes_of_all (1 ∷ 0 ∷ 1 ∷ 0x3f80_0000 ∷ 1 ∷ 0x3f00_0000 ∷ 1 ∷ 0x3fa0_0000 ∷ [])
unfolding sheet_a machine_of distance_number of_k round to_bits bytes_of_all
values-A = refl

-- four slots and 32 bytes are enough; of two short areas 20 tells
areas-A : (distance_answer sheet_a 32 32 ≡ Ok 4) × (distance_answer sheet_a 31 32 ≡ Err Refusal.Work) × (distance_answer sheet_a 32 31 ≡ Err Refusal.Room) × (distance_answer sheet_a 31 31 ≡ Err Refusal.Work)
unfolding sheet_a machine_of distance_number of_k round to_bits bytes_of_all
areas-A = (refl, refl, refl, refl)

-- three nodes without links, and the last is the start
unfoldable lone : List ℕ
unfolding bytes_of_all
lone = bytes_of_all (0 ∷ 0 ∷ 0 ∷ 0 ∷ 0 ∷ 0 ∷ 0 ∷ 0 ∷ 0 ∷ 0 ∷ 0 ∷ 3 ∷ 0 ∷ 2 ∷ [])

-- it is reached at 0, and the two below it are unreached, which is not the same
values-lone : (answer_of lone ≡ bytes_of_all (0 ∷ 0 ∷ 0 ∷ 0 ∷ 1 ∷ 0 ∷ [])) × (distance_answer lone 24 24 ≡ Ok 3) × (distance_answer lone 24 23 ≡ Err Refusal.Room)
unfolding lone machine_of distance_number of_k round to_bits bytes_of_all
values-lone = (refl, refl, refl)

-- links 0-1 at 5, a barred 0-1, a barred 1-2, and 2-3 at 0
unfoldable sheet_e : List ℕ
unfolding bytes_of_all
sheet_e =
    bytes_of_all (1 ∷ 1 ∷ 0x40a0_0000 ∷ 1 ∷ 2 ∷ 2 ∷ 0x7f80_0000 ∷ 1 ∷ 3 ∷ 3 ∷ 0x7f80_0000 ∷ 2 ∷ 4 ∷ 4 ∷ 0 ∷ 3
    ∷ 2 ∷ 0 ∷ 0 ∷ 1 ∷ 1 ∷ 0x3f80_0000 ∷ 1 ∷ 1 ∷ 0x7f80_0000 ∷ 0 ∷ 1 ∷ 0
    ∷ 0 ∷ 64 ∷ 4 ∷ 4 ∷ 0 ∷ [])

-- node 2 counts and is unreached: a barred link leads to it from node 1; node 3 is led to from node 2 alone, and does not count
values-E : (answer_of sheet_e ≡ bytes_of_all (1 ∷ 0 ∷ 1 ∷ 0x40a0_0000 ∷ 0 ∷ 0 ∷ [])) × (distance_answer sheet_e 32 24 ≡ Ok 3) × (distance_answer sheet_e 32 23 ≡ Err Refusal.Room)
unfolding sheet_e machine_of distance_number of_k round to_bits bytes_of_all
values-E = (refl, refl, refl)

-- ---- in 256ths
-- Sheet A with the longer trailer: its weights have the bits that they had, and so have its distances
values-A-256 : (answer_of (sheet_a ++ bytes_of_all (256 ∷ [])) ≡ bytes_of_all (1 ∷ 0 ∷ 1 ∷ 0x3f80_0000 ∷ 1 ∷ 0x3f00_0000 ∷ 1 ∷ 0x3fa0_0000 ∷ [])) × (distance_answer (sheet_a ++ bytes_of_all (256 ∷ [])) 32 32 ≡ Ok 4) × (distance_answer (sheet_a ++ bytes_of_all (256 ∷ [])) 32 31 ≡ Err Refusal.Room)
unfolding sheet_a machine_of distance_number of_k round to_bits bytes_of_all
values-A-256 = (refl, refl, refl)

-- a link 0-1 at 1/256, and behind the fields of the shorter trailer these
unfoldable fine : List ℕ → List ℕ
unfolding bytes_of_all
fine last = bytes_of_all (1 ∷ 1 ∷ 0x3b80_0000 ∷ 1 ∷ 1 ∷ 0 ∷ 0 ∷ 0 ∷ 1 ∷ 0 ∷ 0 ∷ 16 ∷ 2 ∷ 1 ∷ 0 ∷ last)

-- in 256ths it is a distance; in 64ths, said or not, the weight is off the grid; and there is no other unit
values-fine : (answer_of (fine (256 ∷ [])) ≡ bytes_of_all (1 ∷ 0 ∷ 1 ∷ 0x3b80_0000 ∷ [])) × (distance_answer (fine (256 ∷ [])) 16 16 ≡ Ok 2) × (distance_answer (fine (64 ∷ [])) 16 16 ≡ Err Refusal.Weight) × (distance_answer (fine []) 16 16 ≡ Err Refusal.Weight) × (distance_answer (fine (128 ∷ [])) 16 16 ≡ Err Refusal.Unit)
unfolding fine machine_of distance_number of_k round to_bits bytes_of_all
values-fine = (refl, refl, refl, refl, refl)
