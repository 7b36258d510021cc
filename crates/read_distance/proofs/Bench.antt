-- Distances read back by computation: those of Sheet A of document 01 in either unit, lengths and nodes at their limits, and words that are no distance.
-- Assumes nothing.
use mathlib.Core.Path.{◌≡◌, refl}
use mathlib.Core.List.{List, [], ◌∷◌, ◌++◌}
use Prim.Native.Nat.{ℕ}
use lib.IntN.{pos, negsuc}
use Rattle.sheet.specs.Words.{word, bytes_of_all}
use Rattle.tropical_weight.specs.Limits.{unit, finest}
use Rattle.tropical_weight.specs.Grid.{units_of, grid_bits}
use Rattle.std.specs.Prelude.{Some, None, Ok, Err}
use Rattle.sheet.specs.declared.refusal.Refusal.TheVariants.{NoAnswer, Absent}
use Rattle.read_distance.specs.Told.{words_tell, distance_told}

-- what the call for distances writes of Sheet A: reached at 0, 1, 0.5 and 1.25
unfoldable values_a : List ℕ
unfolding bytes_of_all
values_a = bytes_of_all (1 ∷ 0 ∷ 1 ∷ 0x3f80_0000 ∷ 1 ∷ 0x3f00_0000 ∷ 1 ∷ 0x3fa0_0000 ∷ [])

read-A : (distance_told unit values_a 4 0 ≡ Ok (Some (pos 0))) × (distance_told unit values_a 4 1 ≡ Ok (Some (pos 64))) × (distance_told unit values_a 4 2 ≡ Ok (Some (pos 32))) × (distance_told unit values_a 4 3 ≡ Ok (Some (pos 80)))
unfolding values_a word grid_bits units_of
read-A = (refl, refl, refl, refl)

-- no node has the number 4; a result of four values has no five, whatever the node; what follows is not looked at
limits-A : (distance_told unit values_a 4 4 ≡ Err Absent) × (distance_told unit values_a 5 0 ≡ Err NoAnswer) × (distance_told unit values_a 5 5 ≡ Err NoAnswer) × (distance_told unit (values_a ++ 7 ∷ []) 4 3 ≡ Ok (Some (pos 80)))
unfolding values_a word grid_bits units_of
limits-A = (refl, refl, refl, refl)

-- 0 and 0, a unit below 0, and 2 ^ 24 units, the limit of sums
words : (words_tell unit 0 0 ≡ Ok None) × (words_tell unit 1 0xbc80_0000 ≡ Ok (Some (negsuc 0))) × (words_tell unit 1 0x4880_0000 ≡ Ok (Some (pos 16777216)))
unfolding grid_bits units_of
words = (refl, refl, refl)

-- a second word with the mark 0, a mark above 1, negative zero, infinity, a NaN, half a unit, and two units above the limit
no_distance : (words_tell unit 0 1 ≡ Err NoAnswer) × (words_tell unit 2 0 ≡ Err NoAnswer) × (words_tell unit 1 0x8000_0000 ≡ Err NoAnswer) × (words_tell unit 1 0x7f80_0000 ≡ Err NoAnswer) × (words_tell unit 1 0x7fc0_0000 ≡ Err NoAnswer) × (words_tell unit 1 0x3c00_0000 ≡ Err NoAnswer) × (words_tell unit 1 0x4880_0001 ≡ Err NoAnswer)
unfolding grid_bits units_of
no_distance = (refl, refl, refl, refl, refl, refl, refl)

-- in 256ths: 1.25 is 320 of them; 1/256 is one, and in 64ths no distance; half of it is none in either; 2 ^ 24 of them are the limit of sums
in-256ths : (distance_told finest values_a 4 0 ≡ Ok (Some (pos 0))) × (distance_told finest values_a 4 3 ≡ Ok (Some (pos 320))) × (distance_told finest values_a 4 4 ≡ Err Absent) × (words_tell finest 0 0 ≡ Ok None)
    × (words_tell finest 1 0x3b80_0000 ≡ Ok (Some (pos 1))) × (words_tell unit 1 0x3b80_0000 ≡ Err NoAnswer) × (words_tell finest 1 0x3b00_0000 ≡ Err NoAnswer)
    × (words_tell finest 1 0x4780_0000 ≡ Ok (Some (pos 16777216))) × (words_tell finest 1 0x4780_0001 ≡ Err NoAnswer)
unfolding values_a word grid_bits units_of
in-256ths = (refl, refl, refl, refl, refl, refl, refl, refl, refl)
