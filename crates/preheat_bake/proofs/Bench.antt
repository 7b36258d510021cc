-- A small machine in two parts, word by word in each form, and Sheet A's length and refusals, by computation. Assumes nothing.
use mathlib.Core.Path.{◌≡◌, refl}
use mathlib.Core.List.{List, [], ◌∷◌, ◌++◌}
use Prim.Native.Nat.{ℕ}
use lib.Ieee.{round, to_bits}
use lib.ListN.{length}
use Rattle.tropical_weight.specs.Grid.{of_k}
use Rattle.sheet.specs.declared.form.Form.{Form}
use Rattle.sheet.specs.Words.{bytes_of_all}
use Rattle.sheet.specs.Machine.{machine_of}
use Rattle.sheet.proofs.Bench.{sheet_a}
use Rattle.machine.proofs.Bench.{machine_a}
use Rattle.narrowing.proofs.Bench.{three-two}
use Rattle.preheat_bake.specs.Outcome.{parted, split_number}

-- ---- three links to node 1, and two on to node 2, at node 1: links, nodes, trailer and numbers of each part, by the patterns of its weights and by
-- what follows the trailer's fifth field
first-words : ℕ → ℕ → ℕ → List ℕ → List ℕ
first-words a b c rest =
    (1 ∷ 1 ∷ a ∷ 1 ∷ 2 ∷ 2 ∷ b ∷ 1 ∷ 3 ∷ 3 ∷ c ∷ 1 ∷ [])
    ++ (3 ∷ 0 ∷ 0 ∷ 0 ∷ 1 ∷ 0 ∷ [])
    ++ (0 ∷ 48 ∷ 2 ∷ 3 ∷ 0 ∷ rest)
    ++ (0 ∷ 1 ∷ 2 ∷ [])

second-words : ℕ → ℕ → ℕ → List ℕ → List ℕ
second-words a b c rest =
    (4 ∷ 4 ∷ a ∷ 1 ∷ 5 ∷ 5 ∷ b ∷ 1 ∷ [])
    ++ (2 ∷ 0 ∷ 0 ∷ 0 ∷ 1 ∷ c ∷ [])
    ++ (0 ∷ 32 ∷ 2 ∷ 2 ∷ 0 ∷ rest)
    ++ (3 ∷ 4 ∷ [])

-- in 64ths: with the shorter trailer, and with the longer, which both parts keep
words-64 : List ℕ → List ℕ
words-64 rest = first-words 0x3da0_0000 0x3c80_0000 0x3e10_0000 rest ++ second-words 0x3e20_0000 0x3e40_0000 0x3fc8_0000 rest

in-two : (parted 1 (three-two Form.Short) ≡ bytes_of_all (words-64 [])) × (length (parted 1 (three-two Form.Short)) ≡ 188)
unfolding three-two first-words second-words words-64 parted bytes_of_all to_bits of_k round
in-two = (refl, refl)

in-two-64 : (parted 1 (three-two (Form.Long 64)) ≡ bytes_of_all (words-64 (64 ∷ []))) × (length (parted 1 (three-two (Form.Long 64))) ≡ 196)
unfolding three-two first-words second-words words-64 parted bytes_of_all to_bits of_k round
in-two-64 = (refl, refl)

-- in 256ths
words-256 : List ℕ → List ℕ
words-256 rest = first-words 0x3ca0_0000 0x3b80_0000 0x3d10_0000 rest ++ second-words 0x3d20_0000 0x3d40_0000 0x3ec8_0000 rest

in-two-256 : (parted 1 (three-two (Form.Long 256)) ≡ bytes_of_all (words-256 (256 ∷ []))) × (length (parted 1 (three-two (Form.Long 256))) ≡ 196)
unfolding three-two first-words second-words words-256 parted bytes_of_all to_bits of_k round
in-two-256 = (refl, refl)

-- ---- Sheet A at its last node: 21 where a byte is missing; 13 for a link past node 1, and for no node 4
size-A : length (parted 3 machine_a) ≡ 200
unfolding parted to_bits of_k round
size-A = refl

numbers-A : (split_number sheet_a 3 200 ≡ 0) × (split_number sheet_a 3 199 ≡ 21) × (split_number sheet_a 1 200 ≡ 13) × (split_number sheet_a 4 200 ≡ 13)
unfolding sheet_a machine_of split_number to_bits of_k round
numbers-A = (refl, refl, refl, refl)

-- with the longer trailer both parts are four bytes longer; 14 for another unit, before 13
long-a : ℕ → List ℕ
long-a unit = sheet_a ++ bytes_of_all (unit ∷ [])

size-A-long : length (parted 3 (record { links = machine_a.links; finals = machine_a.finals; start = machine_a.start; form = Form.Long 64 })) ≡ 208
unfolding parted to_bits of_k round
size-A-long = refl

numbers-A-long : (split_number (long-a 64) 3 208 ≡ 0) × (split_number (long-a 64) 3 207 ≡ 21) × (split_number (long-a 256) 3 208 ≡ 0) × (split_number (long-a 64) 1 208 ≡ 13) × (split_number (long-a 128) 1 208 ≡ 14)
unfolding sheet_a long-a machine_of split_number bytes_of_all to_bits of_k round
numbers-A-long = (refl, refl, refl, refl, refl)
