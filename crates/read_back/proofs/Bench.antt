-- A list read back by computation: Sheet A's for n = 2 and n = 1, as document 01 lays them out, and damaged ones. Assumes nothing.
use mathlib.Core.Path.{◌≡◌, refl}
use mathlib.Core.Bool.{true, false}
use mathlib.Core.Option.{none, some}
use mathlib.Core.List.{List, [], ◌∷◌}
use Prim.Native.Nat.{ℕ}
use lib.ListN.{set, take}
use Rattle.sheet.specs.declared.form.Form.TheVariants as Form
use Rattle.sheet.specs.Words.{word, bytes_of_all}
use Rattle.machine.proofs.Bench.{machine_a}
use Rattle.read_back.specs.Way.{count_in, is_list, way_from, way_of}
use Rattle.read_back.specs.Follows.{reads_to, if_reading}

abbrev nothing : ℕ
nothing = 0xffff_ffff

-- n = 2: nine links, nine states, the trailer, and a word a link
unfoldable two : List ℕ
unfolding bytes_of_all
two =
    bytes_of_all
    (0 ∷ 0 ∷ 0 ∷ 7
    ∷ 0 ∷ 0 ∷ 0 ∷ 8
    ∷ 0 ∷ 0 ∷ 0x3f00_0000 ∷ 1
    ∷ 3 ∷ 3 ∷ 0x3e80_0000 ∷ 2
    ∷ 4 ∷ 4 ∷ 0x3f40_0000 ∷ 2
    ∷ 1 ∷ 1 ∷ 0x3f80_0000 ∷ 3
    ∷ 2 ∷ 2 ∷ 0x3f00_0000 ∷ 4
    ∷ 0 ∷ 0 ∷ 0 ∷ 5
    ∷ 0 ∷ 0 ∷ 0 ∷ 6
    ∷ 2 ∷ 0 ∷ 0
    ∷ 0 ∷ 1 ∷ 0
    ∷ 1 ∷ 0 ∷ 0
    ∷ 1 ∷ 0 ∷ 0
    ∷ 1 ∷ 0 ∷ 0
    ∷ 1 ∷ 0 ∷ 0
    ∷ 1 ∷ 0 ∷ 0
    ∷ 1 ∷ 0 ∷ 0
    ∷ 1 ∷ 0 ∷ 0
    ∷ 0 ∷ 144 ∷ 9 ∷ 9 ∷ 0
    ∷ nothing ∷ nothing ∷ nothing ∷ 2 ∷ 4 ∷ 0 ∷ 1 ∷ nothing ∷ nothing ∷ [])

-- n = 1: two links, three states, the trailer, and a word a link
unfoldable one : List ℕ
unfolding bytes_of_all
one =
    bytes_of_all
    (3 ∷ 3 ∷ 0x3e80_0000 ∷ 0
    ∷ 1 ∷ 1 ∷ 0x3f80_0000 ∷ 1
    ∷ 0 ∷ 1 ∷ 0x3f00_0000
    ∷ 1 ∷ 0 ∷ 0
    ∷ 1 ∷ 0 ∷ 0
    ∷ 0 ∷ 32 ∷ 3 ∷ 2 ∷ 2
    ∷ 2 ∷ 0 ∷ [])

-- links 0 and 2, then links 1 and 4; there is no third
both : (is_list Form.Short two 9 9 2 ≡ true) × (count_in two 9 9 2 ≡ 2) × (way_of Form.Short two 9 9 2 0 ≡ some (0 ∷ 2 ∷ [])) × (way_of Form.Short two 9 9 2 1 ≡ some (1 ∷ 4 ∷ []))
unfolding two word way_from
both = (refl, refl, refl, refl)

best : (is_list Form.Short one 3 2 1 ≡ true) × (count_in one 3 2 1 ≡ 1) × (way_of Form.Short one 3 2 1 0 ≡ some (0 ∷ 2 ∷ []))
unfolding one word way_from
best = (refl, refl, refl)

-- a byte too short; asked for fewer; counts that are not the result's; the word of link 5 made 1, which leaves no node that is reached; state 7 led to itself
damaged : (is_list Form.Short (take 307 two) 9 9 2 ≡ false) × (is_list Form.Short two 9 9 0 ≡ false) × (is_list Form.Short two 9 10 2 ≡ false)
unfolding two word
damaged = (refl, refl, refl)

other-run : (way_of Form.Short (set two 292 1) 9 9 2 0 ≡ some (1 ∷ 2 ∷ [])) × (if_reading machine_a (way_of Form.Short (set two 292 1) 9 9 2 0) ≡ none)
unfolding two word way_from
other-run = (refl, refl)

no_way : way_of Form.Short (set two 124 7) 9 9 2 0 ≡ none
unfolding two word way_from
no_way = refl

-- the three readings of Sheet A; runs that stop before its final node, begin elsewhere, do not follow, or have no such link
readings : (reads_to machine_a (0 ∷ 2 ∷ []) ≡ some 3) × (reads_to machine_a (1 ∷ 4 ∷ []) ≡ some 3) × (reads_to machine_a (0 ∷ 3 ∷ 4 ∷ []) ≡ some 3)
readings = (refl, refl, refl)

no-readings : (reads_to machine_a [] ≡ none) × (reads_to machine_a (0 ∷ []) ≡ none) × (reads_to machine_a (2 ∷ []) ≡ none) × (reads_to machine_a (0 ∷ 4 ∷ []) ≡ none) × (reads_to machine_a (5 ∷ []) ≡ none)
no-readings = (refl, refl, refl, refl, refl)

-- the best reading's result of the same machine in 256ths ends in the longer trailer; read as the shorter one, its sixth field would be the word of link 0
unfoldable fine : List ℕ
unfolding bytes_of_all
fine =
    bytes_of_all
    (3 ∷ 3 ∷ 0x3e80_0000 ∷ 0
    ∷ 1 ∷ 1 ∷ 0x3f80_0000 ∷ 1
    ∷ 0 ∷ 1 ∷ 0x3f00_0000
    ∷ 1 ∷ 0 ∷ 0
    ∷ 1 ∷ 0 ∷ 0
    ∷ 0 ∷ 32 ∷ 3 ∷ 2 ∷ 2 ∷ 256
    ∷ 2 ∷ 0 ∷ [])

by-form : (way_of (Form.Long 256) fine 3 2 1 0 ≡ some (0 ∷ 2 ∷ [])) × (way_of Form.Short fine 3 2 1 0 ≡ some (2 ∷ 256 ∷ [])) × (is_list (Form.Long 256) fine 3 2 1 ≡ true) × (is_list (Form.Long 256) (take 99 fine) 3 2 1 ≡ false) × (is_list (Form.Long 256) one 3 2 1 ≡ false)
unfolding fine one word way_from
by-form = (refl, refl, refl, refl, refl)
