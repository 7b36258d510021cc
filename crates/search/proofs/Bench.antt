-- Cases P1 to P5 and P9 of document 01, and small machines with ties, by computation on the definitions. Assumes nothing.
use mathlib.Core.Path.{◌≡◌, refl}
use mathlib.Core.Option.{Option, none, some}
use mathlib.Core.List.{List, [], ◌∷◌, map}
use Prim.Native.Nat.{ℕ}
use lib.IntN.{pos}
use lib.ListN.{length}
use Rattle.tropical_weight.specs.Tropical.{Tropical, fin, one}
use Rattle.sheet.specs.declared.form.Form.{Form}
use Rattle.sheet.specs.Sheet.{parts_of}
use Rattle.sheet.specs.Machine.{Link, Machine, machine_of}
use Rattle.sheet.proofs.Bench.{sheet_a}
use Rattle.machine.specs.Readings.{link, reading_of, reading_cost, run_cost, marked}
use Rattle.machine.specs.Distance.{reached, dist, total, distances}
use Rattle.machine.specs.Parents.{best}
use Rattle.machine.proofs.Bench.{arc, machine_a, machine_fine, machine_b, machine_c}
use Rattle.search.specs.Reversed.{out_of_zero, links_into}
use Rattle.search.specs.Search.{search}
use Rattle.search.specs.ListMachine.{empty, result_for, result_bytes}
use Rattle.search.specs.Listed.{list_of}

-- what the bytes of a result tell of the list, with its costs and input labels, and the entries taken
record Told : Type 0 where
  runs : List (List ℕ)
  labels : List (List ℕ)
  costs : List Tropical
  taken : ℕ

abbrev told : Machine → ℕ → Told
told m n =
    let r = result_for m n in
    let list = list_of m.form n (length r.machine.finals) (length r.machine.links) (result_bytes r) in
    record { runs = list; labels = map (map (λ (l : ℕ). (link m l).ilabel)) list; costs = map (λ x. reading_cost m (reading_of m x)) list; taken = r.taken }

-- the links of a result's machine: source, next, weight, and the input link that each repeats
record Row : Type 0 where
  source : ℕ
  next : ℕ
  weight : Tropical
  repeats : Option ℕ

abbrev row : ℕ → ℕ → ℕ → Option ℕ → Row
row s t w l = record { source = s; next = t; weight = fin (pos w); repeats = l }

abbrev rows_of : List Link → List (Option ℕ) → List Row
rows_of [] ls = []
rows_of (k ∷ ks) [] = []
rows_of (k ∷ ks) (l ∷ ls) = record { source = k.source; next = k.next; weight = k.weight; repeats = l } ∷ rows_of ks ls

abbrev rows : Machine → ℕ → List Row
rows m n = let r = result_for m n in rows_of r.machine.links r.repeats

-- ---- Sheet A
abbrev of_a : Machine
of_a = machine_of (parts_of sheet_a)

is-A : of_a ≡ machine_a
unfolding sheet_a parts_of machine_of
is-A = refl

P1 : distances machine_a ≡ reached (pos 0) ∷ reached (pos 64) ∷ reached (pos 32) ∷ reached (pos 80) ∷ []
unfolding distances
P1 = refl

-- n = 0
A0 : told machine_a 0 ≡ record { runs = []; labels = []; costs = []; taken = 0 }
unfolding search marked out_of_zero links_into dist total run_cost best result_for result_bytes list_of
A0 = refl

-- P2, n = 1
A1 : told machine_a 1 ≡ record { runs = (0 ∷ 2 ∷ []) ∷ []; labels = (1 ∷ 3 ∷ []) ∷ []; costs = fin (pos 112) ∷ []; taken = 0 }
unfolding search marked out_of_zero links_into dist total run_cost best result_for result_bytes list_of
A1 = refl

A2 : told machine_a 2 ≡ record { runs = (0 ∷ 2 ∷ []) ∷ (1 ∷ 4 ∷ []) ∷ []; labels = (1 ∷ 3 ∷ []) ∷ (2 ∷ 4 ∷ []) ∷ []; costs = fin (pos 112) ∷ fin (pos 112) ∷ []; taken = 8 }
unfolding search marked out_of_zero links_into dist total run_cost best result_for result_bytes list_of
A2 = refl

-- P3, P4 and P9, n = 3, 4 and 64: all three readings
abbrev all_a : Told
all_a = record {
  runs = (0 ∷ 2 ∷ []) ∷ (1 ∷ 4 ∷ []) ∷ (0 ∷ 3 ∷ 4 ∷ []) ∷ [];
  labels = (1 ∷ 3 ∷ []) ∷ (2 ∷ 4 ∷ []) ∷ (1 ∷ 5 ∷ 4 ∷ []) ∷ [];
  costs = fin (pos 112) ∷ fin (pos 112) ∷ fin (pos 144) ∷ [];
  taken = 11;
}

A3 : told machine_a 3 ≡ all_a
unfolding search marked out_of_zero links_into dist total run_cost best result_for result_bytes list_of
A3 = refl

A4 : told machine_a 4 ≡ all_a
unfolding search marked out_of_zero links_into dist total run_cost best result_for result_bytes list_of
A4 = refl

A64 : told machine_a 64 ≡ all_a
unfolding search marked out_of_zero links_into dist total run_cost best result_for result_bytes list_of
A64 = refl

-- in 256ths, n = 3: the same readings at four times the units, and a result of the same form
fine3 : (told machine_fine 3 ≡ record { runs = all_a.runs; labels = all_a.labels; costs = fin (pos 448) ∷ fin (pos 448) ∷ fin (pos 576) ∷ []; taken = 11 }) × ((result_for machine_fine 3).machine.form ≡ Form.Long 256)
unfolding search marked out_of_zero links_into dist total run_cost best result_for result_bytes list_of
fine3 = (refl, refl)

-- the parents' way, from the final node, state 0, up to the start
way-A : (rows machine_a 1 ≡ row 1 0 16 (some 2) ∷ row 2 1 64 (some 0) ∷ []) × ((result_for machine_a 1).machine.finals ≡ some (fin (pos 32)) ∷ none ∷ none ∷ []) × ((result_for machine_a 1).machine.start ≡ some 2)
unfolding search marked out_of_zero links_into dist total best result_for
way-A = (refl, refl, refl)

-- the list machine: states 7 and 8 finish the two readings
rows-A : rows machine_a 2 ≡ row 0 7 0 none ∷ row 0 8 0 none ∷ row 2 1 32 none ∷ row 3 2 16 (some 2) ∷ row 4 2 48 (some 4) ∷ row 5 3 64 (some 0) ∷ row 6 4 32 (some 1) ∷ row 7 5 0 none ∷ row 8 6 0 none ∷ []
unfolding search marked out_of_zero links_into dist total best result_for
rows-A = refl

-- ---- P5: 20 bytes, no nodes and no start; empty at each n
sheet_e : List ℕ
sheet_e = 0 ∷ 0 ∷ 0 ∷ 0 ∷ 0 ∷ 0 ∷ 0 ∷ 0 ∷ 0 ∷ 0 ∷ 0 ∷ 0 ∷ 0 ∷ 0 ∷ 0 ∷ 0 ∷ 255 ∷ 255 ∷ 255 ∷ 255 ∷ []

P5 : (n : ℕ) → result_for (machine_of (parts_of sheet_e)) n ≡ empty Form.Short
unfolding sheet_e parts_of machine_of result_for
P5 n = refl

-- with the longer trailer its result is the sheet again, 24 bytes, in either unit
sheet_e_in : ℕ → ℕ → List ℕ
sheet_e_in low high = 0 ∷ 0 ∷ 0 ∷ 0 ∷ 0 ∷ 0 ∷ 0 ∷ 0 ∷ 0 ∷ 0 ∷ 0 ∷ 0 ∷ 0 ∷ 0 ∷ 0 ∷ 0 ∷ 255 ∷ 255 ∷ 255 ∷ 255 ∷ low ∷ high ∷ 0 ∷ 0 ∷ []

long-E : (n : ℕ) → (result_bytes (result_for (machine_of (parts_of (sheet_e_in 64 0))) n) ≡ sheet_e_in 64 0) × (result_bytes (result_for (machine_of (parts_of (sheet_e_in 0 1))) n) ≡ sheet_e_in 0 1)
unfolding sheet_e_in parts_of machine_of result_for result_bytes
long-E n = (refl, refl)

-- ---- two equal links, then three: six readings of equal cost, of which the heap picks these; the one that the parents give, 0 and 2, is not among them
B2 : told machine_b 2 ≡ record { runs = (1 ∷ 2 ∷ []) ∷ (0 ∷ 3 ∷ []) ∷ []; labels = (1 ∷ 1 ∷ []) ∷ (1 ∷ 1 ∷ []) ∷ []; costs = one ∷ one ∷ []; taken = 11 }
unfolding machine_b search marked out_of_zero links_into dist total run_cost best result_for result_bytes list_of
B2 = refl

-- ---- three readings of cost 0: half-built entries of the same rank are taken before finished ones
machine_d : Machine
machine_d = record { links = arc 0 1 0 1 ∷ arc 0 1 0 2 ∷ []; finals = some one ∷ some one ∷ some one ∷ []; start = some 0; form = Form.Short }

D2 : told machine_d 2 ≡ record { runs = [] ∷ (0 ∷ []) ∷ []; labels = [] ∷ (1 ∷ []) ∷ []; costs = one ∷ one ∷ []; taken = 8 }
unfolding machine_d search marked out_of_zero links_into dist total run_cost best result_for result_bytes list_of
D2 = refl

-- ---- from node 1 of four: unreached nodes have infinite rank, and are taken when the list is not full
C3 : told machine_c 3 ≡ record { runs = [] ∷ (1 ∷ []) ∷ []; labels = [] ∷ (2 ∷ []) ∷ []; costs = fin (pos 4) ∷ fin (pos 4) ∷ []; taken = 10 }
unfolding machine_c search marked out_of_zero links_into dist total run_cost best result_for result_bytes list_of
C3 = refl

-- entries at unreached nodes are taken, and trimmed off
rows-C : rows machine_c 3 ≡ row 0 4 0 none ∷ row 0 6 0 none ∷ row 2 1 4 none ∷ row 3 1 0 none ∷ row 4 2 0 none ∷ row 5 3 4 (some 1) ∷ row 6 5 0 none ∷ []
unfolding machine_c search marked out_of_zero links_into dist total best result_for
rows-C = refl
