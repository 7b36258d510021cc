-- Cases of request (h): the second table, by computation on the definitions; and a short sheet whose answer for n = 1 is laid out under the longer trailer too. Assumes
-- nothing.
use mathlib.Core.Path.{◌≡◌, refl, sym, ap, ◌∙◌, subst}
use mathlib.Core.Logic.{◌⊎◌, inl, inr}
use mathlib.Core.Bool.{Bool, cond}
use mathlib.Core.Option.{Option, some, some-injective}
use mathlib.Core.List.{List, [], ◌∷◌, ◌++◌, map}
use Prim.Native.Nat.{ℕ, zero, suc, ◌^◌, ◌≤◌, ◌<◌}
use native.Mathlib.Omega.{arith}
use lib.IntN.{pos}
use lib.ListN.{length}
use lib.Ieee.{round, to_bits}
use borrow.Author.Tests.{lt-ltb, le-ltb}
use Rattle.tropical_weight.specs.Limits.{weight_limit}
use Rattle.tropical_weight.specs.Tropical.{Tropical, one, ◌⊗◌, Within}
use Rattle.tropical_weight.specs.Grid.{of_k}
use Rattle.sheet.specs.declared.form.Form.{Form}
use Rattle.sheet.specs.Below.{list_below}
use Rattle.sheet.specs.Words.{words, bytes_of, bytes_of_all}
use Rattle.sheet.specs.Sheet.{form_of, sheet_of, parts_of}
use Rattle.sheet.specs.Machine.{Link, Machine, machine_of, parts_for}
use Rattle.sheet.proofs.Below.{split_at, length-list_below, get_or-list_below}
use Rattle.machine.specs.Readings.{Reading, IsReading, IsRun, no_link, link, final, run_cost, marked}
use Rattle.machine.specs.Parents.{best}
use Rattle.machine.specs.Climbs.{Climbs}
use Rattle.machine.proofs.Readings.{same-reading}
use Rattle.machine.proofs.Parents.{best-is, best-some}
use Rattle.machine.proofs.SheetOf.{Readable, sheet-machine}
use Rattle.shortest_distance.specs.Outcome.{distance_number}
use Rattle.search.specs.Reversed.{out_of_zero, links_into}
use Rattle.search.specs.ListMachine.{back_links, best_result, result_by, result_for, result_bytes}
use Rattle.search.specs.Listed.{list_of}
use Rattle.search.proofs.Lists.{Accepted, list-one}
use Rattle.shortest_path.specs.Outcome.{list_number}
use Rattle.bench_values.specs.Table.{sheet_a, sheet_e, one_link, Case}
use Rattle.bench_values.specs.Forms.{U1, U2, U3, U4, U5, U6, U7, U8, U9, unit_table, Longer, far_link, far, far_answer, Far}

told-1 : U1.told ≡ U1.stated
unfolding sheet_a sheet_e one_link bytes_of bytes_of_all list_below parts_of machine_of of_k round to_bits distance_number list_number list_of marked out_of_zero links_into run_cost words
told-1 = refl

told-2 : U2.told ≡ U2.stated
unfolding sheet_a sheet_e one_link bytes_of bytes_of_all list_below parts_of machine_of of_k round to_bits distance_number list_number list_of marked out_of_zero links_into run_cost words
told-2 = refl

told-3 : U3.told ≡ U3.stated
unfolding sheet_a sheet_e one_link bytes_of bytes_of_all list_below parts_of machine_of of_k round to_bits distance_number list_number list_of marked out_of_zero links_into run_cost words
told-3 = refl

told-4 : U4.told ≡ U4.stated
unfolding sheet_a sheet_e one_link bytes_of bytes_of_all list_below parts_of machine_of of_k round to_bits distance_number list_number list_of marked out_of_zero links_into run_cost words
told-4 = refl

told-5 : U5.told ≡ U5.stated
unfolding sheet_a sheet_e one_link bytes_of bytes_of_all list_below parts_of machine_of of_k round to_bits distance_number list_number list_of marked out_of_zero links_into run_cost words
told-5 = refl

told-6 : U6.told ≡ U6.stated
unfolding sheet_a sheet_e one_link bytes_of bytes_of_all list_below parts_of machine_of of_k round to_bits distance_number list_number list_of marked out_of_zero links_into run_cost words
told-6 = refl

told-7 : U7.told ≡ U7.stated
unfolding sheet_a sheet_e one_link bytes_of bytes_of_all list_below parts_of machine_of of_k round to_bits distance_number list_number list_of marked out_of_zero links_into run_cost words
told-7 = refl

told-8 : U8.told ≡ U8.stated
unfolding sheet_a sheet_e one_link bytes_of bytes_of_all list_below parts_of machine_of of_k round to_bits distance_number list_number list_of marked out_of_zero links_into run_cost words
told-8 = refl

told-9 : U9.told ≡ U9.stated
unfolding sheet_a sheet_e one_link bytes_of bytes_of_all list_below parts_of machine_of of_k round to_bits distance_number list_number list_of marked out_of_zero links_into run_cost words
told-9 = refl

-- each case of the table tells what is stated
pub unit_table-holds : map (λ (c : Case). c.told) unit_table ≡ map (λ (c : Case). c.stated) unit_table
unit_table-holds = λ i. told-1 i ∷ told-2 i ∷ told-3 i ∷ told-4 i ∷ told-5 i ∷ told-6 i ∷ told-7 i ∷ told-8 i ∷ told-9 i ∷ []

pub longer : Longer
unfolding sheet_a bytes_of bytes_of_all list_below parts_of machine_of result_for result_bytes marked out_of_zero links_into run_cost words
longer = record { sheet = refl; answers = refl; trailer = refl }

-- ---- the machine whose one reading is link 256
abbrev low : Link
low = record { source = 0; ilabel = 1; olabel = 1; weight = one; next = 1 }

abbrev high : Link
high = record { source = 1; ilabel = 1; olabel = 1; weight = one; next = 2 }

abbrev by-test : Bool → Link
by-test b = let s = cond b 0 1 in record { source = s; ilabel = 1; olabel = 1; weight = one; next = suc s }

links-are : length far.links ≡ 257
unfolding far
links-are = length-list_below 257 far_link

nodes-are : length far.finals ≡ 3
unfolding far
nodes-are = refl

far-at : (l : ℕ) → l < 257 → link far l ≡ far_link l
unfolding far
far-at l h = get_or-list_below 257 far_link l no_link h

-- a link is one of the first 256, or the last
at : (l : ℕ) → l < length far.links → ((l < 256) × (link far l ≡ low)) ⊎ ((l ≡ 256) × (link far l ≡ high))
at l h = elim (split_at l 256) [
  | inl b ↦ inl (b, far-at l (omega (arith, links-are)) ∙ ap by-test (lt-ltb l 256 b))
  | inr b ↦ inr (omega (arith, links-are), far-at l (omega (arith, links-are)) ∙ ap by-test (le-ltb l 256 b))
]

each : (P : Link → Type 0) → P low → P high → (l : ℕ) → l < length far.links → P (link far l)
each P a b l h = elim (at l h) [ inl q ↦ subst P (sym q.1) a | inr q ↦ subst P (sym q.1) b ]

sorted : (k l : ℕ) → k ≤ l → l < length far.links → (link far k).source ≤ (link far l).source
sorted k l h b = elim (at k (omega arith)) [
  | inl q ↦ omega (arith, ap (λ (x : Link). x.source) q.1)
  | inr q ↦ elim (at l b) [
    | inl r ↦ absurd (omega (arith, q.0, r.0))
    | inr r ↦ omega (arith, ap (λ (x : Link). x.source) q.1, ap (λ (x : Link). x.source) r.1)
  ]
]

labels : (l : ℕ) → l < length far.links → ((link far l).ilabel < 2 ^ 32) × ((link far l).olabel < 2 ^ 32)
labels = each (λ k. (k.ilabel < 2 ^ 32) × (k.olabel < 2 ^ 32)) (omega arith, omega arith) (omega arith, omega arith)

inside : (l : ℕ) → l < length far.links → (link far l).next < length far.finals
inside = each (λ k. k.next < length far.finals) (omega (arith, nodes-are)) (omega (arith, nodes-are))

climbs : Climbs far
climbs = record { rises = each (λ k. k.source < k.next) (omega arith) (omega arith); inside = inside; sorted = sorted }

start_is : (v : ℕ) → far.start ≡ some v → v ≡ 1
unfolding far
start_is v e = sym (some-injective 1 v e)

-- only node 2 is final
final_is : (v : ℕ) (w : Tropical) → final far v ≡ some w → (v ≡ 2) × (w ≡ one)
unfolding far
final_is zero w e = let z : ◌≡◌ {A = ℕ} 0 1 = cc in absurd (omega arith)
final_is (suc zero) w e = let z : ◌≡◌ {A = ℕ} 0 1 = cc in absurd (omega arith)
final_is (suc (suc zero)) w e = (refl, sym (some-injective one w e))
final_is (suc (suc (suc v))) w e = let z : ◌≡◌ {A = ℕ} 0 1 = cc in absurd (omega arith)

readable : Readable far
unfolding far
readable = record {
  source_in = each (λ k. k.source < length far.finals) (omega (arith, nodes-are)) (omega (arith, nodes-are));
  next-in = inside;
  sorted = sorted;
  labels = labels;
  small = record {
    on_link = each (λ k. Within weight_limit k.weight) (omega arith) (omega arith);
    on_final = λ v w e. subst (Within weight_limit) (sym (final_is v w e).1) (omega arith);
  };
  starts = λ v e. omega (arith, start_is v e, nodes-are);
  few-nodes = omega (arith, nodes-are);
  few-links = omega (arith, links-are);
  unit_fits_lem = refl;
}

accepted : Accepted far
unfolding far
accepted = record { climbs = climbs; labels = labels; few-nodes = omega (arith, nodes-are); few-links = omega (arith, links-are); unit-word = λ i. omega arith }

-- no link leaves node 2, and link 256 alone leaves node 1
from_two : (r : List ℕ) → IsRun far 2 r 2 → r ≡ []
from_two [] h = refl
from_two (l ∷ r) h = absurd (omega (arith, h.1, each (λ k. k.source < 2) (omega arith) (omega arith) l h.0))

from_one : (r : List ℕ) → IsRun far 1 r 2 → r ≡ 256 ∷ []
from_one [] h = absurd (omega (arith, h))
from_one (l ∷ r) h = elim (at l h.0) [
  | inl q ↦ absurd (omega (arith, h.1, ap (λ (x : Link). x.source) q.1))
  | inr q ↦ λ i. q.0 i ∷ from_two r (subst (λ (u : ℕ). IsRun far u r 2) (ap (λ (x : Link). x.next) q.1) h.2) i
]

abbrev one_reading : Reading
one_reading = record { run = 256 ∷ []; end = 2 }

last-link : link far 256 ≡ high
last-link = far-at 256 (omega arith) ∙ ap by-test (le-ltb 256 256 (omega arith))

is : IsReading far one_reading
unfolding far run_cost
is = record {
  from = 1;
  weight = one;
  starts = refl;
  runs = (omega (arith, links-are), ap (λ (x : Link). x.source) last-link, ap (λ (x : Link). x.next) last-link);
  marked = refl;
  costs = pos 0;
  finite = ap (λ (x : Link). (x.weight ⊗ one) ⊗ one) last-link;
}

only : (x : Reading) → IsReading far x → x ≡ one_reading
only x i =
    let ends = (final_is x.end i.weight i.marked).0 in
    let runs : IsRun far 1 x.run 2 = subst (λ (u : ℕ). IsRun far u x.run 2) (start_is i.from i.starts) (subst (IsRun far i.from x.run) ends i.runs) in
    same-reading far x one_reading i is (from_one x.run runs)

best_is : best far ≡ some one_reading
best_is = let b = best-some far climbs one_reading is in b.1 ∙ ap some (only b.0 (best-is far climbs b.0 b.1).0)

-- ---- its answer for n = 1
result_is : result_for far 1 ≡ best_result far one_reading
unfolding result_for
result_is = ap (λ (o : Option Reading). result_by far 1 o) best_is

answer_is : far_answer ≡ result_bytes (best_result far one_reading)
answer_is = ap (λ (m : Machine). result_bytes (result_for m 1)) (sheet-machine far readable) ∙ ap result_bytes result_is

words-are : result_bytes (best_result far one_reading) ≡ bytes_of_all (1 ∷ 1 ∷ 0 ∷ 0 ∷ 0 ∷ 1 ∷ 0 ∷ 1 ∷ 0 ∷ 0 ∷ 0 ∷ 16 ∷ 2 ∷ 1 ∷ 1 ∷ 256 ∷ [])
unfolding far list_below back_links result_bytes parts_for sheet_of bytes_of_all bytes_of of_k round to_bits
words-are = refl

read-back : (rest : List ℕ) → list_of Form.Short 1 2 1 (result_bytes (best_result far one_reading) ++ rest) ≡ (256 ∷ []) ∷ []
unfolding far back_links
read-back rest = list-one far accepted one_reading is rest

pub far-holds : Far
unfolding form_of words bytes_of_all bytes_of
far-holds = record {
  word-behind = ap (λ (b : List ℕ). words b 40 6) (answer_is ∙ words-are);
  other-form = ap form_of (answer_is ∙ words-are);
  read = λ rest. ap (λ (b : List ℕ). list_of Form.Short 1 2 1 (b ++ rest)) answer_is ∙ read-back rest;
}
