-- The sum of a reading's weights in single precision is its cost, exactly. Assumes nothing.
use mathlib.Core.Path.{◌≡◌, refl, sym, ap, ◌∙◌, subst}
use mathlib.Core.Logic.{◌⊎◌, inl, inr}
use mathlib.Core.Option.{Option, none, some}
use mathlib.Core.List.{List, [], ◌∷◌, map, map-map}
use Prim.Native.Nat.{ℕ, ◌+◌, ◌≤◌, ◌<◌}
use native.Mathlib.Numerals.{add-one}
use native.Mathlib.Omega.{arith}
use lib.IntN.{ℤ}
use lib.ListN.{length, get_or, drop}
use lib.Seq.{drop-cons, drop-length}
use lib.Ieee.{Float, binary32, add, of_bits}
use Rattle.tropical_weight.specs.Limits.{finest, weight_limit, node_limit, sum_limit}
use Rattle.tropical_weight.specs.Tropical.{Tropical, fin, one, ◌⊗◌, times_all, Within}
use Rattle.tropical_weight.specs.Grid.{of_t}
use Rattle.tropical_weight.specs.Single.{add_all, Computes, Costs}
use Rattle.tropical_weight.proofs.Exact.{one-of_t}
use Rattle.tropical_weight.proofs.Semiring.{one-⊗}
use Rattle.tropical_weight.proofs.Sums.{within-mono, limits}
use Rattle.sheet.specs.Records.{mark_at, final_at}
use Rattle.sheet.specs.Machine.{Machine, unit_in, machine}
use Rattle.sheet.proofs.Forms.{covered}
use Rattle.machine.specs.declared.climbing.Machine.{Machine as Climbing}
use Rattle.machine.specs.Readings.{link, final, final_weight, run_cost, IsReading, reading_of, reading_cost}
use Rattle.machine.specs.Demand.{◌∈◌}
use Rattle.machine.proofs.Lists.{map_same, get_or-mem}
use Rattle.machine.proofs.Runs.{run_in, times-run}
use Rattle.machine.proofs.Readings.{final-in}
use Rattle.machine.proofs.Bounds.{reading-limit, reading-exact}
use Rattle.machine.proofs.SheetFields.{SheetFields, marked-final, unmarked-final}
use Rattle.read_back.specs.Costs.{weight_at, run_sum}
use Rattle.read_back.proofs.Follow.{fields_in}

-- ---- the sum of a run
pub sum-next : (bytes run : List ℕ) (sum new : Float) (i : ℕ) → i < length run → new ≡ add binary32 sum (weight_at bytes (get_or run i 0))
    → add_all sum (map (weight_at bytes) (drop i run)) ≡ run_sum bytes run → add_all new (map (weight_at bytes) (drop (i + 1) run)) ≡ run_sum bytes run
unfolding add_all
sum-next bytes run sum new i b e w =
    let l : drop i run ≡ get_or run i 0 ∷ drop (i + 1) run = drop-cons run i 0 b ∙ λ a. get_or run i 0 ∷ drop (sym (add-one i) a) run in
    ap (λ (s : Float). add_all s (map (weight_at bytes) (drop (i + 1) run))) e ∙ ap (λ (r : List ℕ). add_all sum (map (weight_at bytes) r)) (sym l) ∙ w

pub sum-end : (bytes run : List ℕ) (sum : Float) → add_all sum (map (weight_at bytes) (drop (length run) run)) ≡ run_sum bytes run → sum ≡ run_sum bytes run
unfolding add_all
sum-end bytes run sum w = sym (ap (λ (r : List ℕ). add_all sum (map (weight_at bytes) r)) (drop-length run)) ∙ w

-- ---- a reading's cost, by the fields of a machine's sheet
module _ (c : Climbing) (run : List ℕ) (reading : IsReading (machine c.sheet.bytes.now) (reading_of (machine c.sheet.bytes.now) run)) where
  abbrev bytes : List ℕ
  bytes = c.sheet.bytes.now

  abbrev m : Machine
  m = machine c.sheet.bytes.now

  abbrev end : ℕ
  end = (reading_of m run).end

  abbrev unit : ℕ
  unit = unit_in (machine c.sheet.bytes.now)

  fine : unit_in (machine c.sheet.bytes.now) ≤ finest
  fine = covered (machine c.sheet.bytes.now).form

  f : SheetFields c.sheet.bytes.now c.sheet.links c.sheet.nodes (machine c.sheet.bytes.now)
  f = fields_in c

  few : length m.finals ≤ node_limit
  few = omega (arith, f.few-nodes, f.nodes-are)

  -- its links are links, and it ends at a node
  in-links : (l : ℕ) → l ∈ run → l < length m.links
  in-links = run_in m run reading.from end reading.runs

  pub link-in-sheet : (i : ℕ) → i < length run → get_or run i 0 < c.sheet.links
  link-in-sheet i h = omega (arith, in-links (get_or run i 0) (get_or-mem run i 0 h), f.links-are)

  -- ---- what it costs
  abbrev weights : List Tropical
  weights = map (λ l. (link m l).weight) run

  exact : (add_all (of_t unit one) (map (of_t unit) weights) ≡ of_t unit (times_all one weights)) × Within sum_limit (times_all one weights)
  exact =
      reading-exact m f.climbs weight_limit f.small node_limit limits few (reading_of m run) reading unit fine weights (final_weight (final m end) ∷ []) refl

  cost-is : times_all one weights ≡ run_cost m run
  cost-is = times-run m one run ∙ one-⊗ (run_cost m run)

  sum_is : run_sum bytes run ≡ of_t unit (run_cost m run)
  sum_is =
      ap (λ (z : Float). add_all z (map (weight_at bytes) run)) (sym (one-of_t 0 (omega arith)) ∙ one-of_t unit fine)
      ∙ ap (add_all (of_t unit one)) (map_same (weight_at bytes) (λ l. of_t unit (link m l).weight) run (λ l q. f.link-value l (omega (arith, in-links l q, f.links-are))) ∙ sym (map-map (of_t unit) (λ l. (link m l).weight) run))
      ∙ exact.0 ∙ ap (of_t unit) cost-is

  -- the final weight
  in-nodes : (reading_of (machine c.sheet.bytes.now) run).end < c.sheet.nodes
  in-nodes = omega (arith, final-in m end reading.weight reading.marked, f.nodes-are)

  final-is : of_bits binary32 (final_at c.sheet.bytes.now c.sheet.links (reading_of (machine c.sheet.bytes.now) run).end) ≡ of_t (unit_in (machine c.sheet.bytes.now)) (final_weight (final (machine c.sheet.bytes.now) (reading_of (machine c.sheet.bytes.now) run).end))
  final-is = go (f.mark-at end in-nodes)
    where
      go : (mark_at bytes c.sheet.links end ≡ 0) ⊎ (mark_at bytes c.sheet.links end ≡ 1) → of_bits binary32 (final_at bytes c.sheet.links end) ≡ of_t unit (final_weight (final m end))
      go (inl z) = let q : none ≡ some reading.weight = sym (unmarked-final f end in-nodes (λ y. omega (arith, z, y))) ∙ reading.marked in let x : ◌≡◌ {A = ℕ} 0 1 = cc in absurd (omega arith)
      go (inr z) =
          let marked : mark_at bytes c.sheet.links end ≡ 0 → ⊥ = λ y. omega (arith, z, y) in
          f.final_value end in-nodes marked ∙ ap (λ (o : Option Tropical). of_t unit (final_weight o)) (sym (marked-final f end in-nodes marked))

  final-within : Within sum_limit (final_weight (final m end))
  final-within =
      subst (λ (o : Option Tropical). Within sum_limit (final_weight o)) (sym reading.marked) (within-mono weight_limit sum_limit reading.weight (omega arith) (f.small.on_final end reading.weight reading.marked))

  -- what the code adds up and answers
  pub cost-answers : (sum weight total : Float) (k : ℤ) → sum ≡ run_sum c.sheet.bytes.now run → weight ≡ of_bits binary32 (final_at c.sheet.bytes.now c.sheet.links (reading_of (machine c.sheet.bytes.now) run).end)
      → Computes (add binary32) ◌⊗◌ sum weight total → Costs (unit_in (machine c.sheet.bytes.now)) total k → fin k ≡ reading_cost (machine c.sheet.bytes.now) (reading_of (machine c.sheet.bytes.now) run)
  cost-answers sum weight total k s w t p =
      let within : Within sum_limit (fin reading.costs) = subst (Within sum_limit) reading.finite (reading-limit m f.climbs weight_limit f.small node_limit limits few (reading_of m run) reading) in
      let is : total ≡ of_t unit (reading_cost m (reading_of m run)) =
      t.exact unit fine (run_cost m run) (final_weight (final m end)) (subst (Within sum_limit) cost-is exact.1) final-within (s ∙ sum_is) (w ∙ final-is) in
      ap fin (p.exact reading.costs within (is ∙ ap (of_t unit) reading.finite)) ∙ sym reading.finite
