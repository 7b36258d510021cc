-- Runs of links, readings and their costs, as document 01 words them, and the list of all readings. Definitions only.
use Rattle.std.specs.Prelude.{◌≡◌, Bool, false, cond, List, [], ◌∷◌, ◌++◌, map, ℕ, zero, suc, ◌<◌, eqb, ℤ, get_or, length}
use Rattle.std.proofs.Math.Option.{Option, none, some}
use Rattle.tropical_weight.specs.Tropical.{Tropical, fin, inf, one, lt_t, ◌⊗◌}
use Rattle.sheet.specs.Machine.{Link, Machine}

-- what stands where no link has the number
abbrev pub no_link : Link
no_link = record { source = 0; ilabel = 0; olabel = 0; weight = one; next = 0 }

-- the link of number l
abbrev pub link : Machine → ℕ → Link
link m l = get_or m.links l no_link

-- the final weight of node v, or none where its mark is 0
abbrev pub final : Machine → ℕ → Option Tropical
final m v = get_or m.finals v none

-- ---- runs: lists of link numbers, so that links with equal labels stay apart
-- r leads from u to v: each link leaves the node the one before led to
abbrev pub IsRun : Machine → ℕ → List ℕ → ℕ → Type 0
IsRun m u [] v = u ≡ v
IsRun m u (l ∷ r) v = (l < length m.links) × ((link m l).source ≡ u) × IsRun m (link m l).next r v

-- the sum of a run's weights
unfoldable pub run_cost : Machine → List ℕ → Tropical
run_cost m [] = one
run_cost m (l ∷ r) = (link m l).weight ⊗ run_cost m r

-- ---- readings
-- the links of a reading, and the node it ends at
pub record Reading : Type 0 where
  pub run : List ℕ
  pub end : ℕ

-- the start, or 0 where there is none
abbrev pub node_or : Option ℕ → ℕ
node_or none = 0
node_or (some s) = s

-- the weight of ending at a node: infinite where its mark is 0
abbrev pub final_weight : Option Tropical → Tropical
final_weight none = inf
final_weight (some w) = w

-- the sum of a reading's weights and the final weight
abbrev pub reading_cost : Machine → Reading → Tropical
reading_cost m x = run_cost m x.run ⊗ final_weight (final m x.end)

-- A reading leads from the start to a node with mark 1, over any number of links, at a finite cost. No start, no reading.
pub record IsReading (m : Machine) (x : Reading) : Type 0 where
  pub from : ℕ
  pub weight : Tropical
  pub starts : m.start ≡ some from
  pub runs : IsRun m from x.run x.end
  pub marked : final m x.end ≡ some weight
  pub costs : ℤ
  pub finite : reading_cost m x ≡ fin costs

-- the node that a run from u leads to
abbrev pub end_from : Machine → ℕ → List ℕ → ℕ
end_from m u [] = u
end_from m u (l ∷ r) = end_from m (link m l).next r

-- a run from the start as a reading; where there is no start there is none
abbrev pub reading_of : Machine → List ℕ → Reading
reading_of m r = record { run = r; end = end_from m (node_or m.start) r }

-- those weights in their order, the final weight last
abbrev pub reading_weights : Machine → Reading → List Tropical
reading_weights m x = map (λ l. (link m l).weight) x.run ++ (final_weight (final m x.end) ∷ [])

-- ---- all of them, by recursion on the link number: where links climb, numbers rise along a run
-- whether v is the start
abbrev pub is_at : Option ℕ → ℕ → Bool
is_at none v = false
is_at (some s) v = eqb s v

-- the runs from the start to v over the first l links; the last link of a new one is link l
unfoldable pub ways : Machine → ℕ → ℕ → List (List ℕ)
ways m zero v = cond (is_at m.start v) ([] ∷ []) []
ways m (suc l) v = cond (eqb (link m l).next v) (ways m l v ++ map (λ r. r ++ (l ∷ [])) (ways m l (link m l).source)) (ways m l v)

-- the runs from the start to v
abbrev pub ways_to : Machine → ℕ → List (List ℕ)
ways_to m v = ways m (length m.links) v

-- runs to v as readings, where v has mark 1
abbrev pub ends_at : Option Tropical → ℕ → List (List ℕ) → List Reading
ends_at none v rs = []
ends_at (some w) v rs = map (λ r. record { run = r; end = v }) rs

-- those of a list that pass a test
unfoldable pub keep : {A : Type 0} → (A → Bool) → List A → List A
keep p [] = []
keep p (x ∷ l) = cond (p x) (x ∷ keep p l) (keep p l)

-- the runs from the start that end at marked nodes below n, barred ones too
unfoldable pub readings_below : Machine → ℕ → List Reading
unfolding ways
readings_below m zero = []
readings_below m (suc v) = readings_below m v ++ ends_at (final m v) v (ways_to m v)

-- all readings of the machine: of these runs, those of finite cost
unfoldable pub readings : Machine → List Reading
unfolding keep readings_below run_cost
readings m = keep (λ x. lt_t (reading_cost m x) inf) (readings_below m (length m.finals))

-- F: the nodes with mark 1, reached or not
unfoldable pub marked : List (Option Tropical) → ℕ
marked [] = 0
marked (none ∷ fs) = marked fs
marked (some w ∷ fs) = suc (marked fs)
