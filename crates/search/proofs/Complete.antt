-- Demand 3 of the search: the readings that it lists are the n cheapest, or all; it stops by itself, and takes at most 1 + F + n (T + 1) entries. Assumes nothing.
use mathlib.Core.Path.{◌≡◌, refl, sym, ap, ◌∙◌, subst}
use mathlib.Core.Logic.{◌⊎◌, inl, inr}
use mathlib.Core.Bool.{true}
use mathlib.Core.Option.{none, some}
use mathlib.Core.List.Memᴰ
use mathlib.Core.List.{List, [], ◌∷◌, map, map-map}
use Prim.Native.Nat.{ℕ, suc, ◌≤◌, ◌<◌, min}
use native.Mathlib.Omega.{arith}
use lib.ListN.{get_or, length, take, length-map}
use Rattle.tropical_weight.specs.Tropical.{◌≼◌}
use Rattle.tropical_weight.proofs.Semiring.{is_finite, ≼-eq, ≼_trans}
use Rattle.sheet.specs.Machine.{Machine}
use Rattle.sheet.proofs.Below.{split_at}
use Rattle.machine.specs.Readings.{Reading, IsReading, reading_of, reading_cost, readings}
use Rattle.machine.specs.Climbs.{Climbs}
use Rattle.machine.specs.Demand.{◌∈◌, NoDup, Demand}
use Rattle.machine.proofs.Lists.{mem-eq, map-mem, mem-map, map_same, nodup-end, nodup-map-in, nodup-length, keep, keep-nodup}
use Rattle.machine.proofs.Sort.{Ordered, ordered-keep, ordered-rises}
use Rattle.machine.proofs.Readings.{readings-are, readings-once}
use Rattle.machine.proofs.Demand.{sorted, demand-costs}
use Rattle.search.specs.Reversed.{Reversed, reversed}
use Rattle.search.specs.Search.{first, cost_of, Search, stopped, after, begun, most_taken, allowed, search, costs, runs, run_of}
use Rattle.search.proofs.Trails.{Trail, site, cost, inputs, rank_of, Made, finished-rank}
use Rattle.search.proofs.Backwards.{consistent, leads-in}
use Rattle.search.proofs.Unreversed.{unmoved, trail-cost, trail-reads, reading-made, inputs-once}
use Rattle.search.proofs.Fans.{put-bound}
use Rattle.search.proofs.BestFirst.{Fate, expanded, listed, Taken, took, trails_of, is_listed, listed_of, State, put_in, took-listed, made, all_settled}
use Rattle.search.proofs.Mirror.{at, entry-cost, run_is}
use Rattle.search.proofs.Steps.{Holds, each, holds-begun, site-in, nodes_of, node-mem, trails_at, trails-at, trails-once, trails-count}
use Rattle.search.proofs.Ran.{stopped-is, stopped-empty, Ran, ran}
use Rattle.search.proofs.Counts.{occurs}

module _ (m : Machine) (c : Climbs m) (n : ℕ) where
  abbrev r : Reversed
  r = reversed m

  abbrev size : ℕ
  size = suc (length m.finals)

  -- no trail leaves the nodes
  pub node_in : (t : Trail) → Made r t → (v : ℕ) → site t ≡ some v → v < size
  node_in t h v e = site-in r n size (consistent m c) (omega arith) (leads-in m c) t h v e

  -- after any number of removals
  pub ran-begun : (k : ℕ) → Ran r n size (consistent m c) (omega arith) (leads-in m c) k (begun size) (after r k n (begun size))
  ran-begun k = ran r n size (consistent m c) (omega arith) (leads-in m c) k (begun size) (holds-begun r n size) (omega arith)

  -- ---- at any time
  module _ (z : Search) (i : Holds r n size z) where
    abbrev pub state_of : State
    state_of = record { waiting = map (at i.trails) z.heap; taken = i.done }

    once : NoDup (trails_of i.done)
    once = nodup-end state_of.waiting (trails_of i.done) i.sound.once

    -- what was put in was made
    pub put-made : (t : Trail) → t ∈ put_in state_of → Made r t
    put-made t h = made r n (consistent m c) state_of i.sound t h

    taken_made : (t : Trail) (f : Fate) → took t f ∈ i.done → Made r t
    taken_made t f h = put-made t (Memᴰ.append_right state_of.waiting (map-mem (λ (d : Taken). d.trail) h))

    -- node 0 is expanded at most once, since only the first trail stands there
    zero-once : occurs 0 (nodes_of i.done) ≤ 1
    zero-once =
        omega (
          arith,
          trails-count 0 i.done,
          nodup-length (trails_at 0 i.done) ([] ∷ []) (trails-once 0 i.done once)
              (λ t h. let x = trails-at 0 i.done t h in Memᴰ.head (unmoved m t (taken_made t expanded x.0) x.1)),
        )

    pub trails-few : length i.trails ≤ most_taken m n
    trails-few =
        omega (
          arith,
          i.grew,
          put-bound m n (nodes_of i.done)
              (λ v h. let x = node-mem v i.done h in node_in x.0 (taken_made x.0 expanded x.1) v x.2)
              zero-once (λ v. omega (arith, i.visited v)),
        )

  -- ---- when the search ends
  abbrev s : Search
  s = search m n

  run : Ran r n size (consistent m c) (omega arith) (leads-in m c) (allowed m n) (begun size) (search m n)
  unfolding search
  run = ran-begun (allowed m n)

  pub holds : Holds r n size (search m n)
  holds = run.holds

  abbrev ts : List Trail
  ts = holds.trails

  abbrev done : List Taken
  done = holds.done

  abbrev state : State
  state = state_of s holds

  pub put-in : length ts ≤ most_taken m n
  put-in = trails-few s holds

  -- entries taken
  pub taken-bound : s.taken ≤ most_taken m n
  taken-bound = omega (arith, each r n size s holds, put-in)

  -- and so the removals allowed are enough
  pub stops : stopped r n s ≡ true
  stops = elim run.ended [ inl e ↦ e | inr e ↦ stopped-empty r n s (omega (arith, e, each r n size s holds, put-in)) ]

  pub few-listed : length s.listed ≤ n
  few-listed = run.few

  -- ---- the readings
  -- the trails that were listed
  abbrev ls : List Trail
  ls = listed_of done

  abbrev reads : Trail → Reading
  reads t = reading_of m (inputs t)

  as-listed : length s.listed ≡ length ls
  as-listed = sym (length-map s.listed (at ts)) ∙ ap length holds.lists

  over : (state.waiting ≡ []) ⊎ (n ≤ length ls)
  over = elim (stopped-is r n s stops) [
    | inl e ↦ inl (empty s.heap e)
    | inr b ↦ inr (omega (arith, b, as-listed))
  ]
    where
      empty : (h : List ℕ) → length h ≡ 0 → map (at ts) h ≡ []
      empty [] e = refl
      empty (x ∷ h) e = absurd (omega (arith, e))

  few : length ls ≤ n
  few = omega (arith, run.few, as-listed)

  ended : (t : Trail) → t ∈ ls → Made r t × (site t ≡ none)
  ended t h = let x = took-listed done h in (taken_made s holds t listed x, (holds.sound.fits t listed x).0)

  ended-finite : (t : Trail) → t ∈ ls → is_finite (cost t) ≡ true
  ended-finite t h = let f = holds.sound.fits t listed (took-listed done h) in ap is_finite (sym (finished-rank r t f.0)) ∙ f.1

  listed-ended : (i : ℕ) → i ∈ s.listed → Made r (at ts i) × (site (at ts i) ≡ none)
  listed-ended i h = ended (at ts i) (subst (λ l. at ts i ∈ l) holds.lists (map-mem (at ts) h))

  cost-is : (t : Trail) → Made r t → site t ≡ none → reading_cost m (reads t) ≡ rank_of r t
  cost-is t h e = trail-cost m t h e ∙ sym (finished-rank r t e)

  same_runs : runs s ≡ map inputs ls
  unfolding runs
  same_runs =
      map_same (λ i. run_of s.entries (length s.entries) i) (λ i. inputs (at ts i)) s.listed
      (λ i h. run_is r s ts holds.mirrors (length s.entries) i (omega (arith, holds.mirrors.in_list i h, holds.mirrors.size)))
      ∙ sym (map-map inputs (at ts) s.listed) ∙ ap (map inputs) holds.lists

  -- what the search lists, as readings
  abbrev pub found : List Reading
  found = map (reading_of m) (runs s)

  same-readings : map (reading_of m) (runs s) ≡ map reads ls
  same-readings = ap (map (reading_of m)) same_runs ∙ map-map (reading_of m) inputs ls

  -- every reading is listed; or n are, none of which costs more
  settles : (y : Reading) → IsReading m y → (y ∈ map reads ls) ⊎ ((n ≤ length ls) × ((x : Reading) → x ∈ map reads ls → reading_cost m x ≼ reading_cost m y))
  settles y i = go (reading-made m y i)
    where
      go : (t : Trail) × Made r t × (site t ≡ none) × (reads t ≡ y) → (y ∈ map reads ls) ⊎ ((n ≤ length ls) × ((x : Reading) → x ∈ map reads ls → reading_cost m x ≼ reading_cost m y))
      go (t, h, e, q) = elim (all_settled r n (consistent m c) state holds.sound over few t h e (ap is_finite (sym (cost-is t h e) ∙ ap (reading_cost m) q ∙ i.finite))) [
        | inl k ↦ inl (mem-eq q (map-mem reads k))
        | inr k ↦ inr (
          k.0,
          λ x p.
              let y = mem-map reads ls p in
              let z = ended y.0 y.1 in
              ≼_trans (≼-eq (ap (reading_cost m) y.2 ∙ cost-is y.0 z.0 z.1)) (≼_trans (k.1 y.0 y.1) (≼-eq (sym (cost-is t h e) ∙ ap (reading_cost m) q))),
        )
      ]

  each-reads : (x : Reading) → x ∈ map reads ls → IsReading m x
  each-reads x h = let y = mem-map reads ls h in let z = ended y.0 y.1 in subst (IsReading m) (sym y.2) (trail-reads m y.0 z.0 z.1 (ended-finite y.0 y.1))

  apart : NoDup (map reads ls)
  apart =
      nodup-map-in reads ls (λ a b p q e. let y = ended a p in let z = ended b q in inputs-once m a b y.0 z.0 y.1 z.1 (ap (λ (x : Reading). x.run) e))
      (keep-nodup (λ (d : Taken). d.trail) is_listed done (once s holds))

  in_order : Ordered (map (reading_cost m) (map reads ls))
  in_order =
      subst Ordered
      (sym (map-map (reading_cost m) reads ls ∙ map_same (λ t. reading_cost m (reads t)) (rank_of r) ls (λ t h. let y = ended t h in cost-is t y.0 y.1) ∙ map-map (rank_of r) (λ (d : Taken). d.trail) (keep is_listed done)))
      (ordered-keep (λ (d : Taken). rank_of r d.trail) is_listed done (subst Ordered (map-map (rank_of r) (λ (d : Taken). d.trail) done) holds.sound.order))

  as_many : length (map reads ls) ≡ min n (length (readings m))
  as_many = go (split_at (length ls) n)
    where
      length-is : length (map reads ls) ≡ length ls
      length-is = length-map ls reads

      no_more : length (map reads ls) ≤ length (readings m)
      no_more = nodup-length (map reads ls) (readings m) apart (λ x h. (readings-are m c x).1 (each-reads x h))

      go : (length ls < n) ⊎ (n ≤ length ls) → length (map reads ls) ≡ min n (length (readings m))
      go (inr b) = omega (arith, length-is, no_more, few)
      go (inl b) =
          let all : length (readings m) ≤ length (map reads ls) = nodup-length (readings m) (map reads ls) (readings-once m c) (λ y h. elim (settles y ((readings-are m c y).0 h)) [ inl q ↦ q | inr q ↦ absurd (omega (arith, q.0)) ]) in
          omega (arith, length-is, no_more)

  -- demand 3, for every n
  pub demand-search : Demand m n found
  demand-search = subst (Demand m n) (sym same-readings) (record {
    size = as_many;
    each = each-reads;
    apart = apart;
    order = ordered-rises (map (reading_cost m) (map reads ls)) in_order;
    left = λ x y h i k. elim (settles y i) [ inl q ↦ absurd (k q) | inr q ↦ q.1 x h ];
  })

  -- the costs that the search has, by its entries, are those of the readings, and so the n least in order
  pub search-costs : costs s ≡ take n (sorted m c)
  search-costs =
      map_same (λ i. cost_of (get_or s.entries i first).entry) (λ i. reading_cost m (reads (at ts i))) s.listed one-cost
      ∙ sym (map-map (λ t. reading_cost m (reads t)) (at ts) s.listed) ∙ ap (map (λ t. reading_cost m (reads t))) holds.lists
      ∙ sym (map-map (reading_cost m) reads ls) ∙ ap (map (reading_cost m)) (sym same-readings) ∙ demand-costs m c n found demand-search
    where
      one-cost : (i : ℕ) → i ∈ s.listed → cost_of (get_or s.entries i first).entry ≡ reading_cost m (reads (at ts i))
      one-cost i h =
          let y = listed-ended i h in
          ap cost_of (holds.mirrors.told i).entry ∙ entry-cost (at ts i) ∙ sym (trail-cost m (at ts i) y.0 y.1)
