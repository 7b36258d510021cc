-- Cases P10 and P11. A chain of any length and weight: its one reading, its distances, what they cost, and its sheet. Assumes nothing.
use mathlib.Core.Path.{◌≡◌, refl, sym, ap, ◌∙◌, subst}
use mathlib.Core.Bool.{Bool, true, false, cond}
use mathlib.Core.Option.{none, some, some-injective}
use mathlib.Core.List.Memᴰ
use mathlib.Core.List.{List, [], ◌∷◌, ◌++◌, map, map-map}
use Prim.Native.Nat.{ℕ, zero, suc, ◌+◌, ◌*◌, ◌^◌, ◌≤◌, ◌<◌, min}
use native.Mathlib.Omega.{arith}
use lib.Dec.{eqb, leb}
use lib.IntN.{pos}
use lib.ListN.{length, replicate}
use borrow.Author.Tests.{eqb-true, eqb-false, eq-eqb, ne_eqb, leb-true, leb-false, le-leb, lt-leb}
use Rattle.tropical_weight.specs.Limits.{node_limit, weight_limit, sum_limit, list_limit}
use Rattle.tropical_weight.specs.Tropical.{Tropical, fin, inf, one, lt_t, ◌⊗◌, Within}
use Rattle.tropical_weight.specs.Grid.{of_t}
use Rattle.tropical_weight.specs.Single.{add_all}
use Rattle.tropical_weight.proofs.Sums.{longest-exact}
use Rattle.sheet.specs.declared.form.Form.{Form}
use Rattle.sheet.specs.Below.{list_below}
use Rattle.sheet.specs.Sheet.{unit_of, unit_fits}
use Rattle.sheet.specs.Machine.{Link, Machine, machine}
use Rattle.sheet.proofs.Forms.{covered, unit-word}
use Rattle.sheet.proofs.Below.{length-list_below, get_or-list_below}
use Rattle.machine.specs.Readings.{Reading, IsReading, reading_of, no_link, link, final, final_weight, run_cost, reading_cost, is_at, ways, ways_to, ends_at, keep, readings_below, readings}
use Rattle.machine.specs.Distance.{distance_of, distance, plus_all, dist}
use Rattle.machine.specs.Climbs.{Climbs}
use Rattle.machine.specs.Demand.{◌∈◌, Demand}
use Rattle.machine.proofs.Lists.{here}
use Rattle.machine.proofs.Runs.{cost-snoc}
use Rattle.machine.proofs.Readings as Readings
use Rattle.machine.proofs.Readings.{final-in}
use Rattle.machine.proofs.SheetOf.{Readable, sheet-machine, sheet-accepted, nodes-refused}
use Rattle.search.specs.ListMachine.{result_for, result_bytes}
use Rattle.search.specs.Listed.{list_of}
use Rattle.search.proofs.Lists.{list_in, Accepted, demand-result, result-form}
use Rattle.bench_values.specs.Chain.{chain_link, chain_final, chain, one_in_units, chain_sheet, P10, P11, P10And11}

-- t links, in weights of u units
abbrev weighed : Form → ℕ → ℕ → Machine
weighed form t u = chain form t (fin (pos u))

-- the numbers below n, in order: the links of a run along the chain
abbrev along : ℕ → List ℕ
along n = list_below n (λ l. l)

-- the costs of the list for n that the result for a machine holds, read by a form
abbrev costs_by : Machine → ℕ → List ℕ → Form → List Tropical
costs_by m n rest form = let r = result_for m n in map (λ run. reading_cost m (reading_of m run)) (list_of form n (length r.machine.finals) (length r.machine.links) (result_bytes r ++ rest))

abbrev costs_in : Machine → ℕ → List ℕ → List Tropical
costs_in m n rest = costs_by m n rest m.form

-- ---- its links and nodes
module _ (form : Form) (t : ℕ) (w : Tropical) where
  pub links-are : length (chain form t w).links ≡ t
  unfolding chain
  links-are = length-list_below t (chain_link w)

  pub nodes-are : length (chain form t w).finals ≡ suc t
  unfolding chain
  nodes-are = length-list_below (suc t) (chain_final t w)

  pub link-is : (l : ℕ) → l < t → link (chain form t w) l ≡ chain_link w l
  unfolding chain
  link-is l h = get_or-list_below t (chain_link w) l no_link h

  pub final-is : (v : ℕ) → v ≤ t → final (chain form t w) v ≡ chain_final t w v
  unfolding chain
  final-is v h = get_or-list_below (suc t) (chain_final t w) v none (omega arith)

  start_is : (chain form t w).start ≡ some 0
  unfolding chain
  start_is = refl

  last-is : final (chain form t w) t ≡ some w
  last-is = final-is t (omega arith) ∙ ap (λ (b : Bool). cond b (some w) none) (eq-eqb t t refl)

  -- ---- one run to each node
  -- link l adds the run to node l + 1, and no other
  next_way : (l v : ℕ) → l < t → ((v : ℕ) → ways (chain form t w) l v ≡ cond (leb v l) (along v ∷ []) [])
      → cond (eqb (suc l) v) (ways (chain form t w) l v ++ map (λ r. r ++ (l ∷ [])) (ways (chain form t w) l l)) (ways (chain form t w) l v) ≡ cond (leb v (suc l)) (along v ∷ []) []
  unfolding list_below
  next_way l v h before = go (eqb (suc l) v) refl
    where
      one : (v n : ℕ) (b : Bool) → leb v n ≡ b → cond (leb v n) (along v ∷ []) [] ≡ cond b (along v ∷ []) []
      one v n b e = ap (λ (b : Bool). cond b (along v ∷ []) []) e

      same : (suc l ≡ v → ⊥) → (b : Bool) → leb v l ≡ b → leb v l ≡ leb v (suc l)
      same n true q = q ∙ sym (le-leb v (suc l) (omega (arith, leb-true v l q)))
      same n false q = q ∙ sym (lt-leb v (suc l) (omega (arith, n, leb-false v l q)))

      go : (b : Bool) → eqb (suc l) v ≡ b → cond b (ways (chain form t w) l v ++ map (λ r. r ++ (l ∷ [])) (ways (chain form t w) l l)) (ways (chain form t w) l v) ≡ cond (leb v (suc l)) (along v ∷ []) []
      go true e =
          let is = eqb-true (suc l) v e in
          let none-far = before v ∙ one v l false (lt-leb v l (omega (arith, is))) in
          let one-near = before l ∙ one l l true (le-leb l l (omega arith)) in
          (λ i. none-far i ++ map (λ r. r ++ (l ∷ [])) (one-near i)) ∙ (λ i. along (is i) ∷ []) ∙ sym (one v (suc l) true (le-leb v (suc l) (omega (arith, is))))
      go false e = before v ∙ one v l (leb v (suc l)) (same (eqb-false (suc l) v e) (leb v l) refl)

  ways-are : (l v : ℕ) → l ≤ t → ways (chain form t w) l v ≡ cond (leb v l) (along v ∷ []) []
  unfolding ways list_below
  ways-are zero v h = (λ i. cond (is_at (start_is i) v) ([] ∷ []) []) ∙ at v
    where
      at : (v : ℕ) → cond (eqb 0 v) ([] ∷ []) [] ≡ cond (leb v 0) (along v ∷ []) []
      at zero = refl
      at (suc v) = simp (ne_eqb 0 (suc v) (λ e. omega arith), lt-leb (suc v) 0 (omega arith))
  ways-are (suc l) v h =
      (λ i. cond (eqb (link-is l h i).next v) (ways (chain form t w) l v ++ map (λ r. r ++ (l ∷ [])) (ways (chain form t w) l (link-is l h i).source)) (ways (chain form t w) l v))
      ∙ next_way l v h (λ u. ways-are l u (omega arith))

  pub way-is : (v : ℕ) → v ≤ t → ways_to (chain form t w) v ≡ along v ∷ []
  way-is v h = ap (λ (l : ℕ). ways (chain form t w) l v) links-are ∙ ways-are t v (omega arith) ∙ ap (λ (b : Bool). cond b (along v ∷ []) []) (le-leb v t h)

  -- ---- one run to a mark
  below_none : (n : ℕ) → n ≤ t → readings_below (chain form t w) n ≡ []
  unfolding readings_below
  below_none zero h = refl
  below_none (suc v) h =
      let unmarked : final (chain form t w) v ≡ none = final-is v (omega arith) ∙ ap (λ (b : Bool). cond b (some w) none) (ne_eqb v t (λ e. omega arith)) in
      λ i. below_none v (omega arith) i ++ ends_at (unmarked i) v (ways_to (chain form t w) v)

  ends-are : readings_below (chain form t w) (length (chain form t w).finals) ≡ record { run = along t; end = t } ∷ []
  unfolding readings_below
  ends-are = ap (readings_below (chain form t w)) nodes-are ∙ λ i. below_none t (omega arith) i ++ ends_at (last-is i) t (way-is t (omega arith) i)

-- ---- what they cost, in weights of u units
module _ (form : Form) (t u : ℕ) where
  run-cost : (k : ℕ) → k ≤ t → run_cost (weighed form t u) (along k) ≡ fin (pos (k * u))
  unfolding run_cost list_below
  run-cost zero h = ap (λ (x : ℕ). fin (pos x)) (let e : 0 ≡ 0 * u = omega arith in e)
  run-cost (suc k) h =
      cost-snoc (weighed form t u) (along k) k ∙ (λ i. run-cost k (omega arith) i ⊗ (link-is form t (fin (pos u)) k h i).weight)
      ∙ ap (λ (x : ℕ). fin (pos x)) (let e : k * u + u ≡ suc k * u = omega arith in e)

  -- node v is v weights away from the start
  pub distance_is : (v : ℕ) → v ≤ t → dist (weighed form t u) v ≡ fin (pos (v * u))
  unfolding dist plus_all
  distance_is v h = (λ i. plus_all (map (run_cost (weighed form t u)) (way-is form t (fin (pos u)) v h i))) ∙ λ i. plus_all (run-cost v h i ∷ [])

  -- that run costs as many weights as there are nodes
  pub cost-is : reading_cost (weighed form t u) (record { run = along t; end = t }) ≡ fin (pos (suc t * u))
  cost-is =
      (λ i. run-cost t (omega arith) i ⊗ final_weight (last-is form t (fin (pos u)) i))
      ∙ ap (λ (x : ℕ). fin (pos x)) (let e : t * u + u ≡ suc t * u = omega arith in e)

  -- it is the one reading
  pub readings-are : readings (weighed form t u) ≡ record { run = along t; end = t } ∷ []
  unfolding readings keep
  readings-are =
      ap (keep (λ x. lt_t (reading_cost (weighed form t u) x) inf)) (ends-are form t (fin (pos u)))
      ∙ ap (λ (c : Tropical). cond (lt_t c inf) (record { run = along t; end = t } ∷ []) []) cost-is

-- ---- what is asked of a machine
module _ (form : Form) (t u : ℕ) where
  links-count : length (weighed form t u).links ≡ t
  links-count = links-are form t (fin (pos u))

  nodes-count : length (weighed form t u).finals ≡ suc t
  nodes-count = nodes-are form t (fin (pos u))

  at : (l : ℕ) → l < length (weighed form t u).links → link (weighed form t u) l ≡ chain_link (fin (pos u)) l
  at l h = link-is form t (fin (pos u)) l (omega (arith, links-count))

  source-at : (l : ℕ) → l < length (weighed form t u).links → (link (weighed form t u) l).source ≡ l
  source-at l h = ap (λ (k : Link). k.source) (at l h)

  next-at : (l : ℕ) → l < length (weighed form t u).links → (link (weighed form t u) l).next ≡ suc l
  next-at l h = ap (λ (k : Link). k.next) (at l h)

  -- a final weight is the chain's
  weight_is : (v : ℕ) (w : Tropical) → final (weighed form t u) v ≡ some w → w ≡ fin (pos u)
  weight_is v w e = go (eqb v t) (sym (final-is form t (fin (pos u)) v (omega (arith, final-in (weighed form t u) v w e, nodes-count))) ∙ e)
    where
      go : (b : Bool) → cond b (some (fin (pos u))) none ≡ some w → w ≡ fin (pos u)
      go true e = sym (some-injective (fin (pos u)) w e)
      go false e = let z : ◌≡◌ {A = ℕ} 0 1 = cc in absurd (omega arith)

  labels : (l : ℕ) → l < length (weighed form t u).links → ((link (weighed form t u) l).ilabel < 2 ^ 32) × ((link (weighed form t u) l).olabel < 2 ^ 32)
  labels l h = (omega (arith, ap (λ (k : Link). k.ilabel) (at l h)), omega (arith, ap (λ (k : Link). k.olabel) (at l h)))

  pub climbs : Climbs (weighed form t u)
  climbs = record {
    rises = λ l h. omega (arith, source-at l h, next-at l h);
    inside = λ l h. omega (arith, next-at l h, links-count, nodes-count);
    sorted = λ k l h b. omega (arith, source-at k (omega arith), source-at l b);
  }

  pub accepted : unit_fits form ≡ true → suc t ≤ node_limit → Accepted (weighed form t u)
  unfolding chain
  accepted fits few = record {
    climbs = climbs;
    labels = labels;
    few-nodes = omega (arith, nodes-count);
    few-links = omega (arith, links-count);
    unit-word = unit-word form fits;
  }

  -- a list that meets demand 3 holds the one reading
  one-listed : (n : ℕ) (listed : List Reading) → 1 ≤ n → Demand (weighed form t u) n listed → listed ≡ record { run = along t; end = t } ∷ []
  one-listed n listed h d = go listed (d.size ∙ ap (λ (l : List Reading). min n (length l)) (readings-are form t u)) d.each
    where
      go : (l : List Reading) → length l ≡ min n 1 → ((x : Reading) → x ∈ l → IsReading (weighed form t u) x) → l ≡ record { run = along t; end = t } ∷ []
      go [] e f = absurd (omega arith)
      go (x ∷ []) e f =
          let listed_in_lem : x ∈ readings (weighed form t u) = (Readings.readings-are (weighed form t u) climbs x).1 (f x (here x [])) in
          ap (λ y. y ∷ []) (Memᴰ.eq_of_singleton (subst (λ (l : List Reading). x ∈ l) (readings-are form t u) listed_in_lem))
      go (x ∷ y ∷ l) e f = absurd (omega arith)

  -- for n from 1 to the limit, the list that the result holds is the one reading
  pub list-is : unit_fits form ≡ true → suc t ≤ node_limit → (n : ℕ) → 1 ≤ n → n ≤ list_limit → (rest : List ℕ)
      → map (reading_of (weighed form t u)) (list_in n (result_for (weighed form t u) n) rest) ≡ record { run = along t; end = t } ∷ []
  list-is fits few n lo hi rest = one-listed n _ lo (demand-result (weighed form t u) (accepted fits few) n lo hi rest)

  -- it costs as many weights as there are nodes
  costs-are : unit_fits form ≡ true → suc t ≤ node_limit → (n : ℕ) → 1 ≤ n → n ≤ list_limit → (rest : List ℕ) → costs_in (weighed form t u) n rest ≡ fin (pos (suc t * u)) ∷ []
  costs-are fits few n lo hi rest =
      ap (costs_by (weighed form t u) n rest) (sym (result-form (weighed form t u) n))
      ∙ sym (map-map (reading_cost (weighed form t u)) (reading_of (weighed form t u)) (list_in n (result_for (weighed form t u) n) rest))
      ∙ ap (map (reading_cost (weighed form t u))) (list-is fits few n lo hi rest) ∙ ap (λ (c : Tropical). c ∷ []) (cost-is form t u)

  -- ---- its sheet
  readable : unit_fits form ≡ true → suc t < 2 ^ 28 → u ≤ weight_limit → Readable (weighed form t u)
  unfolding chain
  readable fits few small = record {
    source_in = λ l h. omega (arith, source-at l h, links-count, nodes-count);
    next-in = climbs.inside;
    sorted = climbs.sorted;
    labels = labels;
    small = record {
      on_link = λ l h. subst (Within weight_limit) (sym (ap (λ (k : Link). k.weight) (at l h))) small;
      on_final = λ v w e. subst (Within weight_limit) (sym (weight_is v w e)) small;
    };
    starts = λ v e. omega (arith, some-injective 0 v (sym (start_is form t (fin (pos u))) ∙ e), nodes-count);
    few-nodes = omega (arith, nodes-count);
    few-links = omega (arith, links-count);
    unit_fits_lem = fits;
  }

-- ---- the cases, in a sheet of each form that test 14 passes, with the largest weight
module _ (form : Form) (fits : unit_fits form ≡ true) (weight : ℕ) (most : weight * one_in_units form ≡ weight_limit) where
  abbrev u : ℕ
  u = weight * one_in_units form

  abbrev j : ℕ
  j = unit_of form

  longest : Readable (weighed form 2047 (weight * one_in_units form))
  longest = readable form 2047 u fits (omega arith) (omega (arith, most))

  pub P10-holds : P10 form weight
  P10-holds = record {
    passes = sheet-accepted (weighed form 2047 u) longest (climbs form 2047 u) (omega (arith, nodes-are form 2047 (fin (pos u)))) (omega (arith, links-are form 2047 (fin (pos u))));
    refused = nodes-refused (weighed form 2048 u) (readable form 2048 u fits (omega arith) (omega (arith, most))) (omega (arith, nodes-are form 2048 (fin (pos u))));
  }

  pub P11-holds : (cost : ℕ) → cost * one_in_units form ≡ sum_limit → P11 form weight cost
  P11-holds cost all = record {
    costs = λ n lo hi rest. ap (λ (m : Machine). costs_in m n rest) same ∙ costs-are form 2047 u fits (omega arith) n lo hi rest ∙ ap (λ (k : ℕ). fin (pos k) ∷ []) sum;
    distances = λ v h. ap (λ (m : Machine). distance m v) same ∙ ap distance_of (distance_is form 2047 u v (omega arith));
    exact = ap (λ (k : ℕ). add_all (of_t j one) (map (of_t j) (replicate 2048 (fin (pos k))))) most ∙ longest-exact 2048 8192 refl j (covered form) ∙ ap (λ (k : ℕ). of_t j (fin (pos k))) (sym all);
  }
    where
      same : machine (chain_sheet form 2048 weight) ≡ weighed form 2047 u
      same = sheet-machine (weighed form 2047 u) longest

      sum : suc 2047 * u ≡ cost * one_in_units form
      sum = omega (arith, most, all)

pub P10-and-11 : P10And11
P10-and-11 = record {
  p10 = P10-holds Form.Short refl 128 refl;
  p11 = P11-holds Form.Short refl 128 refl 262144 refl;
  p10-fine = P10-holds (Form.Long 256) refl 32 refl;
  p11-fine = P11-holds (Form.Long 256) refl 32 refl 65536 refl;
}
