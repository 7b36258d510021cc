-- Readings of the product correspond one to one to pairs of readings with the same labels, and cost their sum. Assumes nothing.
use mathlib.Core.Path.{◌≡◌, refl, sym, ap, ap₂, ◌∙◌, subst}
use mathlib.Core.Option.{Option, none, some}
use mathlib.Core.List.Memᴰ
use mathlib.Core.List.{List, [], ◌∷◌}
use Prim.Native.Nat.{ℕ, zero, suc, ◌/◌, ◌%◌, ◌<◌}
use native.Mathlib.Omega.{arith}
use lib.ListN.{length, get_or}
use lib.IntN.{ℤ, ◌+ℤ◌}
use Rattle.tropical_weight.specs.Tropical.{Tropical, fin, inf, one, ◌⊗◌}
use Rattle.tropical_weight.proofs.Semiring.{⊗-assoc, ⊗-comm, one-⊗}
use Rattle.sheet.specs.Machine.{Link, Machine}
use Rattle.machine.specs.Readings.{link, final, final_weight, IsRun, run_cost, Reading, IsReading, reading_cost}
use Rattle.machine.specs.Climbs.{Climbs}
use Rattle.machine.specs.Demand.{◌∈◌, NoDup}
use Rattle.machine.proofs.Lists.{here, mem-eq, get_or-mem, mem-get_or}
use Rattle.machine.proofs.Runs.{run_in, run_length}
use Rattle.machine.proofs.Readings.{final-in, same-reading}
use Rattle.product.specs.Product.{nodes, node_for, pairs, link_for, final_for, start_for, product}
use Rattle.product.specs.Halves.{labels, no_pair, pair_at, firsts, seconds, first_of, second_of, Halves, Whole, OneToOne}
use Rattle.product.proofs.Nodes.{node-first, node-second, node-apart, node-lt}
use Rattle.product.proofs.Pairs.{meet-pairs, pairs-once, second-inside}
use Rattle.product.proofs.Fields.{product-links, product-link, product-nodes, product-final, product-start, meets_at}

-- ---- places of a list without repeats
nodup-place : {A : Type 0} (l : List A) (d : A) → NoDup l → (i j : ℕ) → i < length l → j < length l → get_or l i d ≡ get_or l j d → i ≡ j
nodup-place [] d n i j h o e = absurd (omega arith)
nodup-place (x ∷ l) d n zero zero h o e = refl
nodup-place (x ∷ l) d n zero (suc j) h o e = absurd (n.0 (mem-eq (sym e) (get_or-mem l j d (omega arith))))
nodup-place (x ∷ l) d n (suc i) zero h o e = absurd (n.0 (mem-eq e (get_or-mem l i d (omega arith))))
nodup-place (x ∷ l) d n (suc i) (suc j) h o e = ap suc (nodup-place l d n.1 i j (omega arith) (omega arith) e)

-- four summed in another order
swap-sums : (a b c d : Tropical) → (a ⊗ b) ⊗ (c ⊗ d) ≡ (a ⊗ c) ⊗ (b ⊗ d)
swap-sums a b c d = ⊗-assoc a b (c ⊗ d) ∙ ap (λ x. a ⊗ x) (sym (⊗-assoc b c d) ∙ ap (λ x. x ⊗ d) (⊗-comm b c) ∙ ⊗-assoc c b d) ∙ sym (⊗-assoc a c (b ⊗ d))

-- a finite sum has finite terms
factors : (a b : Tropical) (k : ℤ) → a ⊗ b ≡ fin k → (i j : ℤ) × (a ≡ fin i) × (b ≡ fin j)
factors (fin i) (fin j) k e = (i, j, refl, refl)
factors (fin i) inf k e = let z : ◌≡◌ {A = ℕ} 0 1 = cc in absurd (omega arith)
factors inf b k e = let z : ◌≡◌ {A = ℕ} 0 1 = cc in absurd (omega arith)

module _ (a b : Machine) where
  both-start : (s t : Option ℕ) (u : ℕ) → start_for a b s t ≡ some u → (i j : ℕ) × (s ≡ some i) × (t ≡ some j) × (node_for a b i j ≡ u)
  both-start (some i) (some j) u e = (i, j, refl, refl, cc)
  both-start (some i) none u e = let z : ◌≡◌ {A = ℕ} 0 1 = cc in absurd (omega arith)
  both-start none t u e = let z : ◌≡◌ {A = ℕ} 0 1 = cc in absurd (omega arith)

  both-final : (f g : Option Tropical) (w : Tropical) → final_for f g ≡ some w → (x y : Tropical) × (f ≡ some x) × (g ≡ some y) × (x ⊗ y ≡ w)
  both-final (some x) (some y) w e = (x, y, refl, refl, cc)
  both-final (some x) none w e = let z : ◌≡◌ {A = ℕ} 0 1 = cc in absurd (omega arith)
  both-final none g w e = let z : ◌≡◌ {A = ℕ} 0 1 = cc in absurd (omega arith)

  module _ (c : Climbs a) (d : Climbs b) where
    -- ---- a run of the product is a run of each, with the same labels, and costs their sum
    pub record Splits (i j : ℕ) (r : List ℕ) (v : ℕ) : Type 0 where
      pub first_run : IsRun a i (firsts a b r) (v / nodes b)
      pub second_run : IsRun b j (seconds a b r) (v % nodes b)
      pub first-labels : labels a (firsts a b r) ≡ labels (product a b) r
      pub second-labels : labels b (seconds a b r) ≡ labels (product a b) r
      pub sum : run_cost (product a b) r ≡ run_cost a (firsts a b r) ⊗ run_cost b (seconds a b r)

    pub splits : (r : List ℕ) (i j v : ℕ) → j < nodes b → IsRun (product a b) (node_for a b i j) r v → Splits i j r v
    unfolding run_cost
    splits [] i j v h e = record {
      first_run = sym (node-first (nodes b) i j h) ∙ ap (λ (x : ℕ). x / nodes b) e;
      second_run = sym (node-second (nodes b) i j h) ∙ ap (λ (x : ℕ). x % nodes b) e;
      first-labels = refl;
      second-labels = refl;
      sum = sym (one-⊗ one);
    }
    splits (q ∷ r) i j v h e =
        let o : q < length (pairs a b) = omega (arith, e.0, product-links a b) in
        let m = meets_at a b c d q o in
        let l = link a (pair_at a b q).first in
        let k = link b (pair_at a b q).second in
        let x = product-link a b q o in
        let n = node-apart (nodes b) l.source k.source i j (second-inside a b c d (pair_at a b q).second m.in-second).0 h (ap (λ (z : Link). z.source) (sym x) ∙ e.1) in
        let s = splits r l.next k.next v (second-inside a b c d (pair_at a b q).second m.in-second).1 (subst (λ z. IsRun (product a b) z.next r v) x e.2) in
        record {
          first_run = (m.in-first, n.0, s.first_run);
          second_run = (m.in-second, n.1, s.second_run);
          first-labels = λ z. (sym x z).ilabel ∷ s.first-labels z;
          second-labels = λ z. (sym m.same-label ∙ (λ y. (sym x y).ilabel)) z ∷ s.second-labels z;
          sum = (λ z. (x z).weight ⊗ s.sum z) ∙ swap-sums l.weight k.weight (run_cost a (firsts a b r)) (run_cost b (seconds a b r));
        }

    -- ---- a run of each with the same labels make one of the product
    cons-eq : {x y : ℕ} {l k : List ℕ} → x ∷ l ≡ y ∷ k → (x ≡ y) × (l ≡ k)
    cons-eq {x} {y} {l} {k} e = (cc, cc)

    pub meeting : (p q : List ℕ) (i j v w : ℕ) → IsRun a i p v → IsRun b j q w → labels a p ≡ labels b q → (r : List ℕ) × IsRun (product a b) (node_for a b i j) r (node_for a b v w) × (firsts a b r ≡ p) × (seconds a b r ≡ q)
    meeting [] [] i j v w h k e = ([], (λ z. node_for a b (h z) (k z)), refl, refl)
    meeting [] (x ∷ q) i j v w h k e = let z : ◌≡◌ {A = ℕ} 0 1 = cc in absurd (omega arith)
    meeting (x ∷ p) [] i j v w h k e = let z : ◌≡◌ {A = ℕ} 0 1 = cc in absurd (omega arith)
    meeting (x ∷ p) (y ∷ q) i j v w h k e =
        let f = cons-eq e in
        let g = mem-get_or no_pair (meet-pairs a b c d (record { first = x; second = y }) (record { in-first = h.0; in-second = k.0; same-label = f.0 })) in
        let u = product-link a b g.0 g.1 ∙ ap (link_for a b) g.2 in
        let s = meeting p q (link a x).next (link b y).next v w h.2 k.2 f.1 in (
          g.0 ∷ s.0,
          (omega (arith, g.1, product-links a b), ap (λ (z : Link). z.source) u ∙ (λ z. node_for a b (h.1 z) (k.1 z)), subst (λ z. IsRun (product a b) z.next s.0 (node_for a b v w)) (sym u) s.1),
          (λ z. (g.2 z).first ∷ s.2 z),
          (λ z. (g.2 z).second ∷ s.3 z),
        )

    -- ---- readings
    -- where the product ends, both end
    ends-both : (v : ℕ) (w : Tropical) → final (product a b) v ≡ some w → (x y : Tropical) × (final a (v / nodes b) ≡ some x) × (final b (v % nodes b) ≡ some y) × (x ⊗ y ≡ w)
    ends-both v w e = both-final (final a (v / nodes b)) (final b (v % nodes b)) w (sym (product-final a b v (omega (arith, final-in (product a b) v w e, product-nodes a b))) ∙ e)

    module _ (inside : (s : ℕ) → b.start ≡ some s → s < nodes b) where
      -- each reading of the product stands for a pair of readings with the same labels, and costs their sum
      halves : (x : Reading) → IsReading (product a b) x → Halves a b (product a b) x
      halves x r =
          let s = both-start a.start b.start r.from (sym (product-start a b) ∙ r.starts) in
          let p = splits x.run s.0 s.1 x.end (inside s.1 s.3) (subst (λ u. IsRun (product a b) u x.run x.end) (sym s.4) r.runs) in
          let f = ends-both x.end r.weight r.marked in
          let w = r.marked ∙ ap some (sym f.4) in
          let sum : reading_cost (product a b) x ≡ reading_cost a (first_of a b x) ⊗ reading_cost b (second_of a b x) = (λ z. p.sum z ⊗ final_weight (w z))
          ∙ swap-sums (run_cost a (firsts a b x.run)) (run_cost b (seconds a b x.run)) f.0 f.1
          ∙ (λ z. (run_cost a (firsts a b x.run) ⊗ final_weight (sym f.2 z)) ⊗ (run_cost b (seconds a b x.run) ⊗ final_weight (sym f.3 z))) in
          let g = factors (reading_cost a (first_of a b x)) (reading_cost b (second_of a b x)) r.costs (sym sum ∙ r.finite) in
          record {
            first_reads = record { from = s.0; weight = f.0; starts = s.2; runs = p.first_run; marked = f.2; costs = g.0; finite = g.2 };
            second_reads = record { from = s.1; weight = f.1; starts = s.3; runs = p.second_run; marked = f.3; costs = g.1; finite = g.3 };
            first-labels = p.first-labels;
            second-labels = p.second-labels;
            sum = sum;
          }

      -- each such pair is that of a reading of the product
      meets : (y z : Reading) → IsReading a y → IsReading b z → labels a y.run ≡ labels b z.run → Whole a b (product a b) y z
      meets y z i j e =
          let r = meeting y.run z.run i.from j.from y.end z.end i.runs j.runs e in
          let v = node_for a b y.end z.end in
          let low : z.end < nodes b = final-in b z.end j.weight j.marked in
          let p : v / nodes b ≡ y.end = node-first (nodes b) y.end z.end low in
          let q : v % nodes b ≡ z.end = node-second (nodes b) y.end z.end low in
          let mark : final (product a b) v ≡ some (i.weight ⊗ j.weight) =
          product-final a b v (node-lt (nodes a) (nodes b) y.end z.end (final-in a y.end i.weight i.marked) low)
          ∙ (λ n. final_for ((ap (final a) p ∙ i.marked) n) ((ap (final b) q ∙ j.marked) n)) in
          let s = splits r.0 i.from j.from v (omega (arith, run_length b d z.run j.from z.end j.runs)) r.1 in
          let one-sum : run_cost (product a b) r.0 ≡ run_cost a y.run ⊗ run_cost b z.run = s.sum ∙ (λ n. run_cost a (r.2 n) ⊗ run_cost b (r.3 n)) in
          record {
            whole = record { run = r.0; end = v };
            reads = record {
              from = node_for a b i.from j.from;
              weight = i.weight ⊗ j.weight;
              starts = product-start a b ∙ (λ n. start_for a b (i.starts n) (j.starts n));
              runs = r.1;
              marked = mark;
              costs = i.costs +ℤ j.costs;
              finite = (λ n. one-sum n ⊗ final_weight (mark n)) ∙ swap-sums (run_cost a y.run) (run_cost b z.run) i.weight j.weight
                  ∙ (λ n. (run_cost a y.run ⊗ final_weight (sym i.marked n)) ⊗ (run_cost b z.run ⊗ final_weight (sym j.marked n))) ∙ ap₂ ◌⊗◌ i.finite j.finite;
            };
            first-is = λ n. record { run = r.2 n; end = p n };
            second_is = λ n. record { run = r.3 n; end = q n };
          }

      -- and of one alone
      runs-apart : (r s : List ℕ) → ((q : ℕ) → q ∈ r → q < length (pairs a b)) → ((q : ℕ) → q ∈ s → q < length (pairs a b)) → firsts a b r ≡ firsts a b s → seconds a b r ≡ seconds a b s → r ≡ s
      runs-apart [] [] f g e h = refl
      runs-apart [] (y ∷ s) f g e h = let z : ◌≡◌ {A = ℕ} 0 1 = cc in absurd (omega arith)
      runs-apart (x ∷ r) [] f g e h = let z : ◌≡◌ {A = ℕ} 0 1 = cc in absurd (omega arith)
      runs-apart (x ∷ r) (y ∷ s) f g e h =
          let p = cons-eq e in
          let q = cons-eq h in
          let n = nodup-place (pairs a b) no_pair (pairs-once a b) x y (f x (here x r)) (g y (here y s)) (λ z. record { first = p.0 z; second = q.0 z }) in
          let m = runs-apart r s (λ z u. f z (Memᴰ.tail u)) (λ z u. g z (Memᴰ.tail u)) p.1 q.1 in
          λ z. n z ∷ m z

      apart : (x y : Reading) → IsReading (product a b) x → IsReading (product a b) y → first_of a b x ≡ first_of a b y → second_of a b x ≡ second_of a b y → x ≡ y
      apart x y i j e f = same-reading (product a b) x y i j (runs-apart x.run y.run (low x i) (low y j) (ap (λ (z : Reading). z.run) e) (ap (λ (z : Reading). z.run) f))
        where
          low : (x : Reading) → IsReading (product a b) x → (q : ℕ) → q ∈ x.run → q < length (pairs a b)
          low x i q h = omega (arith, run_in (product a b) x.run i.from x.end i.runs q h, product-links a b)

      pub one-to-one : OneToOne a b (product a b)
      one-to-one = record { halves = halves; meets = meets; apart = apart }
