-- Readings of a machine that narrows to node c are the pairs of readings of its parts, and cost their sum. Assumes nothing.
use mathlib.Core.Path.{◌≡◌, refl, sym, ap, ap₂, ◌∙◌, subst}
use mathlib.Core.Logic.{inl, inr}
use mathlib.Core.Option.{some-injective, none-ne-some}
use mathlib.Core.List.{List, [], ◌∷◌, ◌++◌, map, map-map, map-id, append-nil, append_cancel_left}
use Prim.Native.Nat.{ℕ, ◌+◌, ◌-◌, ◌≤◌, ◌<◌}
use native.Mathlib.Decide.{ℕ_discrete}
use native.Mathlib.Omega.{arith}
use lib.Dec.{ltb}
use lib.ListN.{length, take}
use lib.IntN.{ℤ, ◌+ℤ◌}
use borrow.Author.Tests.{lt-ltb, le-ltb}
use Rattle.tropical_weight.specs.Tropical.{fin, one, ◌⊗◌}
use Rattle.tropical_weight.proofs.Semiring.{⊗-assoc, ⊗-comm, ⊗-one}
use Rattle.sheet.specs.Machine.{Link, Machine}
use Rattle.sheet.proofs.Below.{split_at}
use Rattle.machine.specs.Readings.{link, final, final_weight, IsRun, run_cost, Reading, IsReading, reading_cost, keep, readings}
use Rattle.machine.specs.Climbs.{Climbs}
use Rattle.machine.specs.Demand.{◌∈◌, Demand}
use Rattle.machine.proofs.Lists.{Perm, same-members, perm-map, perm-eq, thru, mem-eq, mem-map, map_same, keep_append, keep-all, keep-none}
use Rattle.machine.proofs.Sort.{sort-perm}
use Rattle.machine.proofs.Runs.{run_in, run-append, cost-append}
use Rattle.machine.proofs.Readings.{Way, way, readings-are, readings-once}
use Rattle.machine.proofs.Parents.{term}
use Rattle.machine.proofs.Demand.{demand-costs}
use Rattle.narrowing.specs.Sums.{sums, least_sums}
use Rattle.narrowing.specs.Parts.{preheat, bake}
use Rattle.narrowing.specs.Joins.{joined, Joins}
use Rattle.narrowing.proofs.LeastSums.{least-sums}
use Rattle.narrowing.proofs.Across.{across, mem-across, across-mem, across-nodup, across-sums}
use Rattle.narrowing.proofs.Seam.{Narrows, seam, below-seam, above-seam, from-below, first-links, in-first, first-link, first-start, first-nodes, first-final, first-marked, second-links, in-second, second-link, second-start, second-nodes, second-final}

-- a way of finite cost is a reading
reads : (m : Machine) {x : Reading} → Way m x → (k : ℤ) → reading_cost m x ≡ fin k → IsReading m x
reads m w k e = record { from = w.from; weight = w.weight; starts = w.starts; runs = w.runs; marked = w.marked; costs = k; finite = e }

-- ---- numbers below s, and then numbers from s on: the list tells which are which
module _ (s : ℕ) where
  abbrev from_s : List ℕ → List ℕ
  from_s = map (λ l. s + l)

  below-s : (p q : List ℕ) → ((l : ℕ) → l ∈ p → l < s) → keep (λ l. ltb l s) (p ++ from_s q) ≡ p
  below-s p q f =
      keep_append (λ l. ltb l s) p (from_s q)
      ∙ ap₂ ◌++◌ (keep-all (λ l. ltb l s) p (λ l h. lt-ltb l s (f l h))) (keep-none (λ l. ltb l s) (from_s q) (λ l h. let r = mem-map (λ l. s + l) q h in le-ltb l s (omega (arith, r.2))))
      ∙ append-nil p

  numbers-back : (q : List ℕ) → map (λ l. l - s) (from_s q) ≡ q
  numbers-back q = map-map (λ l. l - s) (λ l. s + l) q ∙ map_same (λ l. s + l - s) (λ l. l) q (λ l h. omega arith) ∙ map-id q

  lists-apart : (p r q o : List ℕ) → ((l : ℕ) → l ∈ p → l < s) → ((l : ℕ) → l ∈ r → l < s) → p ++ from_s q ≡ r ++ from_s o → (p ≡ r) × (q ≡ o)
  lists-apart p r q o f g e =
      let a : p ≡ r = sym (below-s p q f) ∙ ap (keep (λ l. ltb l s)) e ∙ below-s r o g in
      let b = append_cancel_left p (from_s q) (from_s o) (e ∙ ap (λ x. x ++ from_s o) (sym a)) in
      (a, sym (numbers-back q) ∙ ap (map (λ l. l - s)) b ∙ numbers-back o)

-- a reading of each part as one of the whole
abbrev pub join : ℕ → Machine → Reading → Reading → Reading
join c m x y = record { run = x.run ++ map (λ l. seam c m + l) y.run; end = c + y.end }

module _ (c : ℕ) (m : Machine) (k : Climbs m) (t : Narrows c m) where
  abbrev first : Machine
  first = preheat c m

  abbrev second : Machine
  second = bake c m

  -- a link of the second part, by its number in the whole
  abbrev up : ℕ → ℕ
  up l = seam c m + l

  -- ---- the ends of the parts' links, as the machine has them
  first-source : (l : ℕ) → l < length first.links → (link first l).source ≡ (link m l).source
  first-source l h = ap (λ (x : Link). x.source) (first-link c m k l (in-first c m l h).0)

  first-next : (l : ℕ) → l < length first.links → (link first l).next ≡ (link m l).next
  first-next l h = ap (λ (x : Link). x.next) (first-link c m k l (in-first c m l h).0)

  second-source : (l : ℕ) → l < length second.links → (link m (up l)).source ≡ c + (link second l).source
  second-source l h =
      let b = in-second c m k l h in
      omega (arith, above-seam c m k (up l) (omega arith) b.1, ap (λ (x : Link). x.source) (second-link c m k l b.0))

  second-next : (l : ℕ) → l < length second.links → (link m (up l)).next ≡ c + (link second l).next
  second-next l h =
      let b = in-second c m k l h in
      omega (arith, above-seam c m k (up l) (omega arith) b.1, k.rises (up l) b.1, ap (λ (x : Link). x.next) (second-link c m k l b.0))

  -- ---- the parts climb
  pub climbs-first : Climbs (preheat c m)
  climbs-first = record {
    rises = λ l h. omega (arith, first-source l h, first-next l h, k.rises l (in-first c m l h).1);
    inside = λ l h. let b = in-first c m l h in omega (arith, first-next l h, t.through l b.1 (below-seam c m k l b.0), first-nodes c m t.inside);
    sorted = λ i j a h. omega (arith, first-source i (omega (arith, a, h)), first-source j h, k.sorted i j a (in-first c m j h).1);
  }

  pub climbs-second : Climbs (bake c m)
  climbs-second = record {
    rises = λ l h. omega (arith, second-source l h, second-next l h, k.rises (up l) (in-second c m k l h).1);
    inside = λ l h. omega (arith, second-next l h, k.inside (up l) (in-second c m k l h).1, second-nodes c m);
    sorted = λ i j a h. omega (arith, second-source i (omega (arith, a, h)), second-source j h, k.sorted (up i) (up j) (omega (arith, a)) (in-second c m k j h).1);
  }

  -- ---- a run of each part is one of the whole, of the same cost
  first-run : (p : List ℕ) (u v : ℕ) → IsRun first u p v → IsRun m u p v × (run_cost first p ≡ run_cost m p)
  unfolding run_cost
  first-run [] u v h = (h, refl)
  first-run (l ∷ p) u v h =
      let b = in-first c m l h.0 in
      let e = first-link c m k l b.0 in
      let r = first-run p (link first l).next v h.2 in
      ((b.1, sym (first-source l h.0) ∙ h.1, subst (λ n. IsRun m n p v) (first-next l h.0) r.0), λ i. (e i).weight ⊗ r.1 i)

  second-run : (q : List ℕ) (u v : ℕ) → IsRun second u q v → IsRun m (c + u) (map up q) (c + v) × (run_cost second q ≡ run_cost m (map up q))
  unfolding run_cost
  second-run [] u v h = (ap (λ n. c + n) h, refl)
  second-run (l ∷ q) u v h =
      let b = in-second c m k l h.0 in
      let e = second-link c m k l b.0 in
      let r = second-run q (link second l).next v h.2 in
      ((b.1, second-source l h.0 ∙ ap (λ n. c + n) h.1, subst (λ n. IsRun m n (map up q) (c + v)) (sym (second-next l h.0)) r.0), λ i. (e i).weight ⊗ r.1 i)

  -- ---- a run of the whole from c on is one of the second part, and one past c has a run of each
  from-c : (r : List ℕ) (u v : ℕ) → IsRun m (c + u) r (c + v) → (q : List ℕ) × (r ≡ map up q) × IsRun second u q v
  from-c [] u v h = ([], refl, omega (arith, h))
  from-c (l ∷ r) u v h =
      let o : seam c m ≤ l = elim (split_at l (seam c m)) [ inl x ↦ absurd (omega (arith, below-seam c m k l x, h.1)) | inr x ↦ x ] in
      let j : ℕ = l - seam c m in
      let n : up j ≡ l = omega (arith, o) in
      let b : j < length second.links = omega (arith, o, h.0, second-links c m k) in
      let s = second-source j b in
      let e = ap (λ i. (link m i).next) (sym n) ∙ second-next j b in
      let x = from-c r (link second j).next v (subst (λ a. IsRun m a r (c + v)) e h.2) in
      (j ∷ x.0, (λ i. sym n i ∷ x.1 i), (b, omega (arith, s, ap (λ i. (link m i).source) n, h.1), x.2))

  past-c : (r : List ℕ) (u v : ℕ) → IsRun m u r (c + v) → u ≤ c → (p q : List ℕ) × (r ≡ p ++ map up q) × IsRun first u p c × IsRun second 0 q v
  past-c [] u v h a = ([], [], refl, omega (arith, h, a), omega (arith, h, a))
  past-c (l ∷ r) u v h a = go (ℕ_discrete u c) (λ n. past-c r (link m l).next v h.2 n)
    where
      go : Dec (u ≡ c) → ((link m l).next ≤ c → (p q : List ℕ) × (r ≡ p ++ map up q) × IsRun first (link m l).next p c × IsRun second 0 q v)
          → (p q : List ℕ) × (l ∷ r ≡ p ++ map up q) × IsRun first u p c × IsRun second 0 q v
      go (yes e) ih = let x = from-c (l ∷ r) 0 v (subst (λ n. IsRun m n (l ∷ r) (c + v)) (let z : u ≡ c + 0 = omega (arith, e) in z) h) in ([], x.0, x.1, e, x.2)
      go (no n) ih =
          let low : (link m l).source < c = omega (arith, h.1, n, a) in
          let b : l < length first.links = omega (arith, from-below c m k l h.0 low, first-links c m) in
          let x = ih (t.through l h.0 low) in
          (l ∷ x.0, x.1, ap (λ z. l ∷ z) x.2, (b, first-source l b ∙ h.1, subst (λ n. IsRun first n x.0 c) (sym (first-next l b)) x.3), x.4)

  -- ---- readings
  -- one of the first part ends at c
  ends-c : (x : Reading) → Way first x → x.end ≡ c
  ends-c x w = first-marked c m t x.end w.weight w.marked

  -- one of the second starts at 0
  from-0 : (y : Reading) → Way second y → IsRun second 0 y.run y.end
  from-0 y w = subst (λ u. IsRun second u y.run y.end) (some-injective w.from 0 (sym w.starts ∙ second-start c m)) w.runs

  join-way : (x y : Reading) → Way first x → Way second y → Way m (join c m x y)
  join-way x y v w =
      let a = (first-run x.run v.from x.end v.runs).0 in
      let b = (second-run y.run 0 y.end (from-0 y w)).0 in
      let e : c + 0 ≡ x.end = omega (arith, ends-c x v) in
      record {
        from = v.from;
        weight = w.weight;
        starts = sym (first-start c m) ∙ v.starts;
        runs = run-append m x.run (map up y.run) v.from x.end (c + y.end) a (subst (λ u. IsRun m u (map up y.run) (c + y.end)) e b);
        marked = sym (second-final c m y.end) ∙ w.marked;
      }

  join-cost : (x y : Reading) → Way first x → Way second y → reading_cost m (join c m x y) ≡ reading_cost first x ⊗ reading_cost second y
  join-cost x y v w =
      let f = final_weight (final m (c + y.end)) in
      let a = run_cost m x.run in
      let b = run_cost m (map up y.run) in
      let p : reading_cost first x ≡ a = (λ i. (first-run x.run v.from x.end v.runs).1 i ⊗ final_weight ((ap (final first) (ends-c x v) ∙ first-final c m t.inside) i)) ∙ ⊗-one a in
      let q : reading_cost second y ≡ b ⊗ f = λ i. (second-run y.run 0 y.end (from-0 y w)).1 i ⊗ final_weight (second-final c m y.end i) in
      ap (λ z. z ⊗ f) (cost-append m x.run (map up y.run)) ∙ ⊗-assoc a b f ∙ ap₂ ◌⊗◌ (sym p) (sym q)

  -- a pair of readings is one of the whole
  pub join-reads : (x y : Reading) → IsReading (preheat c m) x → IsReading (bake c m) y → IsReading m (join c m x y)
  join-reads x y i j = reads m (join-way x y (way first i) (way second j)) (i.costs +ℤ j.costs) (join-cost x y (way first i) (way second j) ∙ ap₂ ◌⊗◌ i.finite j.finite)

  split-way : (z : Reading) → Way m z → (x y : Reading) × Way first x × Way second y × (z ≡ join c m x y)
  split-way z w =
      let low : w.from ≤ c = omega (arith, some-injective w.from t.from (sym w.starts ∙ t.starts), t.by) in
      let past : c ≤ z.end = elim (split_at z.end c) [ inl h ↦ absurd (none-ne-some w.weight (sym (t.unmarked-below z.end h) ∙ w.marked)) | inr h ↦ h ] in
      let e : z.end ≡ c + (z.end - c) = omega (arith, past) in
      let r = past-c z.run w.from (z.end - c) (subst (IsRun m w.from z.run) e w.runs) low in (
        record { run = r.0; end = c },
        record { run = r.1; end = z.end - c },
        record { from = w.from; weight = one; starts = first-start c m ∙ w.starts; runs = r.3; marked = first-final c m t.inside },
        record { from = 0; weight = w.weight; starts = second-start c m; runs = r.4; marked = second-final c m (z.end - c) ∙ ap (final m) (sym e) ∙ w.marked },
        λ i. record { run = r.2 i; end = e i },
      )

  -- each of the whole is that of a pair
  pub split-reads : (z : Reading) → IsReading m z → (x y : Reading) × IsReading (preheat c m) x × IsReading (bake c m) y × (z ≡ join c m x y)
  split-reads z i =
      let w = split-way z (way m i) in
      let a = reading_cost first w.0 in
      let b = reading_cost second w.1 in
      let e : a ⊗ b ≡ fin i.costs = sym (join-cost w.0 w.1 w.2 w.3) ∙ ap (reading_cost m) (sym w.4) ∙ i.finite in
      let f = term a b i.costs e in
      let g = term b a i.costs (⊗-comm b a ∙ e) in
      (w.0, w.1, reads first w.2 f.0 f.1, reads second w.3 g.0 g.1, w.4)

  -- and of one alone
  low-links : (x : Reading) → IsReading first x → (l : ℕ) → l ∈ x.run → l < seam c m
  low-links x i l h = (in-first c m l (run_in first x.run i.from x.end i.runs l h)).0

  pub join-apart : (x z y w : Reading) → IsReading (preheat c m) x → IsReading (preheat c m) z → join c m x y ≡ join c m z w → (x ≡ z) × (y ≡ w)
  join-apart x z y w i j e =
      let a = lists-apart (seam c m) x.run z.run y.run w.run (low-links x i) (low-links z j) (ap (λ (r : Reading). r.run) e) in
      let b : x.end ≡ z.end = ends-c x (way first i) ∙ sym (ends-c z (way first j)) in
      let d : y.end ≡ w.end = omega (arith, ap (λ (r : Reading). r.end) e) in
      (λ i. record { run = a.0 i; end = b i }, λ i. record { run = a.1 i; end = d i })

  -- in the user's words, by whatever tells the links' numbers
  pub joins : (low high : ℕ → ℕ) → ((l : ℕ) → l < length (preheat c m).links → low l ≡ l) → ((l : ℕ) → l < length (bake c m).links → high l ≡ seam c m + l)
      → Joins m (preheat c m) (bake c m) (joined c low high)
  joins low high f g =
      let is : (x y : Reading) → IsReading first x → IsReading second y → joined c low high x y ≡ join c m x y = λ x y i j.
      let p = map_same low (λ l. l) x.run (λ l h. f l (run_in first x.run i.from x.end i.runs l h)) ∙ map-id x.run in
      let q = map_same high up y.run (λ l h. g l (run_in second y.run j.from y.end j.runs l h)) in
      λ n. record { run = p n ++ q n; end = c + y.end } in
      record {
        whole = λ x y i j. subst (IsReading m) (sym (is x y i j)) (join-reads x y i j);
        sum = λ x y i j. ap (reading_cost m) (is x y i j) ∙ join-cost x y (way first i) (way second j);
        halves = λ z i. let r = split-reads z i in record { first_half = r.0; second_half = r.1; first-reads = r.2; second-reads = r.3; is = r.4 ∙ sym (is r.0 r.1 r.2 r.3) };
        apart = λ x z y w i j a b e. join-apart x z y w i j (sym (is x y i a) ∙ e ∙ is z w j b);
      }

  -- ---- all readings
  reads-first : (x : Reading) → x ∈ readings first → IsReading first x
  reads-first x h = (readings-are first climbs-first x).0 h

  reads-second : (y : Reading) → y ∈ readings second → IsReading second y
  reads-second y h = (readings-are second climbs-second y).0 h

  pub readings-joined : Perm (readings m) (across (join c m) (readings (preheat c m)) (readings (bake c m)))
  readings-joined = same-members (across (join c m) (readings first) (readings second)) (readings m)
      (across-nodup (join c m) (readings first) (readings second) (λ x z y w p q u v. join-apart x z y w (reads-first x p) (reads-first z q)) (readings-once first climbs-first) (readings-once second climbs-second))
      (readings-once m k)
      (λ z h. let r = mem-across (join c m) (readings first) (readings second) h in mem-eq (sym r.4) ((readings-are m k (join c m r.0 r.1)).1 (join-reads r.0 r.1 (reads-first r.0 r.2) (reads-second r.1 r.3))))
      (λ z h.
      let r = split-reads z ((readings-are m k z).0 h) in
      mem-eq (sym r.4) (across-mem (join c m) (readings second) ((readings-are first climbs-first r.0).1 r.2) ((readings-are second climbs-second r.1).1 r.3)))

  -- the costs of the whole are the sums of one cost from each part
  pub costs-joined : Perm (map (reading_cost m) (readings m)) (sums (map (reading_cost (preheat c m)) (readings (preheat c m))) (map (reading_cost (bake c m)) (readings (bake c m))))
  costs-joined = thru (perm-map (reading_cost m) readings-joined)
      (perm-eq (across-sums (join c m) (reading_cost first) (reading_cost second) (reading_cost m) (readings first) (readings second)
      (λ x y p q. join-cost x y (way first (reads-first x p)) (way second (reads-second y q)))))

  -- the costs of a list of the whole are the n least sums of one cost from each part's list
  pub lists-joined : (n : ℕ) (whole low high : List Reading) → Demand m n whole → Demand (preheat c m) n low → Demand (bake c m) n high
      → map (reading_cost m) whole ≡ least_sums n (map (reading_cost (preheat c m)) low) (map (reading_cost (bake c m)) high)
  unfolding least_sums
  lists-joined n whole low high d e f =
      let p = map (reading_cost first) (readings first) in
      let q = map (reading_cost second) (readings second) in
      demand-costs m k n whole d ∙ ap (take n) (sort-perm costs-joined) ∙ least-sums n p q
      ∙ ap₂ (least_sums n) (sym (demand-costs first climbs-first n low e)) (sym (demand-costs second climbs-second n high f))
