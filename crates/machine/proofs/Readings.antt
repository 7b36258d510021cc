-- The list of readings holds each reading once, and nothing else: its length is the number of readings. Assumes nothing.
use mathlib.Core.Path.{◌≡◌, refl, sym, ap, ◌∙◌, subst}
use mathlib.Core.Logic.{◌⊎◌, inl, inr, ◌↔◌}
use mathlib.Core.Bool.{Bool, true, false, cond}
use mathlib.Core.Option.{Option, none, some}
use mathlib.Core.List.Memᴰ
use mathlib.Core.List.{List, [], ◌∷◌, ◌++◌}
use Prim.Native.Nat.{ℕ, zero, suc, ◌<◌}
use native.Mathlib.Decide.{ℕ_discrete}
use native.Mathlib.Omega.{arith}
use lib.ListN.{get_or, length}
use Rattle.tropical_weight.specs.Tropical.{Tropical}
use Rattle.tropical_weight.proofs.Semiring.{is_finite, is-finite}
use Rattle.sheet.specs.Machine.{Machine}
use Rattle.machine.specs.Readings.{final, node_or, IsRun, ways_to, Reading, IsReading, reading_of, reading_cost, ends_at, keep, readings, readings_below}
use Rattle.machine.specs.Climbs.{Climbs}
use Rattle.machine.specs.Demand.{◌∈◌, NoDup}
use Rattle.machine.proofs.Lists.{mem-eq, map-mem, mem-map, nodup_append, nodup-map, keep-mem, mem-keep}
use Rattle.machine.proofs.Runs.{run_end, run_ends, ways-are, ways-once}

-- a node with mark 1 is below N
marked-in : (fs : List (Option Tropical)) (v : ℕ) (w : Tropical) → get_or fs v none ≡ some w → v < length fs
marked-in [] v w e = let z : ◌≡◌ {A = ℕ} 0 1 = cc in absurd (omega arith)
marked-in (f ∷ fs) zero w e = omega arith
marked-in (f ∷ fs) (suc v) w e = omega (arith, marked-in fs v w e)

-- those that pass a test are without repeats where all are
keep-once : {A : Type 0} (p : A → Bool) (l : List A) → NoDup l → NoDup (keep p l)
unfolding keep
keep-once p [] n = tt
keep-once p (x ∷ l) n = go (p x) (keep-once p l n.1)
  where
    go : (t : Bool) → NoDup (keep p l) → NoDup (cond t (x ∷ keep p l) (keep p l))
    go true o = (λ h. n.0 (keep-mem p l h).0, o)
    go false o = o

module _ (m : Machine) where
  -- a reading is that of its run
  pub reading-is : (x : Reading) → IsReading m x → reading_of m x.run ≡ x
  reading-is x i =
      let h : IsRun m (node_or m.start) x.run x.end = subst (λ k. IsRun m k x.run x.end) (ap node_or (sym i.starts)) i.runs in
      ap (λ k. record { run = x.run; end = k }) (run_ends m x.run (node_or m.start) x.end h)

  pub final-in : (v : ℕ) (w : Tropical) → final m v ≡ some w → v < length m.finals
  final-in v w e = marked-in m.finals v w e

  -- the links of a reading tell which it is
  pub same-reading : (x y : Reading) → IsReading m x → IsReading m y → x.run ≡ y.run → x ≡ y
  same-reading x y i j e =
      let f : some i.from ≡ some j.from = sym i.starts ∙ j.starts in
      let g : i.from ≡ j.from = cc in
      let q = run_end m y.run j.from x.end y.end (subst (λ r. IsRun m j.from r x.end) e (subst (λ s. IsRun m s x.run x.end) g i.runs)) j.runs in
      λ k. record { run = e k; end = q k }

  -- a run from the start to a node with mark 1, whatever it costs
  pub record Way (x : Reading) : Type 0 where
    pub from : ℕ
    pub weight : Tropical
    pub starts : m.start ≡ some from
    pub runs : IsRun m from x.run x.end
    pub marked : final m x.end ≡ some weight

  pub way : {x : Reading} → IsReading m x → Way x
  way i = record { from = i.from; weight = i.weight; starts = i.starts; runs = i.runs; marked = i.marked }

  ends-in : (o : Option Tropical) (v : ℕ) (rs : List (List ℕ)) (x : Reading) → x ∈ ends_at o v rs → (w : Tropical) × (o ≡ some w) × (x.run ∈ rs) × (x.end ≡ v)
  ends-in none v rs x h = absurd (Memᴰ.not-nil h)
  ends-in (some w) v rs x h =
      let r = mem-map (λ r. record { run = r; end = v }) rs h in
      (w, refl, mem-eq (sym (ap (λ (y : Reading). y.run) r.2)) r.1, ap (λ (y : Reading). y.end) r.2)

  module _ (c : Climbs m) where
    below-sound : (n : ℕ) (x : Reading) → x ∈ readings_below m n → Way x × (x.end < n)
    unfolding readings_below
    below-sound zero x h = absurd (Memᴰ.not-nil h)
    below-sound (suc n) x h = go (Memᴰ.append_cases (readings_below m n) h) (below-sound n x)
      where
        go : x ∈ readings_below m n ⊎ x ∈ ends_at (final m n) n (ways_to m n) → (x ∈ readings_below m n → Way x × (x.end < n)) → Way x × (x.end < suc n)
        go (inl q) ih = let r = ih q in (r.0, omega (arith, r.1))
        go (inr q) ih =
            let r = ends-in (final m n) n (ways_to m n) x q in
            let s = (ways-are m c n x.run).0 r.2 in
            (record { from = s.0; weight = r.0; starts = s.1; runs = subst (IsRun m s.0 x.run) (sym r.3) s.2; marked = ap (final m) r.3 ∙ r.1 }, omega (arith, r.3))

    below-complete : (n : ℕ) (x : Reading) → Way x → x.end < n → x ∈ readings_below m n
    unfolding readings_below
    below-complete zero x i b = absurd (omega arith)
    below-complete (suc n) x i b = go (ℕ_discrete x.end n) (below-complete n x i)
      where
        put : (o : Option Tropical) (v : ℕ) (rs : List (List ℕ)) → o ≡ some i.weight → x.end ≡ v → x.run ∈ rs → x ∈ ends_at o v rs
        put none v rs e f h = let z : ◌≡◌ {A = ℕ} 0 1 = cc in absurd (omega arith)
        put (some w) v rs e f h = mem-eq (ap (λ u. record { run = x.run; end = u }) (sym f)) (map-mem (λ r. record { run = r; end = v }) h)

        go : Dec (x.end ≡ n) → (x.end < n → x ∈ readings_below m n) → x ∈ (readings_below m n ++ ends_at (final m n) n (ways_to m n))
        go (no e) ih = Memᴰ.append_left (ends_at (final m n) n (ways_to m n)) (ih (omega (arith, e)))
        go (yes e) ih =
            Memᴰ.append_right (readings_below m n)
            (put (final m n) n (ways_to m n) (ap (final m) (sym e) ∙ i.marked) e ((ways-are m c n x.run).1 (i.from, i.starts, subst (IsRun m i.from x.run) e i.runs)))

    below-once : (n : ℕ) → NoDup (readings_below m n)
    unfolding readings_below
    below-once zero = tt
    below-once (suc n) = nodup_append (readings_below m n) (ends_at (final m n) n (ways_to m n)) (below-once n) (one (final m n))
        (λ x p q. let r = below-sound n x p in let s = ends-in (final m n) n (ways_to m n) x q in omega (arith, r.1, s.3))
      where
        one : (o : Option Tropical) → NoDup (ends_at o n (ways_to m n))
        one none = tt
        one (some w) = nodup-map (λ r. record { run = r; end = n }) (ways_to m n) (λ a b e. ap (λ (y : Reading). y.run) e) (ways-once m (length m.links) n (omega arith))

    -- each reading, and nothing else
    pub readings-are : (x : Reading) → (x ∈ readings m) ↔ IsReading m x
    unfolding readings
    readings-are x = (fore, back)
      where
        fore : x ∈ readings m → IsReading m x
        fore h =
            let k = keep-mem (λ y. is_finite (reading_cost m y)) (readings_below m (length m.finals)) h in
            let w = (below-sound (length m.finals) x k.0).0 in
            let f = is-finite (reading_cost m x) k.1 in
            record { from = w.from; weight = w.weight; starts = w.starts; runs = w.runs; marked = w.marked; costs = f.0; finite = f.1 }

        back : IsReading m x → x ∈ readings m
        back i = mem-keep (λ y. is_finite (reading_cost m y)) (readings_below m (length m.finals))
            (below-complete (length m.finals) x (way i) (final-in x.end i.weight i.marked)) (ap is_finite i.finite)

    -- and each once
    pub readings-once : NoDup (readings m)
    unfolding readings
    readings-once = keep-once (λ y. is_finite (reading_cost m y)) (readings_below m (length m.finals)) (below-once (length m.finals))
