-- Each step of the search is one of best-first search, and so is the whole run: what holds after any number of removals. Assumes nothing.
use mathlib.Core.Path.{◌≡◌, refl, sym, ap, ap₂, ◌∙◌, subst}
use mathlib.Core.Logic.{◌⊎◌, inl, inr}
use mathlib.Core.Bool.{Bool, true, false, cond}
use mathlib.Core.Option.{Option, none, some}
use mathlib.Core.List.Memᴰ
use mathlib.Core.List.{List, [], ◌∷◌, ◌++◌, map, append-nil, append_assoc}
use Prim.Native.Nat.{ℕ, zero, suc, ◌+◌, ◌≤◌, ◌<◌, min}
use native.Mathlib.Decide.{ℕ_discrete}
use native.Mathlib.Omega.{arith}
use lib.Dec.{leb}
use lib.ListN.{get_or, set, length, length-replicate, length-append, length-map, length-set, get_or-append}
use lib.Seq.{get_or-set_same, get_or-set_other}
use borrow.Author.Tests.{leb-true, leb-false}
use Rattle.tropical_weight.specs.Tropical.{Tropical, ◌≼◌}
use Rattle.tropical_weight.proofs.Semiring.{is_finite, ≼-eq, ≼_trans}
use Rattle.machine.specs.Readings.{is_at}
use Rattle.machine.specs.Demand.{◌∈◌, NoDup}
use Rattle.machine.proofs.Lists.{Perm, thru, perm-refl, perm-mem, perm-sym, perm-map, perm-length, perm-left, perm-right, perm-swap, here, mem-eq, map-mem, mem-map, map-append, map_same, keep, keep_append, keep-mem, keep-nodup, nodup-end}
use Rattle.machine.proofs.Runs.{at_some}
use Rattle.search.specs.Reversed.{Back, Reversed}
use Rattle.search.specs.Heap.{popped}
use Rattle.search.specs.Search.{Entry, half, finished, first, Search, rank, before, put_all, expansion, taken_by, step, begun}
use Rattle.search.proofs.Contents.{popped-keeps}
use Rattle.search.proofs.Counts.{occurs, occurs-append, occurs-here, occurs-other, occurs-one}
use Rattle.search.proofs.HeapOrder.{Ordered, popped-ordered, head_first}
use Rattle.search.proofs.Ranks.{entries-strict, ranks-follow}
use Rattle.search.proofs.Trails.{back, stop, Trail, site, cost, moves, moves_from, rank_of, Made, Consistent, back_from, finished-rank}
use Rattle.search.proofs.Fans.{fan_sum, fan-append, fan_of}
use Rattle.search.proofs.BestFirst.{Fate, expanded, dropped, listed, barred, Taken, took, trails_of, is_listed, listed_of, put_in, Sound, made, born, put-taking, sound-first, sound-perm, sound-taking}
use Rattle.search.proofs.Mirror.{half-site, finished-site, rank_is, at, Mirrors, Told, put_all-keeps, Grown, put_by, expansion-moves, puts}

-- ---- the nodes that were expanded
abbrev node_by : Fate → Option ℕ → List ℕ
node_by expanded (some v) = v ∷ []
node_by expanded none = []
node_by dropped s = []
node_by listed s = []
node_by barred s = []

-- in order
unfoldable pub nodes_of : List Taken → List ℕ
nodes_of [] = []
nodes_of (d ∷ ds) = node_by d.fate (site d.trail) ++ nodes_of ds

abbrev expanded_at : ℕ → Taken → Bool
expanded_at v d = elim d.fate [ expanded ↦ is_at (site d.trail) v | dropped ↦ false | listed ↦ false | barred ↦ false ]

nodes-snoc : (ds : List Taken) (t : Trail) (f : Fate) → nodes_of (ds ++ (took t f ∷ [])) ≡ nodes_of ds ++ node_by f (site t)
unfolding nodes_of
nodes-snoc [] t f = append-nil (node_by f (site t))
nodes-snoc (d ∷ ds) t f = ap (λ l. node_by d.fate (site d.trail) ++ l) (nodes-snoc ds t f) ∙ sym (append_assoc (node_by d.fate (site d.trail)) (nodes_of ds) (node_by f (site t)))

-- as many as there are trails that were expanded there
nodes-count : (v : ℕ) (ds : List Taken) → length (keep (expanded_at v) ds) ≡ occurs v (nodes_of ds)
unfolding keep nodes_of occurs
nodes-count v [] = refl
nodes-count v (d ∷ ds) = go d.fate (site d.trail) (nodes-count v ds)
  where
    go : (f : Fate) (s : Option ℕ) → length (keep (expanded_at v) ds) ≡ occurs v (nodes_of ds)
        → length (cond (elim f [ expanded ↦ is_at s v | dropped ↦ false | listed ↦ false | barred ↦ false ]) (d ∷ keep (expanded_at v) ds) (keep (expanded_at v) ds)) ≡ occurs v (node_by f s ++ nodes_of ds)
    go expanded none e = e
    go expanded (some u) e = occurs-one v u (nodes_of ds) d (keep (expanded_at v) ds) e
    go dropped s e = e
    go listed s e = e
    go barred s e = e

kind_at : (v : ℕ) (ds : List Taken) (d : Taken) → d ∈ ds → expanded_at v d ≡ true → (took d.trail expanded ∈ ds) × (site d.trail ≡ some v)
kind_at v ds d h e = go d.fate refl e
  where
    go : (f : Fate) → d.fate ≡ f → elim f [ expanded ↦ is_at (site d.trail) v | dropped ↦ false | listed ↦ false | barred ↦ false ] ≡ true → (took d.trail expanded ∈ ds) × (site d.trail ≡ some v)
    go expanded q k = (mem-eq (λ i. record { trail = d.trail; fate = q i }) h, at_some (site d.trail) v k)
    go dropped q k = let z : ◌≡◌ {A = ℕ} 0 1 = cc in absurd (omega arith)
    go listed q k = let z : ◌≡◌ {A = ℕ} 0 1 = cc in absurd (omega arith)
    go barred q k = let z : ◌≡◌ {A = ℕ} 0 1 = cc in absurd (omega arith)

pub node-mem : (v : ℕ) (ds : List Taken) → v ∈ nodes_of ds → (t : Trail) × (took t expanded ∈ ds) × (site t ≡ some v)
unfolding nodes_of
node-mem v [] h = absurd (Memᴰ.not-nil h)
node-mem v (d ∷ ds) h = go (Memᴰ.append_cases (node_by d.fate (site d.trail)) h) (node-mem v ds)
  where
    new : (f : Fate) (s : Option ℕ) → d.fate ≡ f → site d.trail ≡ s → v ∈ node_by f s → (t : Trail) × (took t expanded ∈ (d ∷ ds)) × (site t ≡ some v)
    new expanded none p q k = absurd (Memᴰ.not-nil k)
    new expanded (some u) p q k = (d.trail, Memᴰ.head (λ i. record { trail = d.trail; fate = sym p i }), q ∙ ap some (sym (Memᴰ.eq_of_singleton k)))
    new dropped s p q k = absurd (Memᴰ.not-nil k)
    new listed s p q k = absurd (Memᴰ.not-nil k)
    new barred s p q k = elim k [ ]

    go : v ∈ node_by d.fate (site d.trail) ⊎ v ∈ nodes_of ds → (v ∈ nodes_of ds → (t : Trail) × (took t expanded ∈ ds) × (site t ≡ some v)) → (t : Trail) × (took t expanded ∈ (d ∷ ds)) × (site t ≡ some v)
    go (inl k) ih = new d.fate (site d.trail) refl refl k
    go (inr k) ih = let x = ih k in (x.0, Memᴰ.tail x.1, x.2)

-- the trails that were expanded at v
abbrev pub trails_at : ℕ → List Taken → List Trail
trails_at v ds = trails_of (keep (expanded_at v) ds)

pub trails-at : (v : ℕ) (ds : List Taken) (t : Trail) → t ∈ trails_at v ds → (took t expanded ∈ ds) × (site t ≡ some v)
trails-at v ds t h =
    let x = mem-map (λ (d : Taken). d.trail) (keep (expanded_at v) ds) h in
    let y = keep-mem (expanded_at v) ds x.1 in
    subst (λ u. (took u expanded ∈ ds) × (site u ≡ some v)) (sym x.2) (kind_at v ds x.0 y.0 y.1)

pub trails-once : (v : ℕ) (ds : List Taken) → NoDup (trails_of ds) → NoDup (trails_at v ds)
trails-once v ds h = keep-nodup (λ (d : Taken). d.trail) (expanded_at v) ds h

pub trails-count : (v : ℕ) (ds : List Taken) → length (trails_at v ds) ≡ occurs v (nodes_of ds)
trails-count v ds = length-map (keep (expanded_at v) ds) (λ (d : Taken). d.trail) ∙ nodes-count v ds

-- no node has been taken at first
pub no-visits : (size v : ℕ) → get_or (begun size).visits v 0 ≡ 0
no-visits zero v = refl
no-visits (suc size) zero = refl
no-visits (suc size) (suc v) = no-visits size v

module _ (r : Reversed) (n size : ℕ) where
  -- what holds of the search whenever an entry has been dealt with: its trails, and what became of those taken
  pub record Holds (s : Search) : Type 0 where
    pub trails : List Trail
    pub done : List Taken
    pub mirrors : Mirrors r s trails
    pub sound : Sound r n (record { waiting = map (at trails) s.heap; taken = done })
    pub lists : map (at trails) s.listed ≡ listed_of done
    pub wide : length s.visits ≡ size
    -- the first n taken at a node are expanded
    pub visited : (v : ℕ) → occurs v (nodes_of done) ≡ min n (get_or s.visits v 0)
    pub counted : length done ≡ s.taken
    -- each waits, or was taken
    pub all : Perm trails (put_in (record { waiting = map (at trails) s.heap; taken = done }))
    -- and was put in by an expansion, but for the first
    pub grew : length trails ≡ 1 + fan_sum (fan_of r) (nodes_of done)

  pub each : (s : Search) (i : Holds s) → length i.trails ≡ length s.heap + s.taken
  each s i =
      perm-length i.all ∙ length-append (map (at i.trails) s.heap) (trails_of i.done)
      ∙ omega (arith, length-map s.heap (at i.trails), length-map i.done (λ (d : Taken). d.trail), i.counted)

  pub holds-begun : Holds (begun size)
  unfolding keep nodes_of occurs fan_sum
  holds-begun = record {
    trails = [] ∷ [];
    done = [];
    mirrors = record {
      size = refl;
      filled = omega arith;
      zeroth = refl;
      told = told;
      in_heap = λ i h. omega (arith, Memᴰ.eq_of_singleton h);
      in_list = λ i h. absurd (Memᴰ.not-nil h);
      order = λ j p q. absurd (omega arith);
    };
    sound = sound-first r n;
    lists = refl;
    wide = length-replicate size 0;
    visited = λ v. omega (arith, no-visits size v);
    counted = refl;
    all = perm-refl ([] ∷ []);
    grew = refl;
  }
    where
      told : (i : ℕ) → Told (first ∷ []) ([] ∷ []) i
      told zero = record { entry = refl; input = refl; from = refl; earlier = omega arith }
      told (suc i) = record { entry = refl; input = refl; from = refl; earlier = omega arith }

  module _ (c : Consistent r) (room : 0 < size) (within : (v : ℕ) (b : Back) → b ∈ r.out v → b.next < size) where
    pub site-in : (t : Trail) → Made r t → (v : ℕ) → site t ≡ some v → v < size
    site-in [] h v e = let z : 0 ≡ v = cc in omega arith
    site-in (back b ∷ t) h v e = let x = back_from r (site t) b h.0 in let z : b.next ≡ v = cc in omega (arith, within x.0 b x.2)
    site-in (stop ∷ t) h v e = let z : ◌≡◌ {A = ℕ} 0 1 = cc in absurd (omega arith)

    -- ---- number x is taken, and h is the heap without it
    module _ (s : Search) (i : Holds s) (x : ℕ) (h : List ℕ) (whole : Perm s.heap (x ∷ h)) (in_order : Ordered (before r s.entries) h)
        (head : (j : ℕ) → j ∈ h → before r s.entries j x ≡ false) where
      abbrev ts : List Trail
      ts = i.trails

      abbrev t : Trail
      t = at ts x

      x-in : x < length ts
      x-in = i.mirrors.in_heap x (perm-mem (perm-sym whole) (here x h))

      -- the state with its trail first
      ready : Sound r n (record { waiting = t ∷ map (at ts) h; taken = i.done })
      ready = sound-perm r n (perm-map (at ts) whole) i.sound

      rank-at : (j : ℕ) → rank r (get_or s.entries j first).entry ≡ rank_of r (at ts j)
      rank-at j = ap (rank r) (i.mirrors.told j).entry ∙ rank_is r (at ts j)

      least : (u : Trail) → u ∈ map (at ts) h → rank_of r t ≼ rank_of r u
      least u q =
          let y = mem-map (at ts) h q in
          ≼_trans (≼-eq (sym (rank-at x))) (≼_trans (ranks-follow r s.entries x y.0 (head y.0 y.1)) (≼-eq (rank-at y.0 ∙ ap (rank_of r) (sym y.2))))

      t_made : Made r t
      t_made = made r n c (record { waiting = t ∷ map (at ts) h; taken = i.done }) ready t (here t (map (at ts) h ++ trails_of i.done))

      all-ready : Perm ts (t ∷ (map (at ts) h ++ trails_of i.done))
      all-ready = thru i.all (perm-right (trails_of i.done) (perm-map (at ts) whole))

      -- the entries are the same, and the heap is h
      mirrors-h : (vs ls : List ℕ) (k : ℕ) → ((j : ℕ) → j ∈ ls → j < length ts) → Mirrors r (record { entries = s.entries; heap = h; visits = vs; listed = ls; taken = k }) ts
      mirrors-h vs ls k b = record {
        size = i.mirrors.size;
        filled = i.mirrors.filled;
        zeroth = i.mirrors.zeroth;
        told = i.mirrors.told;
        in_heap = λ j q. i.mirrors.in_heap j (perm-mem (perm-sym whole) (Memᴰ.tail q));
        in_list = b;
        order = in_order;
      }

      longer : (f : Fate) → length (i.done ++ (took t f ∷ [])) ≡ suc s.taken
      longer f = omega (arith, length-append i.done (took t f ∷ []), i.counted)

      nodes-same : (f : Fate) → node_by f (site t) ≡ [] → nodes_of (i.done ++ (took t f ∷ [])) ≡ nodes_of i.done
      nodes-same f e = nodes-snoc i.done t f ∙ ap (λ l. nodes_of i.done ++ l) e ∙ append-nil (nodes_of i.done)

      lists-same : (f : Fate) → is_listed (took t f) ≡ false → listed_of (i.done ++ (took t f ∷ [])) ≡ listed_of i.done
      unfolding keep
      lists-same f e =
          ap trails_of (keep_append is_listed i.done (took t f ∷ []) ∙ ap (λ (b : Bool). keep is_listed i.done ++ cond b (took t f ∷ []) []) e ∙ append-nil (keep is_listed i.done))

      lists-more : listed_of (i.done ++ (took t listed ∷ [])) ≡ listed_of i.done ++ (t ∷ [])
      unfolding keep
      lists-more = ap trails_of (keep_append is_listed i.done (took t listed ∷ [])) ∙ map-append (λ (d : Taken). d.trail) (keep is_listed i.done) (took t listed ∷ [])

      take-finished : (k : Tropical) → (get_or s.entries x first).entry ≡ finished k → Holds (taken_by r n x h (finished k) s)
      take-finished k e = go (is_finite k) refl
        where
          over : (site t ≡ none) × (cost t ≡ k)
          over = finished-site (site t) (cost t) k (sym e ∙ (i.mirrors.told x).entry)

          rank-k : rank_of r t ≡ k
          rank-k = finished-rank r t over.0 ∙ over.1

          go : (b : Bool) → is_finite k ≡ b → Holds (record { entries = s.entries; heap = h; visits = s.visits; listed = cond b (s.listed ++ (x ∷ [])) s.listed; taken = suc s.taken })
          go true f = record {
            trails = ts;
            done = i.done ++ (took t listed ∷ []);
            mirrors = mirrors-h s.visits (s.listed ++ (x ∷ [])) (suc s.taken) (λ j q. elim (Memᴰ.append_cases s.listed q) [ inl z ↦ i.mirrors.in_list j z | inr z ↦ omega (arith, Memᴰ.eq_of_singleton z, x-in) ]);
            sound = sound-taking r n c listed t (map (at ts) h) i.done ready least (over.0, ap is_finite rank-k ∙ f);
            lists = map-append (at ts) s.listed (x ∷ []) ∙ ap (λ l. l ++ (t ∷ [])) i.lists ∙ sym lists-more;
            wide = i.wide;
            visited = λ v. ap (occurs v) (nodes-same listed refl) ∙ i.visited v;
            counted = longer listed;
            all = thru all-ready (perm-sym (put-taking r n listed t (map (at ts) h) i.done));
            grew = i.grew ∙ ap (λ l. 1 + fan_sum (fan_of r) l) (sym (nodes-same listed refl));
          }
          go false f = record {
            trails = ts;
            done = i.done ++ (took t barred ∷ []);
            mirrors = mirrors-h s.visits s.listed (suc s.taken) i.mirrors.in_list;
            sound = sound-taking r n c barred t (map (at ts) h) i.done ready least (over.0, ap is_finite rank-k ∙ f);
            lists = i.lists ∙ sym (lists-same barred refl);
            wide = i.wide;
            visited = λ v. ap (occurs v) (nodes-same barred refl) ∙ i.visited v;
            counted = longer barred;
            all = thru all-ready (perm-sym (put-taking r n barred t (map (at ts) h) i.done));
            grew = i.grew ∙ ap (λ l. 1 + fan_sum (fan_of r) l) (sym (nodes-same barred refl));
          }

      module _ (v : ℕ) (k : Tropical) (e : (get_or s.entries x first).entry ≡ half v k) where
        parts : (site t ≡ some v) × (cost t ≡ k)
        parts = half-site (site t) (cost t) v k (sym e ∙ (i.mirrors.told x).entry)

        abbrev was : ℕ
        was = get_or s.visits v 0

        abbrev visits : List ℕ
        visits = set s.visits v (suc was)

        -- a visit more at v
        visit-here : get_or visits v 0 ≡ suc was
        visit-here = get_or-set_same s.visits v (suc was) 0 (omega (arith, i.wide, site-in t t_made v parts.0))

        visit-other : (w : ℕ) → (w ≡ v → ⊥) → get_or visits w 0 ≡ get_or s.visits w 0
        visit-other w z = get_or-set_other s.visits v w (suc was) 0 z

        abbrev visiting : Search
        visiting = record { entries = s.entries; heap = h; visits = visits; listed = s.listed; taken = suc s.taken }

        take-dropped : n < suc was → Holds visiting
        take-dropped b = record {
          trails = ts;
          done = i.done ++ (took t dropped ∷ []);
          mirrors = mirrors-h visits s.listed (suc s.taken) i.mirrors.in_list;
          sound = sound-taking r n c dropped t (map (at ts) h) i.done ready least (
            (v, parts.0),
            record {
              all = trails_at v i.done;
              size = omega (arith, trails-count v i.done, i.visited v);
              apart = trails-once v i.done (nodup-end (map (at ts) h) (trails_of i.done) ready.once.1);
              were = λ u q. (trails-at v i.done u q).0;
              same = λ u q. (trails-at v i.done u q).1 ∙ sym parts.0;
              low = λ u q. ready.low u t (map-mem (λ (d : Taken). d.trail) (trails-at v i.done u q).0) (here t (map (at ts) h));
            },
          );
          lists = i.lists ∙ sym (lists-same dropped refl);
          wide = length-set s.visits v (suc was) ∙ i.wide;
          visited = λ w. ap (occurs w) (nodes-same dropped refl) ∙ elim (ℕ_discrete w v) as (λ q. occurs w (nodes_of i.done) ≡ min n (get_or visits w 0)) [
            | yes z ↦ omega (arith, i.visited w, ap (λ y. get_or s.visits y 0) z, ap (λ y. get_or visits y 0) z, visit-here)
            | no z ↦ omega (arith, i.visited w, visit-other w z)
          ];
          counted = longer dropped;
          all = thru all-ready (perm-sym (put-taking r n dropped t (map (at ts) h) i.done));
          grew = i.grew ∙ ap (λ l. 1 + fan_sum (fan_of r) l) (sym (nodes-same dropped refl));
        }

        take-expanded : suc was ≤ n → Holds (put_all r (expansion r x v k) visiting)
        unfolding fan_sum occurs
        take-expanded b = record {
          trails = ts ++ born r n expanded t;
          done = i.done ++ (took t expanded ∷ []);
          mirrors = g.mirrors;
          sound = sound-perm r n (perm-sym g.heap) (sound-taking r n c expanded t (map (at ts) h) i.done ready least (v, parts.0));
          lists = ap (map (at (ts ++ born r n expanded t))) old.1 ∙ map_same (at (ts ++ born r n expanded t)) (at ts) s.listed (λ j q. get_or-append ts (born r n expanded t) [] j (i.mirrors.in_list j q)) ∙ i.lists ∙ sym (lists-same expanded refl);
          wide = ap length old.0 ∙ length-set s.visits v (suc was) ∙ i.wide;
          visited = λ w. elim (ℕ_discrete w v) as (λ q. occurs w (nodes_of (i.done ++ (took t expanded ∷ []))) ≡ min n (get_or z.visits w 0)) [
            | yes y ↦ omega (arith, ap (occurs w) nodes, occurs-append w (nodes_of i.done) (v ∷ []), ap (λ o. occurs o (v ∷ [])) y, occurs-here v [], i.visited w, ap (λ o. get_or s.visits o 0) y, ap (λ o. get_or z.visits o 0) y, ap (λ l. get_or l v 0) old.0, visit-here)
            | no y ↦ omega (arith, ap (occurs w) nodes, occurs-append w (nodes_of i.done) (v ∷ []), occurs-other w v [] y, i.visited w, ap (λ l. get_or l w 0) old.0, visit-other w y)
          ];
          counted = longer expanded ∙ sym old.2;
          all = thru (perm-swap ts (born r n expanded t)) (thru (perm-left (born r n expanded t) all-ready)
              (thru (perm-sym (put-taking r n expanded t (map (at ts) h) i.done)) (perm-right (trails_of (i.done ++ (took t expanded ∷ []))) (perm-sym g.heap))));
          grew = omega (arith, wider, sizes, i.grew, ap (fan_sum (fan_of r)) nodes, fan-append (fan_of r) (nodes_of i.done) (v ∷ []));
        }
          where
            z : Search
            z = put_all r (expansion r x v k) visiting

            g : Grown r visiting z ts (born r n expanded t)
            g =
                subst (λ l. Grown r visiting (put_all r l visiting) ts (born r n expanded t))
                (ap₂ (λ y s. map (put_by r x y) (moves r s)) parts.1 parts.0 ∙ sym (expansion-moves r x v k))
                (puts r (moves r (site t)) x t visiting ts (mirrors-h visits s.listed (suc s.taken) i.mirrors.in_list) x-in refl)

            old : (z.visits ≡ visits) × (z.listed ≡ s.listed) × (z.taken ≡ suc s.taken)
            old = put_all-keeps r (expansion r x v k) visiting

            nodes : nodes_of (i.done ++ (took t expanded ∷ [])) ≡ nodes_of i.done ++ (v ∷ [])
            nodes = nodes-snoc i.done t expanded ∙ ap (λ s. nodes_of i.done ++ node_by expanded s) parts.0

            wider : length (ts ++ born r n expanded t) ≡ length ts + length (born r n expanded t)
            wider = length-append ts (born r n expanded t)

            sizes : length (born r n expanded t) ≡ length (moves_from r v)
            sizes = length-map (moves r (site t)) (λ m. m ∷ t) ∙ ap (λ s. length (moves r s)) parts.0

      take_half : (v : ℕ) (k : Tropical) → (get_or s.entries x first).entry ≡ half v k → Holds (taken_by r n x h (half v k) s)
      take_half v k e = go (leb (suc (was v k e)) n) refl
        where
          go : (q : Bool) → leb (suc (was v k e)) n ≡ q → Holds (cond q (put_all r (expansion r x v k) (visiting v k e)) (visiting v k e))
          go true q = take-expanded v k e (leb-true (suc (was v k e)) n q)
          go false q = take-dropped v k e (leb-false (suc (was v k e)) n q)

      take : (y : Entry) → (get_or s.entries x first).entry ≡ y → Holds (taken_by r n x h y s)
      take (half v k) e = take_half v k e
      take (finished k) e = take-finished k e

    pub holds-step : (s : Search) → Holds s → 0 < length s.heap → Holds (step r n s)
    unfolding step
    holds-step s i b = go s.heap refl b
      where
        go : (l : List ℕ) → s.heap ≡ l → 0 < length l → Holds (taken_by r n (get_or s.heap 0 0) (popped (before r s.entries) s.heap) (get_or s.entries (get_or s.heap 0 0) first).entry s)
        go [] e p = absurd (omega arith)
        go (a ∷ l) e p =
            let f = before r s.entries in
            let o = entries-strict r s.entries in
            let q : Ordered f (a ∷ l) = subst (Ordered f) e i.mirrors.order in
            let keeps = popped-keeps f a l in
            let x-is : get_or s.heap 0 0 ≡ a = ap (λ y. get_or y 0 0) e in
            take s i (get_or s.heap 0 0) (popped f s.heap)
            (subst (λ y. Perm y (get_or y 0 0 ∷ popped f y)) (sym e) keeps)
            (subst (λ y. Ordered f (popped f y)) (sym e) (popped-ordered f o a l q))
            (λ j m. subst (λ y. f j y ≡ false) (sym x-is) (head_first f o a l q j (perm-mem (perm-sym keeps) (Memᴰ.tail (subst (λ y. j ∈ popped f y) e m)))).not-before)
            (get_or s.entries (get_or s.heap 0 0) first).entry refl
