-- Each entry of the search stands for a trail: entries put in, and the heap of their numbers, by trails. Assumes nothing.
use mathlib.Core.Path.{◌≡◌, refl, sym, ap, ap₂, ◌∙◌, subst}
use mathlib.Core.Logic.{◌⊎◌, inl, inr}
use mathlib.Core.Bool.{Bool, true, false, cond}
use mathlib.Core.Option.{Option, none, some}
use mathlib.Core.List.Memᴰ
use mathlib.Core.List.{List, [], ◌∷◌, ◌++◌, map, map-map, tail, append-nil, append_assoc}
use Prim.Native.Nat.{ℕ, zero, suc, ◌+◌, ◌-◌, ◌/◌, ◌≤◌, ◌<◌}
use native.Mathlib.Decide.{ℕ_discrete}
use native.Mathlib.Omega.{arith}
use lib.ListN.{get_or, length, length-append, get_or-append, get_or-eq_default}
use lib.Seq.{get_or_at}
use Rattle.tropical_weight.specs.Tropical.{Tropical, ◌⊗◌}
use Rattle.tropical_weight.proofs.Semiring.{one-⊗, ⊗-one}
use Rattle.sheet.proofs.Below.{split_at}
use Rattle.machine.specs.Demand.{◌∈◌}
use Rattle.machine.proofs.Lists.{Perm, thru, perm-eq, perm-mem, perm-map, perm-left, perm_middle, map-append, map_same, get_or-mem}
use Rattle.search.specs.Reversed.{Reversed}
use Rattle.search.specs.Heap.{pushed}
use Rattle.search.specs.Search.{Entry, half, finished, cost_of, Put, first, Search, rank, before, precedes, put, put_all, expansion, with_input, run_of}
use Rattle.search.proofs.Contents.{pushed-keeps}
use Rattle.search.proofs.HeapOrder.{Ordered, pushed-ordered}
use Rattle.search.proofs.Ranks.{entries-strict}
use Rattle.search.proofs.Trails.{Move, back, stop, lands, weigh, input_by, Trail, site, cost, inputs, moves_from, ahead, rank_of}

-- ---- the entry of a trail
abbrev pub entry_at : Option ℕ → Tropical → Entry
entry_at none c = finished c
entry_at (some v) c = half v c

abbrev pub entry_of : Trail → Entry
entry_of t = entry_at (site t) (cost t)

abbrev pub last_input : Trail → Option ℕ
last_input [] = none
last_input (m ∷ t) = input_by m

pub half-site : (o : Option ℕ) (k : Tropical) (v : ℕ) (c : Tropical) → half v c ≡ entry_at o k → (o ≡ some v) × (k ≡ c)
half-site none k v c e = let z : ◌≡◌ {A = ℕ} 0 1 = cc in absurd (omega arith)
half-site (some u) k v c e = (cc, cc)

pub finished-site : (o : Option ℕ) (k c : Tropical) → finished c ≡ entry_at o k → (o ≡ none) × (k ≡ c)
finished-site none k c e = (refl, cc)
finished-site (some u) k c e = let z : ◌≡◌ {A = ℕ} 0 1 = cc in absurd (omega arith)

pub rank_is : (r : Reversed) (t : Trail) → rank r (entry_of t) ≡ rank_of r t
rank_is r t = go (site t)
  where
    go : (o : Option ℕ) → rank r (entry_at o (cost t)) ≡ ahead r o ⊗ cost t
    go none = sym (one-⊗ (cost t))
    go (some v) = refl

pub entry-cost : (t : Trail) → cost_of (entry_of t) ≡ cost t
entry-cost t = go (site t)
  where
    go : (o : Option ℕ) → cost_of (entry_at o (cost t)) ≡ cost t
    go none = refl
    go (some v) = refl

-- ---- trails by the numbers of entries
abbrev pub at : List Trail → ℕ → Trail
at ts i = get_or ts i []

-- entry i is that of trail i, and came from that of its tail
pub record Told (es : List Put) (ts : List Trail) (i : ℕ) : Type 0 where
  pub entry : (get_or es i first).entry ≡ entry_of (at ts i)
  pub input : (get_or es i first).input ≡ last_input (at ts i)
  pub from : at ts (get_or es i first).from ≡ tail (at ts i)
  pub earlier : (get_or es i first).from ≤ i - 1

-- the first has no inputs, however often it is gone back from
pub run-first : (es : List Put) → get_or es 0 first ≡ first → (k : ℕ) → run_of es k 0 ≡ []
unfolding run_of
run-first es e zero = refl
run-first es e (suc k) = ap (λ (x : Put). with_input x.input (run_of es k x.from)) e ∙ run-first es e k

module _ (r : Reversed) where
  pub record Mirrors (s : Search) (ts : List Trail) : Type 0 where
    pub size : length s.entries ≡ length ts
    pub filled : 0 < length ts
    pub zeroth : at ts 0 ≡ []
    pub told : (i : ℕ) → Told s.entries ts i
    pub in_heap : (i : ℕ) → i ∈ s.heap → i < length ts
    pub in_list : (i : ℕ) → i ∈ s.listed → i < length ts
    pub order : Ordered (before r s.entries) s.heap

  -- ---- one entry more
  order-more : (es : List Put) (e : Put) (h : List ℕ) → ((i : ℕ) → i ∈ h → i < length es) → Ordered (before r es) h → Ordered (before r (es ++ (e ∷ []))) h
  order-more es e h b o j p q = record {
    not-before =
        ap₂ (λ (x y : Put). precedes r x.entry y.entry) (get_or-append es (e ∷ []) first (get_or h j 0) (b (get_or h j 0) (get_or-mem h j 0 q)))
        (get_or-append es (e ∷ []) first (get_or h ((j - 1) / 2) 0) (b (get_or h ((j - 1) / 2) 0) (get_or-mem h ((j - 1) / 2) 0 (omega arith))))
        ∙ (o j p q).not-before;
  }

  module _ (s : Search) (ts : List Trail) (i : Mirrors s ts) (e : Put) (m : Move) (known : e.from < length ts)
      (entry : e.entry ≡ entry_of (m ∷ at ts e.from)) (input : e.input ≡ input_by m) where
    abbrev one_more : List Trail
    one_more = ts ++ ((m ∷ at ts e.from) ∷ [])

    long : length one_more ≡ length ts + 1
    long = length-append ts ((m ∷ at ts e.from) ∷ [])

    abbrev es : List Put
    es = s.entries ++ (e ∷ [])

    told-put : (j : ℕ) → Told es one_more j
    told-put j = go (ℕ_discrete j (length ts)) (split_at j (length ts))
      where
        new : j ≡ length ts → Told es one_more j
        new z =
            let p : get_or es j first ≡ e = get_or_at s.entries e [] first j (i.size ∙ sym z) in
            let t : at one_more j ≡ m ∷ at ts e.from = get_or_at ts (m ∷ at ts e.from) [] [] j (sym z) in
            record {
              entry = ap (λ (x : Put). x.entry) p ∙ entry ∙ ap entry_of (sym t);
              input = ap (λ (x : Put). x.input) p ∙ input ∙ ap last_input (sym t);
              from = ap (λ (x : Put). at one_more x.from) p ∙ get_or-append ts ((m ∷ at ts e.from) ∷ []) [] e.from known ∙ ap tail (sym t);
              earlier = omega (arith, ap (λ (x : Put). x.from) p, z);
            }

        old : j < length ts → Told es one_more j
        old b =
            let k = i.told j in
            let p : get_or es j first ≡ get_or s.entries j first = get_or-append s.entries (e ∷ []) first j (omega (arith, i.size)) in
            let t : at one_more j ≡ at ts j = get_or-append ts ((m ∷ at ts e.from) ∷ []) [] j b in
            let f : (get_or es j first).from ≡ (get_or s.entries j first).from = ap (λ (x : Put). x.from) p in
            record {
              entry = ap (λ (x : Put). x.entry) p ∙ k.entry ∙ ap entry_of (sym t);
              input = ap (λ (x : Put). x.input) p ∙ k.input ∙ ap last_input (sym t);
              from = ap (at one_more) f ∙ get_or-append ts ((m ∷ at ts e.from) ∷ []) [] (get_or s.entries j first).from (omega (arith, k.earlier)) ∙ k.from ∙ ap tail (sym t);
              earlier = omega (arith, f, k.earlier);
            }

        past : length ts < j → Told es one_more j
        past b =
            let p : get_or es j first ≡ first = get_or-eq_default es first (omega (arith, length-append s.entries (e ∷ []), i.size)) in
            let t : at one_more j ≡ [] = get_or-eq_default one_more [] (omega (arith, long)) in
            record {
              entry = ap (λ (x : Put). x.entry) p ∙ ap entry_of (sym t);
              input = ap (λ (x : Put). x.input) p ∙ ap last_input (sym t);
              from = ap (λ (x : Put). at one_more x.from) p ∙ get_or-append ts ((m ∷ at ts e.from) ∷ []) [] 0 i.filled ∙ i.zeroth ∙ ap tail (sym t);
              earlier = omega (arith, ap (λ (x : Put). x.from) p);
            }

        go : Dec (j ≡ length ts) → (j < length ts) ⊎ (length ts ≤ j) → Told es one_more j
        go (yes z) d = new z
        go (no z) (inl b) = old b
        go (no z) (inr b) = past (omega (arith, z))

    into-heap : (j : ℕ) → j ∈ pushed (before r es) (length s.entries) s.heap → (j ≡ length s.entries) ⊎ j ∈ s.heap
    into-heap j h = Memᴰ.cases_cons (perm-mem (pushed-keeps (before r es) (length s.entries) s.heap) h)

    mirrors-put : Mirrors (put r e s) one_more
    mirrors-put = record {
      size = omega (arith, length-append s.entries (e ∷ []), i.size, long);
      filled = omega (arith, long);
      zeroth = get_or-append ts ((m ∷ at ts e.from) ∷ []) [] 0 i.filled ∙ i.zeroth;
      told = told-put;
      in_heap = λ j h. elim (into-heap j h) [ inl z ↦ omega (arith, z, i.size, long) | inr q ↦ omega (arith, i.in_heap j q, long) ];
      in_list = λ j h. omega (arith, i.in_list j h, long);
      order = pushed-ordered (before r es) (entries-strict r es) (length s.entries) s.heap (order-more s.entries e s.heap (λ j h. omega (arith, i.in_heap j h, i.size)) i.order);
    }

    heap-put : Perm (map (at one_more) (put r e s).heap) ((m ∷ at ts e.from) ∷ map (at ts) s.heap)
    heap-put =
        thru (perm-map (at one_more) (pushed-keeps (before r es) (length s.entries) s.heap))
        (perm-eq (ap₂ ◌∷◌ (get_or_at ts (m ∷ at ts e.from) [] [] (length s.entries) (sym i.size)) (map_same (at one_more) (at ts) s.heap (λ j h. get_or-append ts ((m ∷ at ts e.from) ∷ []) [] j (i.in_heap j h)))))

  -- ---- all the moves from one trail
  -- how entry x, at cost c, puts in a move
  abbrev pub put_by : ℕ → Tropical → Move → Put
  put_by x c m = record { from = x; input = input_by m; entry = entry_at (lands m) (c ⊗ weigh m) }

  pub expansion-moves : (x v : ℕ) (c : Tropical) → expansion r x v c ≡ map (put_by x c) (moves_from r v)
  expansion-moves x v c = ap₂ ◌++◌ (sym (map-map (put_by x c) back (r.out v))) (go (r.ends v)) ∙ sym (map-append (put_by x c) (map back (r.out v)) (cond (r.ends v) (stop ∷ []) []))
    where
      go : (q : Bool) → cond q (record { from = x; input = none; entry = finished c } ∷ []) [] ≡ map (put_by x c) (cond q (stop ∷ []) [])
      go true = ap (λ k. record { from = x; input = none; entry = finished k } ∷ []) (sym (⊗-one c))
      go false = refl

  -- what else the search has stays as it was
  pub put_all-keeps : (es : List Put) (s : Search) → ((put_all r es s).visits ≡ s.visits) × ((put_all r es s).listed ≡ s.listed) × ((put_all r es s).taken ≡ s.taken)
  put_all-keeps [] s = (refl, refl, refl)
  put_all-keeps (e ∷ es) s = put_all-keeps es (put r e s)

  -- z is s with these trails put in
  pub record Grown (s z : Search) (ts us : List Trail) : Type 0 where
    pub mirrors : Mirrors z (ts ++ us)
    pub heap : Perm (map (at (ts ++ us)) z.heap) (us ++ map (at ts) s.heap)

  pub puts : (ms : List Move) (x : ℕ) (t : Trail) (s : Search) (ts : List Trail) → Mirrors s ts → x < length ts → at ts x ≡ t → Grown s (put_all r (map (put_by x (cost t)) ms) s) ts (map (λ m. m ∷ t) ms)
  puts [] x t s ts i b e = record {
    mirrors = subst (Mirrors s) (sym (append-nil ts)) i;
    heap = perm-eq (ap (λ l. map (at l) s.heap) (append-nil ts));
  }
  puts (m ∷ ms) x t s ts i b e =
      let w = m ∷ at ts x in
      let us = map (λ m. m ∷ t) ms in
      let shaped : entry_at (lands m) (cost t ⊗ weigh m) ≡ entry_of (m ∷ at ts x) = ap (λ y. entry_of (m ∷ y)) (sym e) in
      let g = puts ms x t (put r (put_by x (cost t) m) s) (ts ++ (w ∷ [])) (mirrors-put s ts i (put_by x (cost t) m) m b shaped refl) (omega (arith, length-append ts (w ∷ []))) (get_or-append ts (w ∷ []) [] x b ∙ e) in
      let same : ts ++ (w ∷ []) ++ us ≡ ts ++ ((m ∷ t) ∷ us) = append_assoc ts (w ∷ []) us ∙ ap (λ y. ts ++ ((m ∷ y) ∷ us)) e in
      record {
        mirrors = subst (Mirrors _) same g.mirrors;
        heap = thru (perm-eq (ap (λ l. map (at l) (put_all r (map (put_by x (cost t)) (m ∷ ms)) s).heap) (sym same)))
            (thru g.heap (thru (perm-left us (heap-put s ts i (put_by x (cost t) m) m b shaped refl))
            (thru (perm_middle us w (map (at ts) s.heap)) (perm-eq (ap (λ y. (m ∷ y) ∷ (us ++ map (at ts) s.heap)) e)))));
      }

  -- the first entry is as it was begun
  pub first-is : (s : Search) (ts : List Trail) → Mirrors s ts → get_or s.entries 0 first ≡ first
  first-is s ts i = λ k. record { from = from k; input = ((i.told 0).input ∙ ap last_input i.zeroth) k; entry = ((i.told 0).entry ∙ ap entry_of i.zeroth) k }
    where
      from : (get_or s.entries 0 first).from ≡ 0
      from = omega (arith, (i.told 0).earlier)

  -- ---- the run of an entry is that of its trail
  module _ (s : Search) (ts : List Trail) (n : Mirrors s ts) where
    abbrev up : ℕ → ℕ
    up i = (get_or s.entries i first).from

    by_last : (u : Trail) → with_input (last_input u) (inputs (tail u)) ≡ inputs u
    by_last [] = refl
    by_last (m ∷ u) = refl

    pub run_is : (k i : ℕ) → i < k → run_of s.entries k i ≡ inputs (at ts i)
    unfolding run_of
    run_is zero i b = absurd (omega arith)
    run_is (suc k) i b = go (ℕ_discrete i 0) (run_is k (up i))
      where
        go : Dec (i ≡ 0) → (up i < k → run_of s.entries k (up i) ≡ inputs (at ts (up i))) → run_of s.entries (suc k) i ≡ inputs (at ts i)
        go (yes e) ih = ap (run_of s.entries (suc k)) e ∙ run-first s.entries (first-is s ts n) (suc k) ∙ sym (ap inputs (ap (at ts) e ∙ n.zeroth))
        go (no e) ih = ap₂ with_input (n.told i).input (ih (omega (arith, (n.told i).earlier, e)) ∙ ap inputs (n.told i).from) ∙ by_last (at ts i)
