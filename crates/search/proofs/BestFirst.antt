-- Best-first search over trails, each node expanded at most n times: what is not listed when it ends is no cheaper than anything that is. Assumes nothing.
use mathlib.Core.Path.{◌≡◌, refl, sym, ap, ◌∙◌, subst}
use mathlib.Core.Logic.{◌⊎◌, inl, inr}
use mathlib.Core.Bool.{Bool, true, false}
use mathlib.Core.Option.{Option, none, some}
use mathlib.Core.List.Memᴰ
use mathlib.Core.List.{List, [], ◌∷◌, ◌++◌, map, append-nil, append_assoc}
use Prim.Native.Nat.{ℕ, zero, suc, ◌≤◌}
use native.Mathlib.Omega.{arith}
use lib.ListN.{length, length-map}
use Rattle.tropical_weight.specs.Tropical.{Tropical, fin, inf, ◌≼◌}
use Rattle.tropical_weight.proofs.Semiring.{is_finite, ≼-eq, ≼_trans, ≼-fin}
use Rattle.sheet.proofs.Apart.{not-both}
use Rattle.machine.specs.Demand.{◌∈◌, NoDup}
use Rattle.machine.proofs.Lists.{Perm, thru, perm-eq, perm-mem, perm-sym, perm-nodup, perm-left, perm-right, perm_middle, here, mem-eq, map-mem, mem-map, map-append, nodup_append, nodup-map, nodup-length, nodup-fills, each_or, keep, keep-mem, mem-keep}
use Rattle.machine.proofs.Sort.{Ordered, ordered-snoc}
use Rattle.search.specs.Reversed.{Reversed}
use Rattle.search.proofs.Trails.{Move, Trail, site, play, play-inj, play-site, moves, moves-once, rank_of, Made, Legal, Consistent, plays, rank_step, rank-play, exchange}

-- what became of a trail that was taken: dropped is half-built and not expanded, barred is finished at infinity
pub data Fate : Type 0 where
  expanded : Fate
  dropped : Fate
  listed : Fate
  barred : Fate

pub record Taken : Type 0 where
  pub trail : Trail
  pub fate : Fate

abbrev pub took : Trail → Fate → Taken
took t f = record { trail = t; fate = f }

abbrev pub trails_of : List Taken → List Trail
trails_of ds = map (λ (d : Taken). d.trail) ds

abbrev pub is_listed : Taken → Bool
is_listed d = elim d.fate [ expanded ↦ false | dropped ↦ false | listed ↦ true | barred ↦ false ]

-- those that were listed, in order
abbrev pub listed_of : List Taken → List Trail
listed_of ds = trails_of (keep is_listed ds)

-- the trails that wait, in no order, and those that were taken, in order
pub record State : Type 0 where
  pub waiting : List Trail
  pub taken : List Taken

-- all that were put in
abbrev pub put_in : State → List Trail
put_in g = g.waiting ++ trails_of g.taken

-- what is at most something finite is finite
finite-le : {a b : Tropical} → a ≼ b → is_finite b ≡ true → is_finite a ≡ true
finite-le {a} {b} h f = go b h f
  where
    go : (c : Tropical) → a ≼ c → is_finite c ≡ true → is_finite a ≡ true
    go (fin k) h f = ap is_finite (≼-fin a k h).1
    go inf h f = let z : ◌≡◌ {A = ℕ} 0 1 = cc in absurd (omega arith)

abbrev pub Open : Trail → Type 0
Open t = (v : ℕ) × (site t ≡ some v)

not-open : {A : Type 0} (t : Trail) → Open t → site t ≡ none → A
not-open t o e = let h = o.1 in let z : ◌≡◌ {A = ℕ} 0 1 = cc in absurd (omega arith)

listed-took : (ds : List Taken) {t : Trail} → took t listed ∈ ds → t ∈ listed_of ds
listed-took ds h = map-mem (λ (d : Taken). d.trail) (mem-keep is_listed ds h refl)

pub took-listed : (ds : List Taken) {t : Trail} → t ∈ listed_of ds → took t listed ∈ ds
took-listed ds {t} h = let x = mem-map (λ (d : Taken). d.trail) (keep is_listed ds) h in let y = keep-mem is_listed ds x.1 in go x.0 y.0 y.1 x.2
  where
    go : (d : Taken) → d ∈ ds → is_listed d ≡ true → t ≡ d.trail → took t listed ∈ ds
    go d m e q = kind d.fate refl e
      where
        kind : (f : Fate) → d.fate ≡ f → elim f [ expanded ↦ false | dropped ↦ false | listed ↦ true | barred ↦ false ] ≡ true → took t listed ∈ ds
        kind expanded k z = let w : ◌≡◌ {A = ℕ} 0 1 = cc in absurd (omega arith)
        kind dropped k z = let w : ◌≡◌ {A = ℕ} 0 1 = cc in absurd (omega arith)
        kind barred k z = let w : ◌≡◌ {A = ℕ} 0 1 = cc in absurd (omega arith)
        kind listed k z = mem-eq (λ i. record { trail = sym q i; fate = k i }) m

module _ (r : Reversed) (n : ℕ) where
  -- n expanded trails at the node of u that rank no later
  pub record Peers (ds : List Taken) (u : Trail) : Type 0 where
    pub all : List Trail
    pub size : length all ≡ n
    pub apart : NoDup all
    pub were : (e : Trail) → e ∈ all → took e expanded ∈ ds
    pub same : (e : Trail) → e ∈ all → site e ≡ site u
    pub low : (e : Trail) → e ∈ all → rank_of r e ≼ rank_of r u

  -- what a fate asks of a trail: none is dropped before n at its node were expanded
  abbrev pub Fits : List Taken → Trail → Fate → Type 0
  Fits ds t expanded = Open t
  Fits ds t dropped = Open t × Peers ds t
  Fits ds t listed = (site t ≡ none) × (is_finite (rank_of r t) ≡ true)
  Fits ds t barred = (site t ≡ none) × (is_finite (rank_of r t) ≡ false)

  pub record Sound (g : State) : Type 0 where
    -- no trail was put in twice
    pub once : NoDup (put_in g)
    pub first : [] ∈ put_in g
    -- each other one came from an expanded one
    pub from : (m : Move) (t : Trail) → (m ∷ t) ∈ put_in g → (took t expanded ∈ g.taken) × (m ∈ moves r (site t))
    -- whose moves were all put in
    pub all-moves : (m : Move) (t : Trail) → took t expanded ∈ g.taken → m ∈ moves r (site t) → (m ∷ t) ∈ put_in g
    -- what waits ranks no lower than what was taken, and that was taken in order
    pub low : (t u : Trail) → t ∈ trails_of g.taken → u ∈ g.waiting → rank_of r t ≼ rank_of r u
    pub order : Ordered (map (rank_of r) (trails_of g.taken))
    pub fits : (t : Trail) (f : Fate) → took t f ∈ g.taken → Fits g.taken t f

  -- ---- what becomes of the end of a trail
  -- it is listed, or the end of one that waits
  pub data Safe (g : State) (z : Trail) : Type 0 where
    on_list : took z listed ∈ g.taken → Safe g z
    to-come : (u : Trail) (p : List Move) → u ∈ g.waiting → Legal r (site u) p → play u p ≡ z → Safe g z

  -- or of one that was dropped, at most k moves before
  pub record Lost (g : State) (k : ℕ) (z : Trail) : Type 0 where
    pub at : Trail
    pub rest : List Move
    pub was : took at dropped ∈ g.taken
    pub legal : Legal r (site at) rest
    pub short : length rest ≤ k
    pub ends : play at rest ≡ z

  -- n different safe ends that rank no later than c
  pub record Cover (g : State) (c : Tropical) : Type 0 where
    pub all : List Trail
    pub size : length all ≡ n
    pub apart : NoDup all
    pub safe : (e : Trail) → e ∈ all → Safe g e
    pub low : (e : Trail) → e ∈ all → rank_of r e ≼ c

  placed : (g : State) {t : Trail} → t ∈ put_in g → (t ∈ g.waiting) ⊎ ((f : Fate) × (took t f ∈ g.taken))
  placed g {t} h = elim (Memᴰ.append_cases g.waiting h) [
    | inl q ↦ inl q
    | inr q ↦ let x = mem-map (λ (d : Taken). d.trail) g.taken q in inr (x.0.fate, mem-eq (λ i. record { trail = sym x.2 i; fate = x.0.fate }) x.1)
  ]

  trail-of : {ds : List Taken} {t : Trail} {f : Fate} → took t f ∈ ds → t ∈ trails_of ds
  trail-of h = map-mem (λ (d : Taken). d.trail) h

  module _ (c : Consistent r) (g : State) (i : Sound g) where
    pub made : (t : Trail) → t ∈ put_in g → Made r t
    made [] h = tt
    made (m ∷ t) h = let x = i.from m t h in (x.1, made t (Memᴰ.append_right g.waiting (trail-of x.0)))

    longer : {k : ℕ} {z : Trail} → Safe g z ⊎ Lost g k z → Safe g z ⊎ Lost g (suc k) z
    longer (inl s) = inl s
    longer (inr l) = inr (record { at = l.at; rest = l.rest; was = l.was; legal = l.legal; short = omega (arith, l.short); ends = l.ends })

    no_move : {A : Type 0} {s : Option ℕ} {m : Move} → s ≡ none → m ∈ moves r s → A
    no_move {m} e h = absurd (Memᴰ.not-nil (subst (λ s. m ∈ moves r s) e h))

    fate : (p : List Move) (t : Trail) → t ∈ put_in g → Legal r (site t) p → site (play t p) ≡ none → is_finite (rank_of r (play t p)) ≡ true → Safe g (play t p) ⊎ Lost g (length p) (play t p)
    fate [] t h l o b = go (placed g h)
      where
        go : (t ∈ g.waiting) ⊎ ((f : Fate) × (took t f ∈ g.taken)) → Safe g t ⊎ Lost g 0 t
        go (inl w) = inl (to-come t [] w tt refl)
        go (inr (expanded, q)) = not-open t (i.fits t expanded q) o
        go (inr (dropped, q)) = not-open t (i.fits t dropped q).0 o
        go (inr (listed, q)) = inl (on_list q)
        go (inr (barred, q)) = absurd (not-both b (i.fits t barred q).1)
    fate (m ∷ p) t h l o b = go (placed g h) (λ q. fate p (m ∷ t) q l.1 o b)
      where
        go : (t ∈ g.waiting) ⊎ ((f : Fate) × (took t f ∈ g.taken)) → ((m ∷ t) ∈ put_in g → Safe g (play (m ∷ t) p) ⊎ Lost g (length p) (play (m ∷ t) p))
            → Safe g (play (m ∷ t) p) ⊎ Lost g (suc (length p)) (play (m ∷ t) p)
        go (inl w) on = inl (to-come t (m ∷ p) w l refl)
        go (inr (expanded, q)) on = longer (on (i.all-moves m t q l.0))
        go (inr (dropped, q)) on = inr (record { at = t; rest = m ∷ p; was = q; legal = l; short = omega arith; ends = refl })
        go (inr (listed, q)) on = no_move (i.fits t listed q).0 l.0
        go (inr (barred, q)) on = no_move (i.fits t barred q).0 l.0

    -- A dropped one does no harm: its peers, played on in its place, or what stands in for those.
    harmless : (k : ℕ) (u : Trail) (p : List Move) → took u dropped ∈ g.taken → Legal r (site u) p → site (play u p) ≡ none → is_finite (rank_of r (play u p)) ≡ true → length p ≤ k → Cover g (rank_of r (play u p))
    harmless zero u [] d l o z b = not-open u (i.fits u dropped d).0 o
    harmless zero u (m ∷ p) d l o z b = absurd (omega arith)
    harmless (suc k) u [] d l o z b = not-open u (i.fits u dropped d).0 o
    harmless (suc k) u (m ∷ p) d l o z b = go (each_or q.all each) (λ v o. harmless k v o)
      where
        q : Peers g.taken u
        q = (i.fits u dropped d).1

        over : (e : Trail) → e ∈ q.all → site (play e (m ∷ p)) ≡ none
        over e h = play-site (m ∷ p) e u (q.same e h) ∙ o

        less : (e : Trail) → e ∈ q.all → rank_of r (play e (m ∷ p)) ≼ rank_of r (play u (m ∷ p))
        less e h = exchange r c (m ∷ p) e u (q.same e h) (q.low e h) l o

        cheap : (e : Trail) → e ∈ q.all → is_finite (rank_of r (play e (m ∷ p))) ≡ true
        cheap e h = finite-le (less e h) z

        each : (e : Trail) → e ∈ q.all → Safe g (play e (m ∷ p)) ⊎ ((x : Trail) × (x ∈ q.all) × Lost g (length p) (play x (m ∷ p)))
        each e h = elim (fate p (m ∷ e) (i.all-moves m e (q.were e h) (subst (λ s. m ∈ moves r s) (sym (q.same e h)) l.0)) l.1 (over e h) (cheap e h)) [
          | inl s ↦ inl s
          | inr w ↦ inr (e, h, w)
        ]

        go : ((e : Trail) → e ∈ q.all → Safe g (play e (m ∷ p))) ⊎ ((x : Trail) × (x ∈ q.all) × Lost g (length p) (play x (m ∷ p)))
            → ((v : Trail) (o : List Move) → took v dropped ∈ g.taken → Legal r (site v) o → site (play v o) ≡ none → is_finite (rank_of r (play v o)) ≡ true → length o ≤ k → Cover g (rank_of r (play v o)))
            → Cover g (rank_of r (play u (m ∷ p)))
        go (inr (e, h, w)) ih =
            let x = ih w.at w.rest w.was w.legal (ap site w.ends ∙ over e h) (ap (λ y. is_finite (rank_of r y)) w.ends ∙ cheap e h) (omega (arith, w.short)) in
            record { all = x.all; size = x.size; apart = x.apart; safe = x.safe; low = λ y j. ≼_trans (x.low y j) (≼_trans (≼-eq (ap (rank_of r) w.ends)) (less e h)) }
        go (inl f) ih = record {
          all = map (λ e. play e (m ∷ p)) q.all;
          size = length-map q.all (λ e. play e (m ∷ p)) ∙ q.size;
          apart = nodup-map (λ e. play e (m ∷ p)) q.all (λ a b e. play-inj (m ∷ p) e) q.apart;
          safe = λ z h. let x = mem-map (λ e. play e (m ∷ p)) q.all h in subst (Safe g) (sym x.2) (f x.0 x.1);
          low = λ z h. let x = mem-map (λ e. play e (m ∷ p)) q.all h in ≼_trans (≼-eq (ap (rank_of r) x.2)) (less x.0 x.1);
        }

    -- ---- when it ends: nothing waits, or n are listed
    module _ (over : (g.waiting ≡ []) ⊎ (n ≤ length (listed_of g.taken))) (few : length (listed_of g.taken) ≤ n) where
      -- the end is listed; or n are, none of which ranks later
      abbrev pub Settled : Trail → Type 0
      Settled z = (z ∈ listed_of g.taken) ⊎ ((n ≤ length (listed_of g.taken)) × ((x : Trail) → x ∈ listed_of g.taken → rank_of r x ≼ rank_of r z))

      full : {u : Trail} → u ∈ g.waiting → n ≤ length (listed_of g.taken)
      full {u} h = elim over [ inl e ↦ absurd (Memᴰ.not-nil (subst (λ l. u ∈ l) e h)) | inr q ↦ q ]

      -- one that waits is behind all that are listed
      behind : (u x : Trail) (p : List Move) → u ∈ g.waiting → Legal r (site u) p → x ∈ listed_of g.taken → rank_of r x ≼ rank_of r (play u p)
      behind u x p w l h = ≼_trans (i.low x u (trail-of (took-listed g.taken h)) w) (rank-play r c p u l)

      settled : (p : List Move) → Legal r (some 0) p → site (play [] p) ≡ none → is_finite (rank_of r (play [] p)) ≡ true → Settled (play [] p)
      settled p l o f = go (fate p [] i.first l o f)
        where
          covered : Lost g (length p) (play [] p) → Cover g (rank_of r (play [] p))
          covered w =
              let x = harmless (length p) w.at w.rest w.was w.legal (ap site w.ends ∙ o) (ap (λ y. is_finite (rank_of r y)) w.ends ∙ f) w.short in
              record { all = x.all; size = x.size; apart = x.apart; safe = x.safe; low = λ y j. ≼_trans (x.low y j) (≼-eq (ap (rank_of r) w.ends)) }

          safe : (z : Trail) → rank_of r z ≼ rank_of r (play [] p) → Safe g z → (z ∈ listed_of g.taken) ⊎ Settled (play [] p)
          safe z h (on_list q) = inl (listed-took g.taken q)
          safe z h (to-come u s w a e) = inr (inr (full w, λ x j. ≼_trans (behind u x s w a j) (≼_trans (≼-eq (ap (rank_of r) e)) h)))

          by : (k : Cover g (rank_of r (play [] p))) → ((e : Trail) → e ∈ k.all → e ∈ listed_of g.taken) ⊎ Settled (play [] p) → Settled (play [] p)
          by k (inr s) = s
          by k (inl a) = inr (
            omega (arith, nodup-length k.all (listed_of g.taken) k.apart a, k.size),
            λ x j. k.low x (nodup-fills k.all (listed_of g.taken) k.apart a (omega (arith, k.size, few)) x j),
          )

          go : Safe g (play [] p) ⊎ Lost g (length p) (play [] p) → Settled (play [] p)
          go (inl s) = elim (safe (play [] p) (≼-eq refl) s) [ inl q ↦ inl q | inr q ↦ q ]
          go (inr w) = let k = covered w in by k (each_or k.all (λ e h. safe e (k.low e h) (k.safe e h)))

      -- so for every end of finite cost that can be made
      pub all_settled : (t : Trail) → Made r t → site t ≡ none → is_finite (rank_of r t) ≡ true → Settled t
      all_settled t h o f = let x = plays r t h in subst Settled x.2 (settled x.0 x.1 (ap site x.2 ∙ o) (ap (λ y. is_finite (rank_of r y)) x.2 ∙ f))

  -- ---- one is taken
  -- what it puts in
  abbrev pub born : Fate → Trail → List Trail
  born expanded x = map (λ m. m ∷ x) (moves r (site x))
  born dropped x = []
  born listed x = []
  born barred x = []

  abbrev pub taking : Fate → Trail → List Trail → List Taken → State
  taking f x ws ds = record { waiting = born f x ++ ws; taken = ds ++ (took x f ∷ []) }

  -- at the start only the first waits
  pub sound-first : Sound (record { waiting = [] ∷ []; taken = [] })
  sound-first = record {
    once = (λ h. Memᴰ.not-nil h, tt);
    first = here [] [];
    from = λ m t h. elim (Memᴰ.cases_cons h) [ inl e ↦ absurd (omega (arith, ap length e)) | inr q ↦ absurd (Memᴰ.not-nil q) ];
    all-moves = λ m t h k. absurd (Memᴰ.not-nil h);
    low = λ t u h k. absurd (Memᴰ.not-nil h);
    order = tt;
    fits = λ t f h. absurd (Memᴰ.not-nil h);
  }

  pub sound-perm : {ws us : List Trail} {ds : List Taken} → Perm ws us → Sound (record { waiting = ws; taken = ds }) → Sound (record { waiting = us; taken = ds })
  sound-perm {ws} {us} {ds} p i = record {
    once = perm-nodup q i.once;
    first = perm-mem q i.first;
    from = λ m t h. i.from m t (perm-mem (perm-sym q) h);
    all-moves = λ m t h k. perm-mem q (i.all-moves m t h k);
    low = λ t u h k. i.low t u h (perm-mem (perm-sym p) k);
    order = i.order;
    fits = i.fits;
  }
    where
      q : Perm (ws ++ trails_of ds) (us ++ trails_of ds)
      q = perm-right (trails_of ds) p

  -- what was put in, and what is put in now
  pub put-taking : (f : Fate) (x : Trail) (ws : List Trail) (ds : List Taken) → Perm (put_in (taking f x ws ds)) (born f x ++ (x ∷ (ws ++ trails_of ds)))
  put-taking f x ws ds =
      thru (perm-eq (append_assoc (born f x) ws (trails_of (ds ++ (took x f ∷ []))) ∙ ap (λ l. born f x ++ l) (ap (λ l. ws ++ l) (map-append (λ (d : Taken). d.trail) ds (took x f ∷ [])) ∙ sym (append_assoc ws (trails_of ds) (x ∷ [])))))
      (perm-left (born f x) (thru (perm_middle (ws ++ trails_of ds) x []) (perm-eq (ap (λ l. x ∷ l) (append-nil (ws ++ trails_of ds))))))

  module _ (c : Consistent r) (f : Fate) (x : Trail) (ws : List Trail) (ds : List Taken) (i : Sound (record { waiting = x ∷ ws; taken = ds }))
      (least : (t : Trail) → t ∈ ws → rank_of r x ≼ rank_of r t) (fit : Fits ds x f) where
    abbrev was : List Trail
    was = x ∷ (ws ++ trails_of ds)

    both : Perm (put_in (taking f x ws ds)) (born f x ++ was)
    both = put-taking f x ws ds

    is-born : (g : Fate) (t : Trail) → t ∈ born g x → (m : Move) × (m ∈ moves r (site x)) × (t ≡ m ∷ x) × (g ≡ expanded)
    is-born expanded t h = let y = mem-map (λ m. m ∷ x) (moves r (site x)) h in (y.0, y.1, y.2, refl)
    is-born dropped t h = absurd (Memᴰ.not-nil h)
    is-born listed t h = absurd (Memᴰ.not-nil h)
    is-born barred t h = absurd (Memᴰ.not-nil h)

    born-once : (g : Fate) → NoDup (born g x)
    born-once expanded = nodup-map (λ m. m ∷ x) (moves r (site x)) (λ a b e. cc) (moves-once r c (site x))
    born-once dropped = tt
    born-once listed = tt
    born-once barred = tt

    -- x waited, so that nothing has come from it
    fresh : (t : Trail) → t ∈ born f x → t ∈ was → ⊥
    fresh t h k =
        let y = is-born f t h in
        i.once.0 (Memᴰ.append_right ws (trail-of (i.from y.0 x (mem-eq y.2 k)).0))

    old : {t : Trail} {g : Fate} → took t g ∈ (ds ++ (took x f ∷ [])) → (took t g ∈ ds) ⊎ ((t ≡ x) × (g ≡ f))
    old {t} {g} h = elim (Memᴰ.append_cases ds h) [ inl q ↦ inl q | inr q ↦ let e = Memᴰ.eq_of_singleton q in inr (ap (λ (d : Taken). d.trail) e, ap (λ (d : Taken). d.fate) e) ]

    under : (t : Trail) → t ∈ trails_of (ds ++ (took x f ∷ [])) → rank_of r t ≼ rank_of r x
    under t h = elim (Memᴰ.append_cases (trails_of ds) (subst (λ l. t ∈ l) (map-append (λ (d : Taken). d.trail) ds (took x f ∷ [])) h)) [
      | inl q ↦ i.low t x q (here x ws)
      | inr q ↦ ≼-eq (ap (rank_of r) (Memᴰ.eq_of_singleton q))
    ]

    over : (u : Trail) → u ∈ (born f x ++ ws) → rank_of r x ≼ rank_of r u
    over u h = elim (Memᴰ.append_cases (born f x) h) [
      | inl q ↦ let y = is-born f u q in ≼_trans (rank_step r c y.0 x y.1) (≼-eq (ap (rank_of r) (sym y.2)))
      | inr q ↦ least u q
    ]

    more : {t : Trail} {g : Fate} → took t g ∈ ds → took t g ∈ (ds ++ (took x f ∷ []))
    more h = Memᴰ.append_left (took x f ∷ []) h

    fits_more : (t : Trail) (g : Fate) → Fits ds t g → Fits (ds ++ (took x f ∷ [])) t g
    fits_more t expanded h = h
    fits_more t dropped h = (h.0, record { all = h.1.all; size = h.1.size; apart = h.1.apart; were = λ e q. more (h.1.were e q); same = h.1.same; low = h.1.low })
    fits_more t listed h = h
    fits_more t barred h = h

    pub sound-taking : Sound (taking f x ws ds)
    sound-taking = record {
      once = perm-nodup (perm-sym both) (nodup_append (born f x) was (born-once f) i.once fresh);
      first = perm-mem (perm-sym both) (Memᴰ.append_right (born f x) i.first);
      from = λ m t h. elim (Memᴰ.append_cases (born f x) (perm-mem both h)) [
        | inl q ↦ came m t (is-born f (m ∷ t) q)
        | inr q ↦ let y = i.from m t q in (more y.0, y.1)
      ];
      all-moves = λ m t h k. perm-mem (perm-sym both) (elim (old h) [
        | inl q ↦ Memᴰ.append_right (born f x) (i.all-moves m t q k)
        | inr q ↦ Memᴰ.append_left was (subst (λ g. (m ∷ t) ∈ born g x) q.1 (mem-eq (ap (λ y. m ∷ y) (sym q.0)) (map-mem (λ y. y ∷ x) (subst (λ y. m ∈ moves r (site y)) q.0 k))))
      ]);
      low = λ t u h k. ≼_trans (under t h) (over u k);
      order = subst Ordered (sym (ap (map (rank_of r)) (map-append (λ (d : Taken). d.trail) ds (took x f ∷ [])) ∙ map-append (rank_of r) (trails_of ds) (x ∷ [])))
          (ordered-snoc (map (rank_of r) (trails_of ds)) (rank_of r x) i.order (λ a h. let y = mem-map (rank_of r) (trails_of ds) h in ≼_trans (≼-eq y.2) (i.low y.0 x y.1 (here x ws))));
      fits = λ t g h. elim (old h) [ inl q ↦ fits_more t g (i.fits t g q) | inr q ↦ fits_more t g (subst (λ y. Fits ds y g) (sym q.0) (subst (Fits ds x) (sym q.1) fit)) ];
    }
      where
        came : (m : Move) (t : Trail) → (k : Move) × (k ∈ moves r (site x)) × (m ∷ t ≡ k ∷ x) × (f ≡ expanded) → (took t expanded ∈ (ds ++ (took x f ∷ []))) × (m ∈ moves r (site t))
        came m t y =
            let e = y.2 in
            let a : t ≡ x = cc in
            let b : m ≡ y.0 = cc in
            (Memᴰ.append_right ds (Memᴰ.head (λ i. record { trail = a i; fate = sym y.3 i })), subst (λ z. m ∈ moves r (site z)) (sym a) (mem-eq (sym b) y.1))
