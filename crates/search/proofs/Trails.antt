-- Trails: the moves by which an entry was made. Ranks never fall along one, and of two at a node the lower stays the lower. Assumes nothing.
use mathlib.Core.Path.{◌≡◌, refl, sym, ap, ◌∙◌, subst}
use mathlib.Core.Logic.{inl, inr}
use mathlib.Core.Bool.{Bool, true, false, cond}
use mathlib.Core.Option.{Option, none, some}
use mathlib.Core.List.Memᴰ
use mathlib.Core.List.{List, [], ◌∷◌, ◌++◌, map}
use Prim.Native.Nat.{ℕ}
use native.Mathlib.Omega.{arith}
use lib.IntN.{ℤ}
use Rattle.tropical_weight.specs.Tropical.{Tropical, fin, inf, one, ◌≼◌, ◌⊗◌}
use Rattle.tropical_weight.proofs.Semiring.{≼_refl, ≼-eq, ≼_trans, ≼-inf, ⊗-comm, ⊗-assoc, one-⊗, ⊗-one, ⊗-mono-left, ⊗-cancel}
use Rattle.machine.specs.Distance.{as_weight}
use Rattle.machine.specs.Demand.{◌∈◌, NoDup}
use Rattle.machine.proofs.Lists.{here, mem-eq, map-mem, mem-map, nodup_append, nodup-map}
use Rattle.search.specs.Reversed.{Back, Reversed}
use Rattle.search.specs.Search.{with_input}

-- along a link of the reversed machine, or finishing
pub data Move : Type 0 where
  back : Back → Move
  stop : Move

-- the node that a move leads to, or none where it finishes
abbrev pub lands : Move → Option ℕ
lands (back b) = some b.next
lands stop = none

abbrev pub weigh : Move → Tropical
weigh (back b) = b.weight
weigh stop = one

abbrev pub input_by : Move → Option ℕ
input_by (back b) = b.input
input_by stop = none

-- the latest move first; the first entry's has none
abbrev pub Trail : Type 0
Trail = List Move

-- the node that a trail stands at, or none where it has finished
abbrev pub site : Trail → Option ℕ
site [] = some 0
site (m ∷ t) = lands m

abbrev pub cost : Trail → Tropical
cost [] = one
cost (m ∷ t) = cost t ⊗ weigh m

-- the input links along a trail
abbrev pub inputs : Trail → List ℕ
inputs [] = []
inputs (m ∷ t) = with_input (input_by m) (inputs t)

-- a trail with more moves, in the order they are made
abbrev pub play : Trail → List Move → Trail
play t [] = t
play t (m ∷ p) = play (m ∷ t) p

pub play-inj : (p : List Move) {t u : Trail} → play t p ≡ play u p → t ≡ u
play-inj [] e = e
play-inj (m ∷ p) {t} {u} e = let q : m ∷ t ≡ m ∷ u = play-inj p e in cc

pub play-site : (p : List Move) (t u : Trail) → site t ≡ site u → site (play t p) ≡ site (play u p)
play-site [] t u e = e
play-site (m ∷ p) t u e = play-site p (m ∷ t) (m ∷ u) refl

play-cost : (p : List Move) (t u : Trail) → cost t ≼ cost u → cost (play t p) ≼ cost (play u p)
play-cost [] t u h = h
play-cost (m ∷ p) t u h = play-cost p (m ∷ t) (m ∷ u) (⊗-mono-left (weigh m) h)

module _ (r : Reversed) where
  -- the moves from a node, in the order that its expansion puts them in
  abbrev pub moves_from : ℕ → List Move
  moves_from v = map back (r.out v) ++ cond (r.ends v) (stop ∷ []) []

  abbrev pub moves : Option ℕ → List Move
  moves none = []
  moves (some v) = moves_from v

  abbrev pub ahead : Option ℕ → Tropical
  ahead none = one
  ahead (some v) = as_weight (r.to_go v)

  abbrev pub rank_of : Trail → Tropical
  rank_of t = ahead (site t) ⊗ cost t

  -- each move is one from where the trail stood
  abbrev pub Made : Trail → Type 0
  Made [] = Unit
  Made (m ∷ t) = (m ∈ moves (site t)) × Made t

  -- the same of moves that are still to be made
  abbrev pub Legal : Option ℕ → List Move → Type 0
  Legal s [] = Unit
  Legal s (m ∷ p) = (m ∈ moves s) × Legal (lands m) p

  -- ---- a move from a node is one of its links, or finishes at the old start
  not_back : (t : Bool) (b : Back) → back b ∈ cond t (stop ∷ []) [] → ⊥
  not_back true b q = let e = Memᴰ.eq_of_singleton q in let z : ◌≡◌ {A = ℕ} 0 1 = cc in omega arith
  not_back false b q = Memᴰ.not-nil q

  pub back_from : (s : Option ℕ) (b : Back) → back b ∈ moves s → (v : ℕ) × (s ≡ some v) × (b ∈ r.out v)
  back_from none b h = absurd (Memᴰ.not-nil h)
  back_from (some v) b h = (
    v,
    refl,
    elim (Memᴰ.append_cases (map back (r.out v)) h) [
      | inl q ↦ let x = mem-map back (r.out v) q in mem-eq (same x.0 x.2) x.1
      | inr q ↦ absurd (not_back (r.ends v) b q)
    ],
  )
    where
      same : (a : Back) → back b ≡ back a → a ≡ b
      same a e = cc

  pub stop-from : (s : Option ℕ) → stop ∈ moves s → (v : ℕ) × (s ≡ some v) × (r.ends v ≡ true)
  stop-from none h = absurd (Memᴰ.not-nil h)
  stop-from (some v) h = (
    v,
    refl,
    elim (Memᴰ.append_cases (map back (r.out v)) h) [
      | inl q ↦ let x = mem-map back (r.out v) q in absurd (no_stop x.0 x.2)
      | inr q ↦ ended (r.ends v) q
    ],
  )
    where
      no_stop : (b : Back) → stop ≡ back b → ⊥
      no_stop b e = let z : ◌≡◌ {A = ℕ} 0 1 = cc in omega arith

      ended : (t : Bool) → stop ∈ cond t (stop ∷ []) [] → t ≡ true
      ended true q = refl
      ended false q = absurd (Memᴰ.not-nil q)

  pub out-moves : (v : ℕ) {b : Back} → b ∈ r.out v → back b ∈ moves (some v)
  out-moves v h = Memᴰ.append_left (cond (r.ends v) (stop ∷ []) []) (map-mem back h)

  pub end-moves : (v : ℕ) → r.ends v ≡ true → stop ∈ moves (some v)
  end-moves v e = Memᴰ.append_right (map back (r.out v)) (subst (λ t. stop ∈ cond t (stop ∷ []) []) (sym e) (here stop []))

  -- what is asked of the distances: no link beats them, and they are at most 0 where a reading may end; and that no link comes twice
  pub record Consistent : Type 0 where
    pub on-link : (v : ℕ) (b : Back) → b ∈ r.out v → as_weight (r.to_go v) ≼ as_weight (r.to_go b.next) ⊗ b.weight
    pub at-end : (v : ℕ) → r.ends v ≡ true → as_weight (r.to_go v) ≼ one
    pub once : (v : ℕ) → NoDup (r.out v)

  pub finished-rank : (t : Trail) → site t ≡ none → rank_of t ≡ cost t
  finished-rank t e = ap (λ s. ahead s ⊗ cost t) e ∙ one-⊗ (cost t)

  -- what is made can be played from the first entry
  play-snoc : (p : List Move) (t : Trail) (m : Move) → play t (p ++ (m ∷ [])) ≡ m ∷ play t p
  play-snoc [] t m = refl
  play-snoc (k ∷ p) t m = play-snoc p (k ∷ t) m

  legal-snoc : (p : List Move) (t : Trail) (m : Move) → Legal (site t) p → m ∈ moves (site (play t p)) → Legal (site t) (p ++ (m ∷ []))
  legal-snoc [] t m l h = (h, tt)
  legal-snoc (k ∷ p) t m l h = (l.0, legal-snoc p (k ∷ t) m l.1 h)

  pub plays : (t : Trail) → Made t → (p : List Move) × Legal (some 0) p × (play [] p ≡ t)
  plays [] q = ([], tt, refl)
  plays (m ∷ t) q =
      let x = plays t q.1 in
      (x.0 ++ (m ∷ []), legal-snoc x.0 [] m x.1 (subst (λ y. m ∈ moves (site y)) (sym x.2) q.0), play-snoc x.0 [] m ∙ ap (λ y. m ∷ y) x.2)

  module _ (c : Consistent) where
    move_step : (s : Option ℕ) (m : Move) → m ∈ moves s → ahead s ≼ ahead (lands m) ⊗ weigh m
    move_step s (back b) h = let x = back_from s b h in ≼_trans (≼-eq (ap ahead x.1)) (c.on-link x.0 b x.2)
    move_step s stop h = let x = stop-from s h in ≼_trans (≼-eq (ap ahead x.1)) (≼_trans (c.at-end x.0 x.2) (≼-eq (sym (⊗-one one))))

    pub moves-once : (s : Option ℕ) → NoDup (moves s)
    moves-once none = tt
    moves-once (some v) =
        nodup_append (map back (r.out v)) (cond (r.ends v) (stop ∷ []) []) (nodup-map back (r.out v) (λ a b e. cc) (c.once v)) (one-stop (r.ends v))
        (λ m p q. let x = mem-map back (r.out v) p in not_back (r.ends v) x.0 (mem-eq x.2 q))
      where
        one-stop : (t : Bool) → NoDup {A = Move} (cond t (stop ∷ []) [])
        one-stop true = (λ q. Memᴰ.not-nil q, tt)
        one-stop false = tt

    -- ---- ranks
    pub rank_step : (m : Move) (t : Trail) → m ∈ moves (site t) → rank_of t ≼ rank_of (m ∷ t)
    rank_step m t h =
        ≼_trans (⊗-mono-left (cost t) (move_step (site t) m h))
        (≼-eq (⊗-assoc (ahead (lands m)) (weigh m) (cost t) ∙ ap (λ k. ahead (lands m) ⊗ k) (⊗-comm (weigh m) (cost t))))

    pub rank-play : (p : List Move) (t : Trail) → Legal (site t) p → rank_of t ≼ rank_of (play t p)
    rank-play [] t h = ≼_refl (rank_of t)
    rank-play (m ∷ p) t h = ≼_trans (rank_step m t h.0) (rank-play p (m ∷ t) h.1)

    -- a finite rank is that of a finite cost on a finite way ahead
    finite-parts : (d a : Tropical) (k : ℤ) → d ⊗ a ≼ fin k → (j : ℤ) × (d ≡ fin j)
    finite-parts (fin j) a k h = (j, refl)
    finite-parts inf a k h = absurd h.le

    cheaper : (d a b : Tropical) (k : ℤ) → d ⊗ a ≼ d ⊗ b → d ⊗ b ≼ fin k → a ≼ b
    cheaper d a b k h l =
        let x = finite-parts d b k l in
        let turn : (y : Tropical) → d ⊗ y ≡ y ⊗ fin x.0 = λ y. ⊗-comm d y ∙ ap (λ z. y ⊗ z) x.1 in
        ⊗-cancel x.0 (≼_trans (≼-eq (sym (turn a))) (≼_trans h (≼-eq (turn b))))

    -- of two trails at one node the lower stays the lower, whatever is played to the end
    pub exchange : (p : List Move) (t u : Trail) → site t ≡ site u → rank_of t ≼ rank_of u → Legal (site u) p → site (play u p) ≡ none → rank_of (play t p) ≼ rank_of (play u p)
    exchange p t u e h l o = go (cost (play u p)) refl
      where
        ended : rank_of (play t p) ≡ cost (play t p)
        ended = finished-rank (play t p) (play-site p t u e ∙ o)

        go : (k : Tropical) → cost (play u p) ≡ k → rank_of (play t p) ≼ rank_of (play u p)
        go inf q = ≼_trans (≼-inf (rank_of (play t p))) (≼-eq (sym (finished-rank (play u p) o ∙ q)))
        go (fin k) q =
            let low : rank_of u ≼ fin k = ≼_trans (rank-play p u l) (≼-eq (finished-rank (play u p) o ∙ q)) in
            let cut : cost t ≼ cost u = cheaper (ahead (site u)) (cost t) (cost u) k (≼_trans (≼-eq (ap (λ s. ahead s ⊗ cost t) (sym e))) h) low in
            ≼_trans (≼-eq ended) (≼_trans (play-cost p t u cut) (≼-eq (sym (finished-rank (play u p) o))))
