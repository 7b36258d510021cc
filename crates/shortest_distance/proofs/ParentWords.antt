-- The two words of a parent: what is stored is read back, and other words keep theirs; and the area after an offer is taken. Assumes nothing.
use mathlib.Core.Path.{◌≡◌, refl, ap, ◌∙◌}
use mathlib.Core.Bool.{Bool, true, false, cond}
use mathlib.Core.List.{List}
use Prim.Native.Nat.{ℕ, ◌+◌, ◌*◌, ◌≤◌, ◌<◌}
use native.Mathlib.Omega.{arith}
use lib.Dec.{eqb}
use lib.ListN.{length, get_or, set, drop, length-set}
use lib.Seq.{get_or-set_same, get_or-set_other, drop-set-lt}
use lib.Ieee.{Float}
use borrow.Author.Tests.{eq-eqb, ne_eqb}
use Rattle.tropical_weight.specs.Limits.{finest}
use Rattle.slots.specs.Slots.{nothing}
use Rattle.machine.specs.Distance as Named
use Rattle.distance.specs.Held.{Distance}
use Rattle.std.specs.Prelude.{Option, None, Some}
use Rattle.distance.specs.Held.{held, distance_in, with_distance}
use Rattle.distance.proofs.Words.{same-words, put_back, put_word, put_other, put-drop, put-length}
use Rattle.shortest_distance.specs.declared.parent.Parent.{Parent}
use Rattle.shortest_distance.specs.ParentWords.{by, parent_in, parent_at, parent_stored}
use Rattle.shortest_distance.specs.NodeSlots.{distance_at, first_word}
use Rattle.shortest_distance.specs.Relaxation.{taken_words}

-- two areas with the same two words hold the same parent
pub same-parent : (a b : List ℕ) (v : ℕ) → get_or a (8 * v + 2) 0 ≡ get_or b (8 * v + 2) 0 → get_or a (8 * v + 3) 0 ≡ get_or b (8 * v + 3) 0 → parent_at a v ≡ parent_at b v
same-parent a b v p q = λ i. parent_in (eqb (p i) nothing) (p i) (q i)

-- ---- a parent stored in slot v
module _ (work : List ℕ) (v : ℕ) where
  -- no other word changes
  pub stored-word : (p : Option Parent) (i : ℕ) → (i ≡ 8 * v + 2 → ⊥) → (i ≡ 8 * v + 3 → ⊥) → get_or (parent_stored work v p) i 0 ≡ get_or work i 0
  stored-word None i a b = get_or-set_other work (8 * v + 2) i nothing 0 a
  stored-word (Some p) i a b = get_or-set_other (set work (8 * v + 2) p.link) (8 * v + 3) i p.source 0 b ∙ get_or-set_other work (8 * v + 2) i p.link 0 a

  pub stored-length : (p : Option Parent) → length (parent_stored work v p) ≡ length work
  stored-length None = simp length-set
  stored-length (Some p) = simp length-set

  pub stored-drop : (p : Option Parent) (k : ℕ) → 8 * v + 3 < k → drop k (parent_stored work v p) ≡ drop k work
  stored-drop None k h = drop-set-lt k work (8 * v + 2) nothing (omega arith)
  stored-drop (Some p) k h = drop-set-lt k (set work (8 * v + 2) p.link) (8 * v + 3) p.source h ∙ drop-set-lt k work (8 * v + 2) p.link (omega arith)

  -- so that every slot keeps its distance and its first link
  pub stored-distance : (p : Option Parent) (u : ℕ) → distance_at (parent_stored work v p) u ≡ distance_at work u
  stored-distance p u =
      same-words (parent_stored work v p) work (8 * u) (8 * u) (stored-word p (8 * u) (λ e. omega arith) (λ e. omega arith)) (stored-word p (8 * u + 1) (λ e. omega arith) (λ e. omega arith))

  pub stored-first : (p : Option Parent) (u : ℕ) → first_word (parent_stored work v p) u ≡ first_word work u
  stored-first p u = stored-word p (8 * u + 4) (λ e. omega arith) (λ e. omega arith)

  -- and the others their parent
  pub stored_other : (p : Option Parent) (u : ℕ) → (u ≡ v → ⊥) → parent_at (parent_stored work v p) u ≡ parent_at work u
  stored_other p u n =
      same-parent (parent_stored work v p) work u (stored-word p (8 * u + 2) (λ e. n (omega arith)) (λ e. omega arith)) (stored-word p (8 * u + 3) (λ e. omega arith) (λ e. n (omega arith)))

  -- what is stored is read back
  pub none-back : 8 * v + 8 ≤ length work → parent_at (parent_stored work v None) v ≡ None
  none-back room =
      let new = parent_stored work v None in
      ap (λ (b : Bool). parent_in b (get_or new (8 * v + 2) 0) (get_or new (8 * v + 3) 0)) (eq-eqb (get_or new (8 * v + 2) 0) nothing (get_or-set_same work (8 * v + 2) nothing 0 (omega arith)))

  by-back : (l u : ℕ) → l < nothing → 8 * v + 8 ≤ length work → parent_at (parent_stored work v (by l u)) v ≡ by l u
  by-back l u few room =
      let p : get_or (parent_stored work v (by l u)) (8 * v + 2) 0 ≡ l =
      get_or-set_other (set work (8 * v + 2) l) (8 * v + 3) (8 * v + 2) u 0 (λ q. omega arith) ∙ get_or-set_same work (8 * v + 2) l 0 (omega arith) in
      let s : get_or (parent_stored work v (by l u)) (8 * v + 3) 0 ≡ u = get_or-set_same (set work (8 * v + 2) l) (8 * v + 3) u 0 (simp length-set (omega arith)) in
      (λ i. parent_in (eqb (p i) nothing) (p i) (s i)) ∙ ap (λ (b : Bool). parent_in b l u) (ne_eqb l nothing (λ q. omega arith))

  -- a distance stored changes none
  pub put-parent : (d : Distance) (u : ℕ) → parent_at (with_distance work (8 * v) d) u ≡ parent_at work u
  put-parent d u =
      same-parent (with_distance work (8 * v) d) work u (put_word work (8 * v) d (8 * u + 2) (λ e. omega arith) (λ e. omega arith)) (put_word work (8 * v) d (8 * u + 3) (λ e. omega arith) (λ e. omega arith))

-- ---- the area after an offer to node n by link l of node v, where it is better
module _ (work : List ℕ) (n : ℕ) (offer : Float) (l v : ℕ) where
  abbrev area : Bool → List ℕ
  area better = cond better (taken_words n offer l v work) work

  abbrev put : List ℕ
  put = with_distance work (8 * n) (Some offer)

  -- the distance of the node becomes `new`, others keep theirs
  pub taken_here : (unit : ℕ) → unit ≤ finest → (better : Bool) (old new : Named.Distance) → cond better (Some offer) (held unit old) ≡ held unit new → 8 * n + 1 < length work → distance_at work n ≡ held unit old
      → distance_at (area better) n ≡ held unit new
  taken_here unit covered true old new p room e = stored-distance put n (by l v) n ∙ ap (λ (d : Distance). distance_in (with_distance work (8 * n) d) (8 * n)) p ∙ put_back work (8 * n) unit covered new room
  taken_here unit covered false old new p room e = e ∙ p

  pub taken-other : (better : Bool) (u : ℕ) → (u ≡ n → ⊥) → distance_at (area better) u ≡ distance_at work u
  taken-other true u k = stored-distance put n (by l v) u ∙ put_other work (8 * n) (Some offer) (8 * u) (λ e. k (omega arith)) (λ e. omega arith) (λ e. omega arith)
  taken-other false u k = refl

  -- and so do parents
  pub parent-here : (better : Bool) → l < nothing → 8 * n + 8 ≤ length work → parent_at (area better) n ≡ cond better (by l v) (parent_at work n)
  parent-here true few room = by-back put n l v few (omega (arith, put-length work (8 * n) (Some offer)))
  parent-here false few room = refl

  pub parent-other : (better : Bool) (u : ℕ) → (u ≡ n → ⊥) → parent_at (area better) u ≡ parent_at work u
  parent-other true u k = stored_other put n (by l v) u k ∙ put-parent work n (Some offer) u
  parent-other false u k = refl

  pub taken-length : (better : Bool) → length (area better) ≡ length work
  taken-length true = stored-length put n (by l v) ∙ put-length work (8 * n) (Some offer)
  taken-length false = refl

  pub taken-drop : (better : Bool) (k : ℕ) → 8 * n + 3 < k → drop k (area better) ≡ drop k work
  taken-drop true k h = stored-drop put n (by l v) k h ∙ put-drop work (8 * n) (Some offer) k (omega arith)
  taken-drop false k h = refl
