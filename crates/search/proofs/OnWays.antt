-- The entries on a way, those of them that are kept, and their states. Assumes nothing.
use mathlib.Core.Path.{◌≡◌, refl, sym, ap, ◌∙◌, subst}
use mathlib.Core.Logic.{◌⊎◌, inl, inr}
use mathlib.Core.Bool.{Bool, true, false, cond}
use mathlib.Core.Option.{Option, none, some}
use mathlib.Core.List.Memᴰ
use mathlib.Core.List.{List, [], ◌∷◌, ◌++◌, append-nil}
use Prim.Native.Nat.{ℕ, zero, suc, ◌+◌, ◌-◌, ◌≤◌, ◌<◌}
use native.Mathlib.Decide.{ℕ_discrete}
use native.Mathlib.Omega.{arith}
use lib.Dec.{eqb}
use lib.ListN.{length, get_or, length-append, get_or-append}
use lib.Seq.{get_or_at}
use borrow.Author.Tests.{eqb-true, eq-eqb}
use Rattle.sheet.specs.Machine.{Machine}
use Rattle.sheet.proofs.Apart.{not-both, or-either, or_left, or_right}
use Rattle.sheet.proofs.Below.{split_at}
use Rattle.machine.specs.Demand.{◌∈◌}
use Rattle.machine.proofs.Lists.{here, get_or-mem}
use Rattle.search.specs.Search.{Entry, half, finished, Put, first, Search}
use Rattle.search.specs.ListMachine.{is_behind, on_way, link_by}
use Rattle.search.specs.States.{kept, state_of, later}
use Rattle.search.proofs.Numbered.{Numbered}

-- the entry that another came from
abbrev pub came_from : Search → ℕ → ℕ
came_from s i = (get_or s.entries i first).from

abbrev pub is_on : Search → ℕ → Bool
is_on s j = on_way s.entries s.listed j

abbrev pub OnWay : Search → ℕ → Type 0
OnWay s j = is_on s j ≡ true

-- an entry's link is between the states that it is made for
pub link_by-ends : (m : Machine) (o : Option ℕ) (e : Entry) (u v : ℕ) → ((link_by m o e u v).source ≡ u) × ((link_by m o e u v).next ≡ v)
link_by-ends m (some l) e u v = (refl, refl)
link_by-ends m none (half x c) u v = (refl, refl)
link_by-ends m none (finished c) u v = (refl, refl)

-- ---- on a way: behind one that is listed
pub way_of : (es : List Put) (l : List ℕ) (j : ℕ) → on_way es l j ≡ true → (i : ℕ) × (i ∈ l) × (is_behind es i i j ≡ true)
unfolding on_way
way_of es [] j e = absurd (not-both e refl)
way_of es (i ∷ l) j e = elim (or-either (is_behind es i i j) (on_way es l j) e) [ inl q ↦ (i, here i l, q) | inr q ↦ let r = way_of es l j q in (r.0, Memᴰ.tail r.1, r.2) ]

pub of-way : (es : List Put) (l : List ℕ) (i j : ℕ) → i ∈ l → is_behind es i i j ≡ true → on_way es l j ≡ true
unfolding on_way
of-way es [] i j h e = absurd (Memᴰ.not-nil h)
of-way es (x ∷ l) i j h e = elim (Memᴰ.cases_cons h) [
  | inl q ↦ or_left (is_behind es x x j) (on_way es l j) (subst (λ y. is_behind es y y j ≡ true) q e)
  | inr q ↦ or_right (is_behind es x x j) (on_way es l j) (of-way es l i j q e)
]

module _ (s : Search) where
  -- whether at most k steps back from i lead to j
  abbrev pub behind : ℕ → ℕ → ℕ → Bool
  behind k i j = is_behind s.entries k i j

  abbrev from : ℕ → ℕ
  from i = came_from s i

  pub behind-self : (k i : ℕ) → is_behind s.entries k i i ≡ true
  unfolding is_behind
  behind-self zero i = eq-eqb i i refl
  behind-self (suc k) i = or_left (eqb i i) (behind k (from i) i) (eq-eqb i i refl)

  -- What is listed is on a way, and so is the first, and what one on a way came from.
  pub way-listed : (i : ℕ) → i ∈ s.listed → OnWay s i
  way-listed i h = of-way s.entries s.listed i i h (behind-self i i)

  module _ (n : Numbered s) where
    pub behind-first : (k i : ℕ) → i ≤ k → is_behind s.entries k i 0 ≡ true
    unfolding is_behind
    behind-first zero i b = eq-eqb i 0 (omega arith)
    behind-first (suc k) i b = or_right (eqb i 0) (behind k (from i) 0) (behind-first k (from i) (omega (arith, n.earlier i)))

    behind-from : (k i j : ℕ) → i ≤ k → behind k i j ≡ true → behind k i (from j) ≡ true
    unfolding is_behind
    behind-from zero i j b e = eq-eqb i (from j) (omega (arith, eqb-true i j e, n.earlier j))
    behind-from (suc k) i j b e = or_right (eqb i (from j)) (behind k (from i) (from j)) (go (or-either (eqb i j) (behind k (from i) j) e) (behind-from k (from i) j (omega (arith, n.earlier i))))
      where
        go : (eqb i j ≡ true) ⊎ (behind k (from i) j ≡ true) → (behind k (from i) j ≡ true → behind k (from i) (from j) ≡ true) → behind k (from i) (from j) ≡ true
        go (inl q) ih = subst (λ y. behind k (from i) (from y) ≡ true) (eqb-true i j q) (behind-self k (from i))
        go (inr q) ih = ih q

    pub way-first : 0 < length s.listed → OnWay s 0
    way-first b = let i = get_or s.listed 0 0 in of-way s.entries s.listed i 0 (get_or-mem s.listed 0 0 b) (behind-first i i (omega arith))

    pub way-from : (j : ℕ) → OnWay s j → OnWay s (came_from s j)
    way-from j e = let r = way_of s.entries s.listed j e in of-way s.entries s.listed r.0 (from j) r.1 (behind-from r.0 r.0 j (omega arith) r.2)

    -- those on a way are entries: none is behind a later one
    behind-le : (k i j : ℕ) → is_behind s.entries k i j ≡ true → j ≤ i
    unfolding is_behind
    behind-le zero i j e = omega (arith, eqb-true i j e)
    behind-le (suc k) i j e = go (or-either (eqb i j) (behind k (from i) j) e) (behind-le k (from i) j)
      where
        go : (eqb i j ≡ true) ⊎ (behind k (from i) j ≡ true) → (behind k (from i) j ≡ true → j ≤ from i) → j ≤ i
        go (inl q) ih = omega (arith, eqb-true i j q)
        go (inr q) ih = omega (arith, ih q, n.earlier i)

    pub way-inside : (j : ℕ) → OnWay s j → j < length s.entries
    way-inside j e = let r = way_of s.entries s.listed j e in omega (arith, behind-le r.0 r.0 j r.2, n.inside r.0 r.1)

  -- ---- those that are kept
  -- the next is, or is off every way
  pub kept_by : (P : List ℕ → Type 0) (k : ℕ) → (OnWay s (suc k) → P (kept s k ++ (suc k ∷ []))) → (is_on s (suc k) ≡ false → P (kept s k)) → P (kept s (suc k))
  unfolding kept
  kept_by P k on off = go (is_on s (suc k)) refl
    where
      go : (t : Bool) → is_on s (suc k) ≡ t → P (kept s k ++ cond t (suc k ∷ []) [])
      go true e = on e
      go false e = subst P (sym (append-nil (kept s k))) (off e)

  pub kept-le : (k : ℕ) → length (kept s k) ≤ k
  unfolding kept
  kept-le zero = omega arith
  kept-le (suc k) = kept_by (λ l. length l ≤ suc k) k (λ e. omega (arith, length-append (kept s k) (suc k ∷ []), kept-le k)) (λ e. omega (arith, kept-le k))

  -- the place of an entry on a way is how many are kept before it
  abbrev pub Placed : ℕ → List ℕ → Type 0
  Placed j l = (length (kept s j) < length l) × (get_or l (length (kept s j)) 0 ≡ suc j)

  pub kept_at : (k j : ℕ) → j < k → OnWay s (suc j) → Placed j (kept s k)
  kept_at zero j h e = absurd (omega arith)
  kept_at (suc k) j h e = go (ℕ_discrete j k) (λ b. kept_at k j b e)
    where
      longer : length (kept s k ++ (suc k ∷ [])) ≡ length (kept s k) + 1
      longer = length-append (kept s k) (suc k ∷ [])

      go : Dec (j ≡ k) → (j < k → Placed j (kept s k)) → Placed j (kept s (suc k))
      go (yes z) ih =
          let same : length (kept s k) ≡ length (kept s j) = ap (λ (x : ℕ). length (kept s x)) (sym z) in
          kept_by (Placed j) k (λ q. (omega (arith, longer, same), get_or_at (kept s k) (suc k) [] 0 (length (kept s j)) same ∙ ap suc (sym z))) (λ q. absurd (not-both e (ap (λ (x : ℕ). is_on s (suc x)) z ∙ q)))
      go (no z) ih =
          let r = ih (omega (arith, z)) in
          kept_by (Placed j) k (λ q. (omega (arith, longer, r.0), get_or-append (kept s k) (suc k ∷ []) 0 (length (kept s j)) r.0 ∙ r.1)) (λ q. r)

  -- and each place is that of one on a way
  abbrev pub Place : ℕ → ℕ → List ℕ → Type 0
  Place k i l = (j : ℕ) × (j < k) × OnWay s (suc j) × (get_or l i 0 ≡ suc j) × (length (kept s j) ≡ i)

  pub kept-place : (k i : ℕ) → i < length (kept s k) → Place k i (kept s k)
  kept-place zero i h = absurd (omega (arith, kept-le zero))
  kept-place (suc k) i h = kept_by (λ l. i < length l → Place (suc k) i l) k (λ e h. on e h (split_at i (length (kept s k))) (kept-place k i)) (λ e h. let r = kept-place k i h in (r.0, omega (arith, r.1), r.2, r.3, r.4)) h
    where
      on : OnWay s (suc k) → i < length (kept s k ++ (suc k ∷ [])) → (i < length (kept s k)) ⊎ (length (kept s k) ≤ i) → (i < length (kept s k) → Place k i (kept s k)) → Place (suc k) i (kept s k ++ (suc k ∷ []))
      on e h (inl b) ih = let r = ih b in (r.0, omega (arith, r.1), r.2, get_or-append (kept s k) (suc k ∷ []) 0 i b ∙ r.3, r.4)
      on e h (inr b) ih =
          let last : length (kept s k) ≡ i = omega (arith, length-append (kept s k) (suc k ∷ [])) in
          (k, omega arith, e, get_or_at (kept s k) (suc k) [] 0 i last, last)

  -- ---- their states
  pub state-pos : (j : ℕ) → 0 < state_of s j
  unfolding state_of
  state-pos zero = omega arith
  state-pos (suc j) = omega arith

  pub state-le : (j : ℕ) → state_of s j ≤ suc j
  unfolding state_of
  state-le zero = omega arith
  state-le (suc j) = omega (arith, kept-le j)

  -- states rise with the entries on a way
  pub state-lt : (i j : ℕ) → i < j → OnWay s i → state_of s i < state_of s j
  unfolding state_of
  state-lt i zero h e = absurd (omega arith)
  state-lt zero (suc j) h e = omega arith
  state-lt (suc i) (suc j) h e = omega (arith, (kept_at j i (omega arith) e).0)

  pub state-in : (j : ℕ) → j < length s.entries → OnWay s j → state_of s j < 2 + length (later s)
  unfolding state_of
  state-in zero h e = omega arith
  state-in (suc j) h e = omega (arith, (kept_at (length s.entries - 1) j (omega arith) e).0)

  pub state-at : (i : ℕ) → i < length (later s) → state_of s (get_or (later s) i 0) ≡ 2 + i
  unfolding state_of
  state-at i h = let r = kept-place (length s.entries - 1) i h in ap (state_of s) r.3 ∙ ap (λ (n : ℕ). 2 + n) r.4
