-- Parents and the best end by one pass: where a candidate is strictly less than the least before it, it is chosen, and else the choice stays.
-- The one chosen last is the lowest number that attains the least. Assumes nothing.
use mathlib.Core.Path.{◌≡◌, refl, sym, ap, ap₂, ◌∙◌}
use mathlib.Core.Bool.{Bool, true, false, not, ◌&&◌, cond}
use mathlib.Core.Option.{Option, none, some}
use mathlib.Core.List.{[], ◌∷◌, map}
use Prim.Native.Nat.{ℕ, zero, suc, ◌≤◌, ◌<◌}
use native.Mathlib.Omega.{arith}
use lib.Dec.{eqb}
use lib.ListN.{length}
use lib.Ieee.Bits.{is_true}
use borrow.Author.Tests.{eqb-true, eq-eqb}
use Rattle.tropical_weight.specs.Tropical.{Tropical, fin, inf, le_t, lt_t, eq_t, ◌≼◌, ◌⊕◌, ◌⊗◌}
use Rattle.tropical_weight.proofs.Semiring.{is-finite, ≼-eq, ≼_trans, lt_t-not, eq-eq_t, ⊕-comm, zero-⊕}
use Rattle.sheet.specs.Below.{list_below}
use Rattle.sheet.specs.Machine.{Machine}
use Rattle.machine.specs.Readings.{link, is_at, run_cost, ways}
use Rattle.machine.specs.Climbs.{Climbs}
use Rattle.machine.specs.Distance.{plus_all, dist, via, total, total_at}
use Rattle.machine.specs.Parents.{or_else, lowest, attains, parent, best_end}
use Rattle.sheet.proofs.Apart.{both, not-both}
use Rattle.machine.proofs.Lists.{below-mem, mem_below}
use Rattle.machine.proofs.Sums.{plus_all-le, plus_all-in, plus_all-next}
use Rattle.machine.proofs.Runs.{at_some}
use Rattle.machine.proofs.Relax.{row_at, dist_over, more-runs, same_runs, row_is, source-settled}
use Rattle.machine.proofs.Reached.{finite-reached, reached-above}
use Rattle.machine.proofs.Parents.{Lowest, lowest-is, lowest-found, attains-eq, eq-attains}

-- ---- tests
lowest-none : (n : ℕ) (p : ℕ → Bool) → ((k : ℕ) → k < n → p k ≡ false) → lowest n p ≡ none
lowest-none n p f = go (lowest n p) refl (lowest-is n p)
  where
    go : (o : Option ℕ) → lowest n p ≡ o → Lowest n p o → o ≡ none
    go none e x = refl
    go (some l) e x = absurd (not-both x.1 (f l x.0))

lowest-same : (n : ℕ) (p q : ℕ → Bool) → ((k : ℕ) → k < n → p k ≡ q k) → lowest n p ≡ lowest n q
unfolding lowest
lowest-same zero p q f = refl
lowest-same (suc n) p q f = ap₂ (λ o t. or_else o (cond t (some n) none)) (lowest-same n p q (λ k h. f k (omega arith))) (f n (omega arith))

or-none : (o : Option ℕ) → or_else o none ≡ o
or-none none = refl
or-none (some a) = refl

or_some : (o : Option ℕ) (i n : ℕ) → o ≡ some i → or_else o (some n) ≡ o
or_some o i n e = ap (λ o. or_else o (some n)) e ∙ sym e

-- infinity attains nothing
attains-inf : (d : Tropical) → attains d inf ≡ false
attains-inf (fin k) = refl
attains-inf inf = refl

below_inf : (a b : Tropical) → lt_t a b ≡ true → lt_t a inf ≡ true
below_inf (fin a) b e = refl
below_inf inf b e = e

not-less : (a b : Tropical) → b ≼ a → lt_t a b ≡ true → ⊥
not-less a b h e = not-both e (lt_t-not a b ∙ ap not (is_true (le_t b a) h.le))

-- ---- any candidates y 0, y 1, ..
module _ (y : ℕ → Tropical) where
  abbrev pub least : ℕ → Tropical
  least n = plus_all (list_below n y)

  -- of the first n, the lowest number that attains their least
  abbrev pub chosen : ℕ → Option ℕ
  chosen n = lowest n (λ j. attains (least n) (y j))

  pub least-suc : (n : ℕ) → least (suc n) ≡ least n ⊕ y n
  least-suc n = plus_all-next n y

  pub chosen-suc : (n : ℕ) → chosen (suc n) ≡ cond (lt_t (y n) (least n)) (some n) (chosen n)
  unfolding lowest
  chosen-suc n = go (lt_t (y n) (least n)) refl
    where
      new : (t : Bool) → lt_t (y n) (least n) ≡ t → least (suc n) ≡ cond t (y n) (least n)
      new t e = least-suc n ∙ ap (λ t. cond t (y n) (least n)) e

      -- none before attains what is less than their least
      before : lt_t (y n) (least n) ≡ true → (j : ℕ) → j < n → (t : Bool) → attains (least (suc n)) (y j) ≡ t → t ≡ false
      before e j h false q = refl
      before e j h true q = absurd (not-less (y n) (least n) (≼_trans (plus_all-le (list_below n y) (below-mem y n j h)) (≼-eq (attains-eq (least (suc n)) (y j) q ∙ new true e))) e)

      -- on a tie an earlier one attains the least too
      tie : (t : Bool) → attains (least n) (y n) ≡ t → or_else (chosen n) (cond t (some n) none) ≡ chosen n
      tie false q = or-none (chosen n)
      tie true q =
          let k = is-finite (least n) (both (lt_t (least n) inf) (eq_t (y n) (least n)) q).0 in
          let j = mem_below y n (plus_all-in (list_below n y) k.0 k.1) in
          let r = lowest-found n (λ j. attains (least n) (y j)) j.0 j.1 (eq-attains (least n) (y j.0) k.0 k.1 (sym j.2 ∙ sym k.1)) in
          or_some (chosen n) r.0 n r.1

      go : (t : Bool) → lt_t (y n) (least n) ≡ t → chosen (suc n) ≡ cond t (some n) (chosen n)
      go true e =
          let d = new true e in
          ap₂ (λ o t. or_else o (cond t (some n) none))
          (lowest-none n (λ j. attains (least (suc n)) (y j)) (λ j h. before e j h (attains (least (suc n)) (y j)) refl))
          (ap₂ ◌&&◌ (ap (λ x. lt_t x inf) d ∙ below_inf (y n) (least n) e) (eq-eq_t (y n) (least (suc n)) (sym d)))
      go false e = ap (λ a. lowest (suc n) (λ j. attains a (y j))) (new false e) ∙ tie (attains (least n) (y n)) refl

-- ---- the best end is chosen among the totals of the nodes
pub end-chosen : (m : Machine) → (total m ≡ least (total_at m) (length m.finals)) × (best_end m ≡ chosen (total_at m) (length m.finals))
unfolding best_end total
end-chosen m = (refl, refl)

-- ---- a parent among what the links offer its node
module _ (m : Machine) where
  -- what link j offers node v
  abbrev pub offer : ℕ → ℕ → Tropical
  offer v j = cond (eqb (link m j).next v) (via m j) inf

  attains-offer : (b : Bool) (d x : Tropical) → (b && attains d x) ≡ attains d (cond b x inf)
  attains-offer true d x = refl
  attains-offer false d x = sym (attains-inf d)

  less-offer : (b : Bool) (d x : Tropical) → lt_t (cond b x inf) d ≡ (b && lt_t x d)
  less-offer true d x = refl
  less-offer false d x = refl

  module _ (c : Climbs m) where
    -- after l links the value of a node other than the start is the least that they offer it
    offers : (l v : ℕ) → l ≤ length m.links → is_at m.start v ≡ false → dist_over m l v ≡ least (offer v) l
    unfolding ways plus_all list_below
    offers zero v b n = ap (λ t. plus_all (map (run_cost m) (cond t ([] ∷ []) []))) n
    offers (suc l) v b n = go (eqb (link m l).next v) refl (offers l v (omega arith) n) ∙ sym (least-suc (offer v) l)
      where
        go : (t : Bool) → eqb (link m l).next v ≡ t → dist_over m l v ≡ least (offer v) l → dist_over m (suc l) v ≡ least (offer v) l ⊕ cond t (via m l) inf
        go true e ih = more-runs m l v (eqb-true (link m l).next v e) ∙ ap₂ (λ a b. a ⊕ b ⊗ (link m l).weight) ih (source-settled m c l (omega arith))
        go false e ih = same_runs m l v (λ q. not-both (eq-eqb (link m l).next v q) e) ∙ ih ∙ sym (⊕-comm (least (offer v) l) inf ∙ zero-⊕ (least (offer v) l))

    -- the sources of links to the start are not reached
    start-offer : (v l : ℕ) → is_at m.start v ≡ true → l < length m.links → offer v l ≡ inf
    start-offer v l s h = go (eqb (link m l).next v) refl (dist m (link m l).source) refl
      where
        go : (t : Bool) → eqb (link m l).next v ≡ t → (d : Tropical) → dist m (link m l).source ≡ d → cond t (d ⊗ (link m l).weight) inf ≡ inf
        go false e d q = refl
        go true e inf q = refl
        go true e (fin k) q = absurd (omega (arith, c.rises l h, eqb-true (link m l).next v e, reached-above m c v (link m l).source (at_some m.start v s) (finite-reached m (link m l).source k q)))

    pub parent-chosen : (v : ℕ) → parent m v ≡ chosen (offer v) (length m.links)
    unfolding parent dist
    parent-chosen v =
        lowest-same n (λ l. eqb (link m l).next v && attains (dist m v) (via m l)) (λ l. attains (dist m v) (offer v l)) (λ l h. attains-offer (eqb (link m l).next v) (dist m v) (via m l))
        ∙ go (is_at m.start v) refl
      where
        n : ℕ
        n = length m.links

        go : (t : Bool) → is_at m.start v ≡ t → lowest n (λ l. attains (dist m v) (offer v l)) ≡ chosen (offer v) n
        go false e = ap (λ d. lowest n (λ l. attains d (offer v l))) (offers n v (omega arith) e)
        go true e = none-at (dist m v) ∙ sym (none-at (least (offer v) n))
          where
            none-at : (d : Tropical) → lowest n (λ l. attains d (offer v l)) ≡ none
            none-at d = lowest-none n (λ l. attains d (offer v l)) (λ l h. ap (attains d) (start-offer v l e h) ∙ attains-inf d)

    -- one link of the pass, on the relaxed row: it becomes the parent of its next node where it improves the value there
    pub parent-step : (l v : ℕ) → l < length m.links → v < length m.finals
        → chosen (offer v) (suc l) ≡ cond (eqb (link m l).next v && lt_t (row_at m l (link m l).source ⊗ (link m l).weight) (row_at m l v)) (some l) (chosen (offer v) l)
    parent-step l v h b =
        chosen-suc (offer v) l
        ∙ ap (λ t. cond t (some l) (chosen (offer v) l))
        (go (is_at m.start v) refl ∙ ap (λ d. eqb (link m l).next v && lt_t (d ⊗ (link m l).weight) (row_at m l v)) (sym (row_is m c l (link m l).source (omega arith) inside ∙ source-settled m c l h)))
      where
        inside : (link m l).source < length m.finals
        inside = omega (arith, c.rises l h, c.inside l h)

        less : lt_t (offer v l) (row_at m l v) ≡ (eqb (link m l).next v && lt_t (via m l) (row_at m l v))
        less = less-offer (eqb (link m l).next v) (row_at m l v) (via m l)

        go : (t : Bool) → is_at m.start v ≡ t → lt_t (offer v l) (least (offer v) l) ≡ (eqb (link m l).next v && lt_t (via m l) (row_at m l v))
        go false e = ap (lt_t (offer v l)) (sym (row_is m c l v (omega arith) b ∙ offers l v (omega arith) e)) ∙ less
        go true e = ap (λ o. lt_t o (least (offer v) l)) (start-offer v l e h) ∙ sym (ap (λ o. lt_t o (row_at m l v)) (start-offer v l e h)) ∙ less
