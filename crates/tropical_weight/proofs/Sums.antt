-- How large a sum of weights gets, and so: along a reading every partial sum is exact. Over any unit, and over any limits on the number of terms and
-- on the units of a term whose product is the limit of sums. Assumes nothing.
use Rattle.std.proofs.Common.{◌≡◌, ℕ, zero, suc, ◌+◌, ◌*◌, ◌≤◌, Bool, true, false, cond, List, [], ◌∷◌, ◌++◌, map, length, replicate, pos, sym, refl, ap, ◌∙◌, subst, append-nil, le_trans, le_of_eq, add-zero, mul-le-mul_right, add-mul, arith, length-append}
use mathlib.Core.List.Memᴰ
use mathlib.Core.List.{Memᴰ}
use lib.ListN.{length-replicate}
use lib.Ieee.{Float}
use Rattle.tropical_weight.specs.Limits.{finest, sum_limit, node_limit, weight_limit}
use Rattle.tropical_weight.specs.Tropical.{Tropical, fin, inf, lt_t, one, ◌⊕◌, ◌⊗◌, times_all, Within}
use Rattle.tropical_weight.specs.Grid.{of_t}
use Rattle.tropical_weight.specs.Single.{add_all}
use Rattle.tropical_weight.proofs.Integers.{nat_abs-add}
use Rattle.tropical_weight.proofs.Exact.{times-of_t}

-- ---- bounds
pub within-mono : (a b : ℕ) (v : Tropical) → a ≤ b → Within a v → Within b v
within-mono a b (fin k) l h = le_trans h l
within-mono a b inf l h = h

pub within-⊗ : (a b : ℕ) (v w : Tropical) → Within a v → Within b w → Within (a + b) (v ⊗ w)
within-⊗ a b (fin i) (fin k) h l = omega (arith, nat_abs-add i k)
within-⊗ a b (fin i) inf h l = l
within-⊗ a b inf w h l = h

pub within-⊕ : (a : ℕ) (v w : Tropical) → Within a v → Within a w → Within a (v ⊕ w)
within-⊕ a v w p q = go (lt_t w v)
  where
    go : (t : Bool) → Within a (cond t w v)
    go true = q
    go false = p

pub within-one : (a : ℕ) → Within a one
within-one a = omega arith

-- ---- a sum of at most n terms, each of at most `most` units, however it is grouped
pub terms-⊗ : (most m n : ℕ) (v w : Tropical) → Within (m * most) v → Within (n * most) w → Within ((m + n) * most) (v ⊗ w)
terms-⊗ most m n v w h l = subst (λ (x : ℕ). Within x (v ⊗ w)) (sym (add-mul m n most)) (within-⊗ (m * most) (n * most) v w h l)

-- the limits on nodes and weights are such limits
pub limits : node_limit * weight_limit ≡ sum_limit
limits = refl

-- one term again and again
times-replicate : (most n a : ℕ) → times_all (fin (pos a)) (replicate n (fin (pos most))) ≡ fin (pos (a + n * most))
unfolding times_all
times-replicate most zero a = ap (λ (k : ℕ). fin (pos k)) (let e : a ≡ a + 0 * most = omega arith in e)
times-replicate most (suc n) a = times-replicate most n (a + most) ∙ ap (λ (k : ℕ). fin (pos k)) (let e : a + most + n * most ≡ a + suc n * most = omega arith in e)

module _ (nodes most : ℕ) (product : nodes * most ≡ sum_limit) where
  pub terms-within : (n : ℕ) → n ≤ nodes → (v : Tropical) → Within (n * most) v → Within sum_limit v
  terms-within n l v h = within-mono (n * most) sum_limit v (le_trans (mul-le-mul_right most l) (le_of_eq product)) h

  module _ (j : ℕ) (h : j ≤ finest) where
    abbrev Each : List Tropical → Type 0
    Each ws = (w : Tropical) → Memᴰ w ws → Within most w

    -- onto a sum of n terms, as many as are left of the limit
    onto : (ws : List Tropical) (n : ℕ) (v : Tropical) → n + length ws ≤ nodes → Within (n * most) v → Each ws
        → (add_all (of_t j v) (map (of_t j) ws) ≡ of_t j (times_all v ws)) × Within ((n + length ws) * most) (times_all v ws)
    unfolding add_all times_all
    onto [] n v l p each = (refl, subst (λ (x : ℕ). Within (x * most) v) (sym (add-zero n)) p)
    onto (w ∷ ws) n v l p each =
        let one_more : n + 1 + length ws ≡ n + suc (length ws) = omega arith in
        let head : Within (1 * most) w = within-mono most (1 * most) w (omega arith) (each w (Memᴰ.head refl)) in
        let r = onto ws (n + 1) (v ⊗ w) (omega arith) (terms-⊗ most n 1 v w p head) (λ x m. each x (Memᴰ.tail m)) in (
          ap (λ (x : Float). add_all x (map (of_t j) ws)) (times-of_t j h v w (terms-within n (omega arith) v p) (terms-within 1 (omega arith) w head)) ∙ r.0,
          subst (λ (x : ℕ). Within (x * most) (times_all (v ⊗ w) ws)) one_more r.1,
        )

    each-replicate : (n : ℕ) → Each (replicate n (fin (pos most)))
    each-replicate zero w m = absurd (Memᴰ.not-nil m)
    each-replicate (suc n) w (Memᴰ.head e) = subst (Within most) (sym e) (omega arith)
    each-replicate (suc n) w (Memᴰ.tail m) = each-replicate n w m

    -- Each partial sum, that of any front us of the terms us ++ vs, is within the limit of sums, and single precision adds it up exactly.
    pub sums-exact : (us vs : List Tropical) → length (us ++ vs) ≤ nodes → Each (us ++ vs)
        → (add_all (of_t j one) (map (of_t j) us) ≡ of_t j (times_all one us)) × Within sum_limit (times_all one us)
    sums-exact us vs l each =
        let few : 0 + length us ≤ nodes = omega (arith, length-append us vs) in
        let r = onto us 0 one few (within-one (0 * most)) (λ w m. each w (Memᴰ.append_left vs m)) in
        (r.0, terms-within (0 + length us) few (times_all one us) r.1)

    -- The longest sum: as many terms as there may be, each the largest, come to the limit itself, and single precision adds them up exactly.
    pub longest-exact : add_all (of_t j one) (map (of_t j) (replicate nodes (fin (pos most)))) ≡ of_t j (fin (pos sum_limit))
    longest-exact =
        let terms = replicate nodes (fin (pos most)) in
        let all : terms ++ [] ≡ terms = append-nil terms in
        let few : length (terms ++ []) ≤ nodes = omega (arith, ap length all, length-replicate nodes (fin (pos most))) in
        let each : Each (terms ++ []) = λ w m. each-replicate nodes w (subst (λ (l : List Tropical). Memᴰ w l) all m) in
        (sums-exact terms [] few each).0 ∙ ap (of_t j) (times-replicate most nodes 0) ∙ ap (λ (k : ℕ). of_t j (fin (pos k))) (let e : 0 + nodes * most ≡ sum_limit = omega (arith, product) in e)
