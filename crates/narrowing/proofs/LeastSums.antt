-- The n least sums of two lists of costs are those of the n least costs of each. Assumes nothing.
use mathlib.Core.Path.{◌≡◌, refl, sym, ap, ap₂, ◌∙◌, subst}
use mathlib.Core.Bool.{Bool, true, false, cond}
use mathlib.Core.List.Memᴰ
use mathlib.Core.List.{List, [], ◌∷◌, ◌++◌, map, append-nil, append_assoc}
use Prim.Native.Nat.{ℕ, zero, suc}
use native.Mathlib.Omega.{arith}
use lib.ListN.{take, drop, take-append-drop}
use lib.Seq.{take-take}
use Rattle.std.proofs.lemmas.List.{take-map}
use Rattle.tropical_weight.specs.Tropical.{Tropical, le_t, ◌≼◌, ◌⊗◌}
use Rattle.tropical_weight.proofs.Semiring.{≼_refl, ⊗-comm, ⊗-mono}
use Rattle.machine.specs.Demand.{insert, sort}
use Rattle.machine.proofs.Lists.{Perm, same, skip, thru, perm-sym, perm-eq, perm-left, perm-right, perm-swap, perm-map, mem-map}
use Rattle.machine.proofs.Sort.{Ordered, sort-perm, sort-keeps, sort-ordered, ordered-front, sort-front}
use Rattle.narrowing.specs.Sums.{sums, least_sums}

-- ---- sums of the lists in another order
swap-front : (a b c : List Tropical) → Perm (a ++ (b ++ c)) (b ++ (a ++ c))
swap-front a b c = thru (perm-eq (sym (append_assoc a b c))) (thru (perm-right c (perm-swap a b)) (perm-eq (append_assoc b a c)))

-- of one cost with each of a list
abbrev onto : Tropical → List Tropical → List Tropical
onto a l = map (λ b. a ⊗ b) l

sums-none : (l : List Tropical) → sums l [] ≡ []
unfolding sums
sums-none [] = refl
sums-none (a ∷ l) = sums-none l

-- one more in the second list
sums-more : (l : List Tropical) (b : Tropical) (m : List Tropical) → Perm (sums l (b ∷ m)) (onto b l ++ sums l m)
unfolding sums
sums-more [] b m = same
sums-more (a ∷ l) b m =
    thru (perm-eq (ap (λ c. c ∷ (onto a m ++ sums l (b ∷ m))) (⊗-comm a b)))
    (skip (b ⊗ a) (thru (perm-left (onto a m) (sums-more l b m)) (swap-front (onto a m) (onto b l) (sums l m))))

sums-swap : (l k : List Tropical) → Perm (sums l k) (sums k l)
unfolding sums
sums-swap l [] = perm-eq (sums-none l)
sums-swap l (b ∷ k) = thru (sums-more l b k) (perm-left (onto b l) (sums-swap l k))

-- ---- the n least of a list
abbrev least : ℕ → List Tropical → List Tropical
least n l = take n (sort l)

least-perm : (n : ℕ) {l k : List Tropical} → Perm l k → least n l ≡ least n k
least-perm n p = ap (take n) (sort-perm p)

sort-same : (l : List Tropical) → Ordered l → sort l ≡ l
unfolding sort
sort-same l o = ap sort (sym (append-nil l)) ∙ sort-front l [] o (λ a b p q. absurd (Memᴰ.not-nil q)) ∙ append-nil l

least-least : (n : ℕ) (l : List Tropical) → least n (least n l) ≡ least n l
least-least n l =
    let o = ordered-front (least n l) (drop n (sort l)) (subst Ordered (sym (take-append-drop n (sort l))) (sort-ordered l)) in
    ap (take n) (sort-same (least n l) o) ∙ take-take n n (sort l) (omega arith)

-- what stands past the first n does not come among them when one more is put in
insert-front : (n : ℕ) (a : Tropical) (l : List Tropical) → take n (insert a l) ≡ take n (insert a (take n l))
unfolding insert
insert-front zero a l = refl
insert-front (suc n) a [] = refl
insert-front (suc n) a (x ∷ l) = go (le_t a x) (insert-front n a l)
  where
    go : (t : Bool) → take n (insert a l) ≡ take n (insert a (take n l)) → take (suc n) (cond t (a ∷ x ∷ l) (x ∷ insert a l)) ≡ take (suc n) (cond t (a ∷ x ∷ take n l) (x ∷ insert a (take n l)))
    go true h = ap (λ r. a ∷ r) (sym (take-take n (suc n) (x ∷ l) (omega arith)))
    go false h = ap (λ r. x ∷ r) h

-- so the n least of two lists are among the n least of each
least-right : (n : ℕ) (l k : List Tropical) → least n (l ++ k) ≡ least n (l ++ least n k)
unfolding sort
least-right n [] k = sym (least-least n k)
least-right n (a ∷ l) k = insert-front n a (sort (l ++ k)) ∙ ap (λ r. take n (insert a r)) (least-right n l k) ∙ sym (insert-front n a (sort (l ++ least n k)))

least-both : (n : ℕ) (l k : List Tropical) → least n (l ++ k) ≡ least n (least n l ++ least n k)
least-both n l k =
    least-right n l k ∙ least-perm n (perm-swap l (least n k))
    ∙ least-right n (least n k) l ∙ least-perm n (perm-swap (least n k) (least n l))

-- ---- the n least sums
onto-ordered : (a : Tropical) (l : List Tropical) → Ordered l → Ordered (onto a l)
onto-ordered a [] o = tt
onto-ordered a (b ∷ l) o = (λ c h. let r = mem-map (λ b. a ⊗ b) l h in subst (λ c. a ⊗ b ≼ c) (sym r.2) (⊗-mono (≼_refl a) (o.0 r.0 r.1)), onto-ordered a l o.1)

least-onto : (n : ℕ) (a : Tropical) (l : List Tropical) → least n (onto a l) ≡ onto a (least n l)
least-onto n a l =
    least-perm n (perm-map (λ b. a ⊗ b) (perm-sym (sort-keeps l)))
    ∙ ap (take n) (sort-same (onto a (sort l)) (onto-ordered a (sort l) (sort-ordered l)))
    ∙ take-map (λ b. a ⊗ b) n (sort l)

-- for the n least sums the n least costs of the second list are enough
least-second : (n : ℕ) (l k : List Tropical) → least n (sums l k) ≡ least n (sums l (least n k))
unfolding sums
least-second n [] k = refl
least-second n (a ∷ l) k =
    least-both n (onto a k) (sums l k)
    ∙ ap₂ (λ p q. least n (p ++ q)) (least-onto n a k) (least-second n l k)
    ∙ sym (least-right n (onto a (least n k)) (sums l (least n k)))

-- and, since sums may be swapped, those of the first
pub least-sums : (n : ℕ) (l k : List Tropical) → least_sums n l k ≡ least_sums n (take n (sort l)) (take n (sort k))
unfolding least_sums
least-sums n l k =
    least-second n l k ∙ least-perm n (sums-swap l (least n k))
    ∙ least-second n (least n k) l ∙ least-perm n (sums-swap (least n k) (least n l))
