-- The order of entries is one that the heap's laws ask for: by rank, and on equal rank half-built before finished. Assumes nothing.
use mathlib.Core.Path.{◌≡◌, refl, sym, ap, ◌∙◌, subst}
use mathlib.Core.Logic.{inl, inr}
use mathlib.Core.Bool.{Bool, true, false, not, ◌&&◌, ◌||◌}
use mathlib.Core.List.{List}
use Prim.Native.Nat.{ℕ}
use lib.Dec.{T}
use lib.Ieee.Bits.{is_true}
use lib.ListN.{get_or}
use Rattle.tropical_weight.specs.Tropical.{Tropical, le_t, lt_t, eq_t, ◌≼◌}
use Rattle.tropical_weight.proofs.Semiring.{≼-eq, ≼_trans, ≼-antisym, ≼-total, lt_t-not, eq_t-eq, eq-eq_t}
use Rattle.sheet.proofs.Apart.{both, not-both}
use Rattle.search.specs.Reversed.{Reversed}
use Rattle.search.specs.Search.{Put, first, is_half, rank, before}
use Rattle.search.proofs.HeapOrder.{Strict}

-- the test on ranks and on being half-built
abbrev test : Tropical → Bool → Tropical → Bool → Bool
test x p y q = lt_t x y || (eq_t x y && (p && not q))

-- what it says where it fails: the other's rank is no greater, and where the ranks are equal the other is half-built if this is
abbrev Fails : Tropical → Bool → Tropical → Bool → Type 0
Fails x p y q = (y ≼ x) × (x ≼ y → p ≡ true → q ≡ true)

le-true : {x y : Tropical} → x ≼ y → le_t x y ≡ true
le-true {x} {y} h = is_true (le_t x y) h.le

true-le : {x y : Tropical} → le_t x y ≡ true → x ≼ y
true-le e = record { le = subst T (sym e) tt }

module _ (x : Tropical) (p : Bool) (y : Tropical) (q : Bool) where
  fails : test x p y q ≡ false → Fails x p y q
  fails e = go (le_t y x) refl (eq_t x y) refl (ap (λ (b : Bool). b || (eq_t x y && (p && not q))) (sym (lt_t-not x y)) ∙ e)
    where
      last : (a b : Bool) → a && not b ≡ false → a ≡ true → b ≡ true
      last true true h k = refl
      last true false h k = sym h
      last false b h k = absurd (not-both k refl)

      go : (a : Bool) → le_t y x ≡ a → (b : Bool) → eq_t x y ≡ b → not a || (b && (p && not q)) ≡ false → Fails x p y q
      go false l b m h = absurd (not-both refl h)
      go true l true m h = (true-le l, λ k. last p q h)
      go true l false m h = (true-le l, λ k. absurd (not-both (eq-eq_t x y (≼-antisym k (true-le l))) m))

  failing : Fails x p y q → test x p y q ≡ false
  failing f =
      ap (λ (b : Bool). b || (eq_t x y && (p && not q))) (lt_t-not x y ∙ ap not (le-true f.0))
      ∙ go (eq_t x y) refl p q f.1
    where
      go : (b : Bool) → eq_t x y ≡ b → (c d : Bool) → (x ≼ y → c ≡ true → d ≡ true) → b && (c && not d) ≡ false
      go false m c d h = refl
      go true m false d h = refl
      go true m true true h = refl
      go true m true false h = sym (h (≼-eq (eq_t-eq x y m)) refl)

-- one that passes turns the other way round
turned : (x : Tropical) (p : Bool) (y : Tropical) (q : Bool) → test x p y q ≡ true → Fails y q x p
turned x p y q e = go (le_t y x) refl (eq_t x y) refl (ap (λ (b : Bool). b || (eq_t x y && (p && not q))) (sym (lt_t-not x y)) ∙ e)
  where
    less : le_t y x ≡ false → x ≼ y
    less l = elim (≼-total x y) [ inl h ↦ h | inr h ↦ absurd (not-both (le-true h) l) ]

    go : (a : Bool) → le_t y x ≡ a → (b : Bool) → eq_t x y ≡ b → not a || (b && (p && not q)) ≡ true → Fails y q x p
    go false l b m h = (less l, λ k. absurd (not-both (le-true k) l))
    go true l true m h = (≼-eq (eq_t-eq x y m), λ k c. (both p (not q) h).0)
    go true l false m h = absurd (not-both h refl)

module _ (r : Reversed) (es : List Put) where
  -- the rank of entry i, and whether it is half-built
  abbrev rank_of : ℕ → Tropical
  rank_of i = rank r (get_or es i first).entry

  abbrev half : ℕ → Bool
  half i = is_half (get_or es i first).entry

  pub entries-strict : Strict (before r es)
  entries-strict = record {
    chain = λ a b c h k.
        let x = fails (rank_of b) (half b) (rank_of a) (half a) h.not-before in
        let y = fails (rank_of c) (half c) (rank_of b) (half b) k.not-before in
        record { not-before = failing (rank_of c) (half c) (rank_of a) (half a) (≼_trans x.0 y.0, λ l m. x.1 (≼_trans y.0 l) (y.1 (≼_trans l x.0) m)) };
    other_way = λ a b h. record { not-before = failing (rank_of b) (half b) (rank_of a) (half a) (turned (rank_of a) (half a) (rank_of b) (half b) h) };
  }

  -- one that the test does not put before another ranks no lower
  pub ranks-follow : (i j : ℕ) → before r es j i ≡ false → rank_of i ≼ rank_of j
  ranks-follow i j e = (fails (rank_of j) (half j) (rank_of i) (half i) e).0
