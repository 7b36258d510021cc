-- The two words of a distance: what is stored is read back, other places keep theirs, and they are those that are written. Assumes nothing.
use mathlib.Core.Path.{◌≡◌, refl, sym, ap, ◌∙◌}
use mathlib.Core.Bool.{Bool, cond}
use mathlib.Core.List.{List}
use Prim.Native.Nat.{ℕ, ◌+◌, ◌<◌, ◌≤◌}
use native.Mathlib.Omega.{arith}
use lib.Dec.{eqb}
use lib.Ieee.{binary32, of_bits}
use lib.ListN.{length, get_or, set, drop, length-set}
use lib.Seq.{get_or-set_same, get_or-set_other, drop-set-lt}
use borrow.Author.Tests.{eq-eqb, ne_eqb}
use Rattle.tropical_weight.specs.Limits.{finest}
use Rattle.tropical_weight.specs.Tropical.{fin}
use Rattle.tropical_weight.proofs.Exact.{bits_back}
use Rattle.machine.specs.Distance as Named
use Rattle.std.specs.Prelude.{Some, None}
use Rattle.distance.specs.Written.{written}
use Rattle.distance.specs.Held.{Distance, held, mark_in, bits_in, words_in, distance_in, with_distance}

-- the words of a distance as it is held are those it is written in
pub words-written : (unit : ℕ) (d : Named.Distance) → words_in (held unit d) ≡ written unit d
words-written unit (Named.reached k) = refl
words-written unit Named.unreached = refl

module _ (work : List ℕ) (at : ℕ) where
  -- ---- by its first word
  pub read-unreached : get_or work at 0 ≡ 0 → None ≡ distance_in work at
  unfolding distance_in
  read-unreached e = sym (ap (λ (b : Bool). cond b None (Some (of_bits binary32 (get_or work (at + 1) 0)))) (eq-eqb (get_or work at 0) 0 e))

  pub read-reached : (get_or work at 0 ≡ 0 → ⊥) → Some (of_bits binary32 (get_or work (at + 1) 0)) ≡ distance_in work at
  unfolding distance_in
  read-reached e = sym (ap (λ (b : Bool). cond b None (Some (of_bits binary32 (get_or work (at + 1) 0)))) (ne_eqb (get_or work at 0) 0 e))

-- two areas with the same two words hold the same
pub same-words : (a b : List ℕ) (x y : ℕ) → get_or a x 0 ≡ get_or b y 0 → get_or a (x + 1) 0 ≡ get_or b (y + 1) 0 → distance_in a x ≡ distance_in b y
unfolding distance_in
same-words a b x y p q = λ i. cond (eqb (p i) 0) None (Some (of_bits binary32 (q i)))

module _ (work : List ℕ) (at : ℕ) where
  module _ (d : Distance) (room : at + 1 < length work) where
    mark-put : get_or (with_distance work at d) at 0 ≡ mark_in d
    mark-put = get_or-set_other (set work at (mark_in d)) (at + 1) at (bits_in d) 0 (λ e. omega (arith, e)) ∙ get_or-set_same work at (mark_in d) 0 (omega arith)

    bits_put : get_or (with_distance work at d) (at + 1) 0 ≡ bits_in d
    bits_put = get_or-set_same (set work at (mark_in d)) (at + 1) (bits_in d) 0 (omega (arith, length-set work at (mark_in d)))

  -- what is stored is read back, in any unit that the laws cover
  pub none_back : at + 1 < length work → distance_in (with_distance work at None) at ≡ None
  none_back h = sym (read-unreached (with_distance work at None) at (mark-put None h))

  pub put_back : (unit : ℕ) → unit ≤ finest → (d : Named.Distance) → at + 1 < length work → distance_in (with_distance work at (held unit d)) at ≡ held unit d
  put_back unit covered Named.unreached h = none_back h
  put_back unit covered (Named.reached k) h =
      let d = held unit (Named.reached k) in
      sym (read-reached (with_distance work at d) at (λ e. omega (arith, e, mark-put d h)))
      ∙ ap (λ (w : ℕ). Some (of_bits binary32 w)) (bits_put d h) ∙ ap Some (bits_back unit covered (fin k))

  -- no other word changes, and no distance held by other words
  pub put_word : (d : Distance) (j : ℕ) → (j ≡ at → ⊥) → (j ≡ at + 1 → ⊥) → get_or (with_distance work at d) j 0 ≡ get_or work j 0
  put_word d j p q = get_or-set_other (set work at (mark_in d)) (at + 1) j (bits_in d) 0 q ∙ get_or-set_other work at j (mark_in d) 0 p

  pub put_other : (d : Distance) (to : ℕ) → (to ≡ at → ⊥) → (to + 1 ≡ at → ⊥) → (to ≡ at + 1 → ⊥) → distance_in (with_distance work at d) to ≡ distance_in work to
  put_other d to a b c = same-words (with_distance work at d) work to to (put_word d to a c) (put_word d (to + 1) b (λ e. a (omega (arith, e))))

  -- nor what lies beyond
  pub put-drop : (d : Distance) (k : ℕ) → at + 1 < k → drop k (with_distance work at d) ≡ drop k work
  put-drop d k h = drop-set-lt k (set work at (mark_in d)) (at + 1) (bits_in d) h ∙ drop-set-lt k work at (mark_in d) (omega arith)

  pub put-length : (d : Distance) → length (with_distance work at d) ≡ length work
  put-length d = length-set (set work at (mark_in d)) (at + 1) (bits_in d) ∙ length-set work at (mark_in d)
