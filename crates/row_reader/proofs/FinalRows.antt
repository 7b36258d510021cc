-- No node has two final rows, by passes that keep the least final nodes: what a pass finds, and what all of them say. Assumes nothing.
use mathlib.Core.Path.{◌≡◌, refl, sym, ap, ◌∙◌}
use mathlib.Core.Bool.{Bool, true, false, not, ◌&&◌, ◌||◌, cond, false≢true}
use Rattle.std.proofs.Common.{Option, None, Some}
use mathlib.Core.List.{List, [], ◌∷◌}
use mathlib.Core.Logic.{◌⊎◌, inl, inr}
use Prim.Native.Nat.{ℕ, suc, ◌^◌, ◌≤◌, ◌<◌}
use native.Mathlib.Omega.{arith}
use lib.Dec.{ltb, eqb}
use lib.ListN.{length, get_or}
use borrow.Author.Tests.{lt-ltb, le-ltb, ltb-true, ltb-false, eq-eqb, ne_eqb, eqb-true, not-true}
use Rattle.sheet.proofs.Apart.{both, or_left, or_right}
use Rattle.text_rows.specs.Fields.{Weight, and_then}
use Rattle.text_rows.specs.Rows.{Row, link, final, any_final, finals_once}
use Rattle.row_reader.specs.Places.{rows_left}
use Rattle.row_reader.specs.RowReading.{row_read}
use Rattle.row_reader.specs.FinalRows.{once_in, most, falling, has, inserted, Going, twice, on, with_new, with_less, with_final, with_read, go_on, pass_rows, pass_from}
use Rattle.row_reader.specs.declared.row.Row as Code
use Rattle.row_reader.proofs.Steps.{Stepped}
use Rattle.row_reader.proofs.Kept.{falling-long, Falls, among, among-inserted, none_above, none_below, has-among, inserted-falls}
use Rattle.text_rows.proofs.RowFits.{AllFit}
use Rattle.row_reader.proofs.LeftFits.{left-fit}
use Rattle.text_rows.proofs.HasRows.{or-false}

-- ---- no node from f on has two final rows
unfoldable pub once_from : ℕ → List Row → Bool
once_from f [] = true
once_from f (link s t i o w ∷ rs) = once_from f rs
once_from f (final v w ∷ rs) = (ltb v f || not (any_final v rs)) && once_from f rs

from_zero : (rs : List Row) → once_from 0 rs ≡ finals_once rs
unfolding once_from finals_once
from_zero [] = refl
from_zero (link s t i o w ∷ rs) = from_zero rs
from_zero (final v w ∷ rs) = λ j. (le-ltb v 0 (omega arith) j || not (any_final v rs)) && from_zero rs j

past_all : (f : ℕ) (rs : List Row) → 2 ^ 32 ≤ f → AllFit rs → once_from f rs ≡ true
unfolding once_from
past_all f [] h k = refl
past_all f (link s t i o w ∷ rs) h k = past_all f rs h k.1
past_all f (final v w ∷ rs) h k = λ j. (lt-ltb v f (omega (arith, h, k.0)) j || not (any_final v rs)) && past_all f rs h k.1 j

-- ---- a final row more, as the code goes
module _ (v : ℕ) (xs : List ℕ) (limit : ℕ) where
  pub new-twice : has v xs ≡ true → with_new v xs limit ≡ twice
  new-twice e = simp e

  pub new-on : has v xs ≡ false → with_new v xs limit ≡ on (inserted v xs) limit
  new-on e = simp e

module _ (first v : ℕ) (l : List ℕ) (count limit : ℕ) where
  pub final-below : v < first → with_final first v (falling l count) limit ≡ on (falling l count) limit
  final-below h = simp (lt-ltb v first h)

  module _ (from : first ≤ v) where
    pub final-behind : limit ≤ v → with_final first v (falling l count) limit ≡ on (falling l count) limit
    final-behind k = simp (le-ltb v first from, le-ltb v limit k)

    module _ (less : v < limit) where
      pub final-new : count < most → with_final first v (falling l count) limit ≡ with_new v (falling l count) limit
      final-new k = simp (le-ltb v first from, lt-ltb v limit less, falling-long l count, lt-ltb count most k)

      module _ {n : ℕ} (full : count ≡ suc n) (long : most ≤ suc n) where
        less_by : (b : Bool) → ltb v (get_or l n 0) ≡ b → with_less v (falling l (suc n)) limit ≡ cond b (with_new v (falling l n) (get_or l n 0)) (on (falling l n) (get_or l n 0))
        unfolding falling
        less_by b e = ap (λ (b : Bool). cond b (with_new v (falling l n) (get_or l n 0)) (on (falling l n) (get_or l n 0))) e

        final-by : with_final first v (falling l count) limit ≡ with_less v (falling l (suc n)) limit
        final-by =
            let big : most ≤ length (falling l count) = omega (arith, falling-long l count, full, long) in
            let is : with_final first v (falling l count) limit ≡ with_less v (falling l count) limit = simp (le-ltb v first from, lt-ltb v limit less, le-ltb (length (falling l count)) most big) in
            is ∙ ap (λ (c : ℕ). with_less v (falling l c) limit) full

        pub final-stays : get_or l n 0 ≤ v → with_final first v (falling l count) limit ≡ on (falling l n) (get_or l n 0)
        final-stays k = final-by ∙ less_by false (le-ltb v (get_or l n 0) k)

        pub final-less : v < get_or l n 0 → with_final first v (falling l count) limit ≡ with_new v (falling l n) (get_or l n 0)
        final-less k = final-by ∙ less_by true (lt-ltb v (get_or l n 0) k)

-- ---- the pass at a place of a text where a row begins
pub pass-begin : (first : ℕ) (l : List ℕ) (count limit : ℕ) (o : Option (List Row)) → count ≡ 0 → limit ≡ 2 ^ 32 → pass_from first (falling l count) limit o ≡ pass_from first [] (2 ^ 32) o
unfolding falling
pass-begin first l count limit o p q = λ j. pass_from first (falling l (p j)) (q j) o

module _ (first : ℕ) (xs : List ℕ) (limit : ℕ) where
  -- what the rest of the rows comes to
  abbrev Rest : Option (List Row) → Going → Option ℕ
  Rest rest g = go_on g (λ ys l. pass_from first ys l rest)

  pull-none : (g : Going) → None ≡ go_on g (λ ys l. None)
  pull-none twice = refl
  pull-none (on ys l) = refl

  pull : (row : Row) (rest : Option (List Row)) → pass_from first xs limit (and_then rest (λ rs. Some (row ∷ rs))) ≡ Rest rest (with_read first xs limit (row_read row))
  unfolding pass_rows
  pull (link s t i o w) None = refl
  pull (link s t i o w) (Some rs) = refl
  pull (final v w) None = pull-none (with_final first v xs limit)
  pull (final v w) (Some rs) = refl

  pub pass-end : (o : Option (List Row)) → o ≡ Some [] → pass_from first xs limit o ≡ Some limit
  unfolding pass_rows
  pass-end o e = ap (pass_from first xs limit) e

  pub pass_step : (text : List ℕ) (at : ℕ) (r : Code.Row) (end : ℕ) → Stepped text at r end → (g : Going) → g ≡ with_read first xs limit r
      → pass_from first xs limit (rows_left text at) ≡ go_on g (λ ys l. pass_from first ys l (rows_left text end))
  pass_step text at r end st g q =
      ap (pass_from first xs limit) st.rows ∙ pull st.row (rows_left text end) ∙ ap (Rest (rows_left text end)) (sym (q ∙ ap (with_read first xs limit) st.is))

-- ---- what a final row does to the kept nodes
record Step (first v : ℕ) (xs : List ℕ) (limit : ℕ) (ys : List ℕ) (less : ℕ) : Type 0 where
  least : less ≤ limit
  later : first < less
  falls : Falls first less ys
  stay : (u : ℕ) → u < less → among u xs ≡ true → among u ys ≡ true
  new : first ≤ v → v < less → among v ys ≡ true
  apart : (u : ℕ) → u < less → among u xs ≡ true → v ≡ u → ⊥
  old : (u : ℕ) → among u ys ≡ true → among u xs ≡ false → (u ≡ v) × (first ≤ v)

abbrev Good : ℕ → ℕ → List ℕ → ℕ → Going → Type 0
Good first v xs limit twice = among v xs ≡ true
Good first v xs limit (on ys less) = Step first v xs limit ys less

not-both : (a : Bool) → a ≡ true → a ≡ false → ⊥
not-both a p q = false≢true (sym q ∙ p)

or_new : (a b : Bool) → (a || b) ≡ true → b ≡ false → a ≡ true
or_new true b p q = refl
or_new false b p q = absurd (not-both b p q)

module _ (first v : ℕ) (xs : List ℕ) (limit : ℕ) (falls : Falls first limit xs) (more : first < limit) where
  good-same : (v < first) ⊎ (limit ≤ v) → Step first v xs limit xs limit
  good-same s = record {
    least = omega arith;
    later = more;
    falls = falls;
    stay = λ u h t. t;
    new = λ h k. out s h k;
    apart = λ u h t z. not-both (among v xs) (ap (λ (n : ℕ). among n xs) z ∙ t) (absent s);
    old = λ u t e. absurd (not-both (among u xs) t e);
  }
    where
      out : (v < first) ⊎ (limit ≤ v) → first ≤ v → v < limit → among v xs ≡ true
      out (inl a) h k = absurd (omega (arith, a, h))
      out (inr a) h k = absurd (omega (arith, a, k))

      absent : (v < first) ⊎ (limit ≤ v) → among v xs ≡ false
      absent (inl a) = none_below first limit xs v falls a
      absent (inr a) = none_above first limit xs v falls a

  good_new : first ≤ v → v < limit → Good first v xs limit (with_new v xs limit)
  good_new h k = go (has v xs) refl
    where
      go : (b : Bool) → has v xs ≡ b → Good first v xs limit (cond b twice (on (inserted v xs) limit))
      go true e = sym (has-among first limit xs v falls) ∙ e
      go false e =
          let absent : among v xs ≡ false = sym (has-among first limit xs v falls) ∙ e in
          record {
            least = omega arith;
            later = more;
            falls = inserted-falls first limit xs v falls h k absent;
            stay = λ u c t. among-inserted u v xs ∙ or_right (eqb v u) (among u xs) t;
            new = λ c d. among-inserted v v xs ∙ or_left (eqb v v) (among v xs) (eq-eqb v v refl);
            apart = λ u c t z. not-both (among v xs) (ap (λ (n : ℕ). among n xs) z ∙ t) absent;
            old = λ u t q. (sym (eqb-true v u (or_new (eqb v u) (among u xs) (sym (among-inserted u v xs) ∙ t) q)), h);
          }

-- the greatest is left to the next pass
module _ (first v x : ℕ) (xs : List ℕ) (limit : ℕ) (below : x < limit) where
  among-rest : (u : ℕ) → u < x → among u (x ∷ xs) ≡ true → among u xs ≡ true
  unfolding among
  among-rest u h t = sym (ap (λ (b : Bool). b || among u xs) (ne_eqb x u (λ z. omega (arith, z, h)))) ∙ t

  wider : (g : Going) → Good first v xs x g → Good first v (x ∷ xs) limit g
  unfolding among
  wider twice s = or_right (eqb x v) (among v xs) s
  wider (on ys l) s = record {
    least = omega (arith, s.least, below);
    later = s.later;
    falls = s.falls;
    stay = λ u h t. s.stay u h (among-rest u (omega (arith, h, s.least)) t);
    new = s.new;
    apart = λ u h t. s.apart u h (among-rest u (omega (arith, h, s.least)) t);
    old = λ u t e. s.old u t (or-false (eqb x u) (among u xs) e).1;
  }

  good-less : Falls first x xs → first < x → first ≤ v → Good first v (x ∷ xs) limit (with_less v (x ∷ xs) limit)
  good-less falls more h = go (ltb v x) refl
    where
      go : (b : Bool) → ltb v x ≡ b → Good first v (x ∷ xs) limit (cond b (with_new v xs x) (on xs x))
      go true e = wider (with_new v xs x) (good_new first v xs x falls more h (ltb-true v x e))
      go false e = wider (on xs x) (good-same first v xs x falls more (inr (ltb-false v x e)))

good-full : (first v : ℕ) (xs : List ℕ) (limit : ℕ) → Falls first limit xs → most ≤ length xs → first ≤ v → Good first v xs limit (with_less v xs limit)
good-full first v [] limit f h k = absurd (omega (arith, h))
good-full first v (x ∷ []) limit f h k = absurd (omega (arith, h))
good-full first v (x ∷ y ∷ xs) limit f h k = good-less first v x (y ∷ xs) limit f.0 f.2 (omega (arith, f.2.0, f.2.1)) k

good-final : (first v : ℕ) (xs : List ℕ) (limit : ℕ) → Falls first limit xs → first < limit → Good first v xs limit (with_final first v xs limit)
good-final first v xs limit f more = go (ltb v first) refl (ltb v limit) refl (ltb (length xs) most) refl
  where
    go : (b : Bool) → ltb v first ≡ b → (c : Bool) → ltb v limit ≡ c → (d : Bool) → ltb (length xs) most ≡ d
        → Good first v xs limit (cond b (on xs limit) (cond c (cond d (with_new v xs limit) (with_less v xs limit)) (on xs limit)))
    go true p c q d r = good-same first v xs limit f more (inl (ltb-true v first p))
    go false p true q true r = good_new first v xs limit f more (ltb-false v first p) (ltb-true v limit q)
    go false p true q false r = good-full first v xs limit f (ltb-false (length xs) most r) (ltb-false v first p)
    go false p false q d r = good-same first v xs limit f more (inr (ltb-false v limit q))

-- ---- what a pass says of its rows
clear_or : (b a : Bool) → a ≡ false → (b || not a) ≡ true
clear_or true a e = refl
clear_or false a e = ap not e

both_false : (a b : Bool) → a ≡ false → b ≡ false → (a || b) ≡ false
both_false a b p q = λ j. p j || q j

record Next (first : ℕ) (xs : List ℕ) (limit n : ℕ) (rs : List Row) : Type 0 where
  least : n ≤ limit
  later : first < n
  unseen : (u : ℕ) → u < n → among u xs ≡ true → any_final u rs ≡ false
  same : once_from first rs ≡ once_from n rs

-- no kept node has a final row
abbrev Unseen : List ℕ → List Row → Type 0
Unseen xs rs = (u : ℕ) → among u xs ≡ true → any_final u rs ≡ false

-- a final row before others
module _ (first v : ℕ) (w : Weight) (xs : List ℕ) (limit : ℕ) (rs : List Row) where
  unseen-other : (u : ℕ) → (v ≡ u → ⊥) → any_final u rs ≡ false → any_final u (final v w ∷ rs) ≡ false
  unfolding any_final
  unseen-other u z e = both_false (eqb v u) (any_final u rs) (ne_eqb v u z) e

  module _ (n : ℕ) (later : first < n) (rest : once_from first rs ≡ once_from n rs) where
    same_by : (first ≤ v → v < n → any_final v rs ≡ false) → once_from first (final v w ∷ rs) ≡ once_from n (final v w ∷ rs)
    unfolding once_from
    same_by alone = λ j. either (ltb v first) refl (ltb v n) refl j && rest j
      where
        either : (b : Bool) → ltb v first ≡ b → (c : Bool) → ltb v n ≡ c → (ltb v first || not (any_final v rs)) ≡ (ltb v n || not (any_final v rs))
        either true p c q = let less = ltb-true v first p in λ j. (p ∙ sym (lt-ltb v n (omega (arith, less, later)))) j || not (any_final v rs)
        either false p true q =
            let once = alone (ltb-false v first p) (ltb-true v n q) in
            clear_or (ltb v first) (any_final v rs) once ∙ sym (clear_or (ltb v n) (any_final v rs) once)
        either false p false q = λ j. (p ∙ sym q) j || not (any_final v rs)

  next-by : (n : ℕ) (g : Going) → Good first v xs limit g → go_on g (λ ys l. pass_rows first ys l rs) ≡ Some n
      → ((ys : List ℕ) (l : ℕ) → Falls first l ys → first < l → pass_rows first ys l rs ≡ Some n → Next first ys l n rs) → Next first xs limit n (final v w ∷ rs)
  next-by n twice s e later = absurd (cc)
  next-by n (on ys l) s e later =
      let p = later ys l s.falls s.later e in
      record {
        least = omega (arith, p.least, s.least);
        later = p.later;
        unseen = λ u h t. unseen-other u (s.apart u (omega (arith, h, p.least)) t) (p.unseen u h (s.stay u (omega (arith, h, p.least)) t));
        same = same_by n p.later p.same (λ h k. p.unseen v k (s.new h (omega (arith, k, p.least))));
      }

  module _ (once : once_from first (final v w ∷ rs) ≡ true) (un : Unseen xs (final v w ∷ rs)) where
    rest-once : once_from first rs ≡ true
    unfolding once_from
    rest-once = (both (ltb v first || not (any_final v rs)) (once_from first rs) once).1

    rest-unseen : Unseen xs rs
    unfolding any_final
    rest-unseen u t = (or-false (eqb v u) (any_final u rs) (un u t)).1

    not-kept : among v xs ≡ true → ⊥
    unfolding any_final
    not-kept t = false≢true (sym (un v t) ∙ ap (λ (b : Bool). b || any_final v rs) (eq-eqb v v refl))

    alone : first ≤ v → any_final v rs ≡ false
    unfolding once_from
    alone h = not-true (any_final v rs) (sym (ap (λ (b : Bool). b || not (any_final v rs)) (le-ltb v first h)) ∙ (both (ltb v first || not (any_final v rs)) (once_from first rs) once).0)

    unseen-new : (ys : List ℕ) (l : ℕ) → Step first v xs limit ys l → Unseen ys rs
    unseen-new ys l s u t = go (among u xs) refl
      where
        go : (b : Bool) → among u xs ≡ b → any_final u rs ≡ false
        go true e = rest-unseen u e
        go false e = let is = s.old u t e in ap (λ (n : ℕ). any_final n rs) is.0 ∙ alone is.1

    twice-by : (g : Going) → Good first v xs limit g → go_on g (λ ys l. pass_rows first ys l rs) ≡ None
        → ((ys : List ℕ) (l : ℕ) → Falls first l ys → first < l → pass_rows first ys l rs ≡ None → once_from first rs ≡ true → Unseen ys rs → ⊥) → ⊥
    twice-by twice s e later = not-kept s
    twice-by (on ys l) s e later = later ys l s.falls s.later e rest-once (unseen-new ys l s)

-- a pass that goes on: of the nodes from `first` on, those before the next one have one final row each at most
goes : (first : ℕ) (xs : List ℕ) (limit n : ℕ) (rs : List Row) → Falls first limit xs → first < limit → pass_rows first xs limit rs ≡ Some n → Next first xs limit n rs
unfolding pass_rows once_from any_final
goes first xs limit n [] f more e = let is : limit ≡ n = cc in record { least = omega arith; later = omega arith; unseen = λ u h t. refl; same = refl }
goes first xs limit n (link s t i o w ∷ rs) f more e = let p = goes first xs limit n rs f more e in record { least = p.least; later = p.later; unseen = p.unseen; same = p.same }
goes first xs limit n (final v w ∷ rs) f more e = next-by first v w xs limit rs n (with_final first v xs limit) (good-final first v xs limit f more) e (λ ys l. goes first ys l n rs)

-- a pass that finds a node twice
finds : (first : ℕ) (xs : List ℕ) (limit : ℕ) (rs : List Row) → Falls first limit xs → first < limit → pass_rows first xs limit rs ≡ None → once_from first rs ≡ true → Unseen xs rs → ⊥
unfolding pass_rows once_from any_final
finds first xs limit [] f more e once un = absurd (cc)
finds first xs limit (link s t i o w ∷ rs) f more e once un = finds first xs limit rs f more e once un
finds first xs limit (final v w ∷ rs) f more e once un =
    twice-by first v w xs limit rs once un (with_final first v xs limit) (good-final first v xs limit f more) e (λ ys l. finds first ys l rs)

-- ---- the passes together
abbrev pub once_from_in : ℕ → Option (List Row) → Bool
once_from_in first None = false
once_from_in first (Some rs) = once_from first rs

pub from-begin : (o : Option (List Row)) → once_from_in 0 o ≡ once_in o
from-begin None = refl
from-begin (Some rs) = from_zero rs

nothing-kept : (rs : List Row) → Unseen [] rs
unfolding among
nothing-kept rs u t = absurd (false≢true t)

module _ (first : ℕ) (more : first < 2 ^ 32) where
  -- a node twice from `first` on
  pub once-twice : (o : Option (List Row)) → pass_from first [] (2 ^ 32) o ≡ None → once_from_in first o ≡ false
  once-twice None e = refl
  once-twice (Some rs) e = go (once_from first rs) refl
    where
      go : (b : Bool) → once_from first rs ≡ b → once_from first rs ≡ false
      go true q = absurd (finds first [] (2 ^ 32) rs tt more e q (nothing-kept rs))
      go false q = q

  -- from the next node on
  pub record GoesOn (n : ℕ) (o : Option (List Row)) : Type 0 where
    pub later : first < n
    pub same : once_from_in first o ≡ once_from_in n o
    pub ends : 2 ^ 32 ≤ n → once_from_in n o ≡ true

  pub once-next : (text : List ℕ) (n : ℕ) → pass_from first [] (2 ^ 32) (rows_left text 0) ≡ Some n → GoesOn n (rows_left text 0)
  once-next text n e = go (rows_left text 0) refl e
    where
      go : (o : Option (List Row)) → rows_left text 0 ≡ o → pass_from first [] (2 ^ 32) o ≡ Some n → GoesOn n o
      go None q e = absurd (cc)
      go (Some rs) q e =
          let p = goes first [] (2 ^ 32) n rs tt more e in
          record { later = p.later; same = p.same; ends = λ h. past_all n rs h (left-fit text 0 rs q) }
