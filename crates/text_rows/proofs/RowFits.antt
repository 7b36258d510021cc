-- The numbers of rows that are read are 32-bit, and so are the words of their sheet. Assumes nothing.
use mathlib.Core.Path.{◌≡◌, refl, sym, subst}
use mathlib.Core.Bool.{Bool, true, false, cond}
use Rattle.std.proofs.Common.{Option, None, Some}
use mathlib.Core.List.{List, [], ◌∷◌, ◌++◌, flat_map}
use Prim.Native.Nat.{ℕ, zero, suc, ◌+◌, ◌^◌, ◌≤◌, ◌<◌}
use native.Mathlib.Omega.{arith}
use lib.Dec.{ltb, eqb}
use lib.IntN.{pos}
use borrow.Author.Tests.{ltb-true}
use Rattle.tropical_weight.specs.Limits.{unit}
use Rattle.sheet.proofs.Round.{Below}
use Rattle.sheet.proofs.Encoding.{bits-lt}
use Rattle.decimals.specs.Decimal.{digits_of}
use Rattle.text_rows.specs.Fields.{Weight, finite, and_then, rows_of, ended, fields_of, number_of, weight_of}
use Rattle.text_rows.specs.Rows.{Row, link, final, link_by, final_by, row_by, row_of, all_rows, finals_once, read_rows, weighs}
use Rattle.text_rows.specs.Convert.{field_of, link_from, count_from, mark_fields, links_in, nodes_in, parts_of_rows}
use Rattle.text_rows.proofs.Segments.{segments}
use Rattle.text_rows.proofs.Judged.{links-are, nodes-are}

-- ---- the numbers of a row
abbrev pub RowFits : Row → Type 0
RowFits (link s t i o w) = (s < 2 ^ 32) × (t < 2 ^ 32) × (i < 2 ^ 32) × (o < 2 ^ 32)
RowFits (final v w) = v < 2 ^ 32

abbrev pub AllFit : List Row → Type 0
AllFit [] = Unit {0}
AllFit (r ∷ rs) = RowFits r × AllFit rs

number_fits : (f : List ℕ) (n : ℕ) → number_of f ≡ Some n → n < 2 ^ 32
unfolding number_of
number_fits f n e = go (digits_of f) e
  where
    go : (o : Option ℕ) → and_then o (λ m. cond (ltb m (2 ^ 32)) (Some m) None) ≡ Some n → n < 2 ^ 32
    go None e = absurd (cc)
    go (Some m) e = by (ltb m (2 ^ 32)) refl e
      where
        by : (b : Bool) → ltb m (2 ^ 32) ≡ b → cond b (Some m) None ≡ Some n → n < 2 ^ 32
        by false q e = absurd (cc)
        by true q e = let z : m ≡ n = cc in omega (arith, ltb-true m (2 ^ 32) q)

final-fits : (f : List ℕ) (w : Option Weight) (r : Row) → final_by (number_of f) w ≡ Some r → RowFits r
final-fits f w r e = go (number_of f) refl w e
  where
    go : (o : Option ℕ) → number_of f ≡ o → (w : Option Weight) → final_by o w ≡ Some r → RowFits r
    go None q w e = absurd (cc)
    go (Some v) q None e = absurd (cc)
    go (Some v) q (Some x) e = let z : final v x ≡ r = cc in subst RowFits z (number_fits f v q)

link_fits : (a b c d : List ℕ) (w : Option Weight) (r : Row) → link_by (number_of a) (number_of b) (number_of c) (number_of d) w ≡ Some r → RowFits r
link_fits a b c d w r e = go (number_of a) refl (number_of b) refl (number_of c) refl (number_of d) refl w e
  where
    go : (s : Option ℕ) → number_of a ≡ s → (t : Option ℕ) → number_of b ≡ t → (i : Option ℕ) → number_of c ≡ i → (o : Option ℕ) → number_of d ≡ o → (w : Option Weight)
        → link_by s t i o w ≡ Some r → RowFits r
    go None p t q i x o y w e = absurd (cc)
    go (Some s) p None q i x o y w e = absurd (cc)
    go (Some s) p (Some t) q None x o y w e = absurd (cc)
    go (Some s) p (Some t) q (Some i) x None y w e = absurd (cc)
    go (Some s) p (Some t) q (Some i) x (Some o) y None e = absurd (cc)
    go (Some s) p (Some t) q (Some i) x (Some o) y (Some k) e =
        let z : link s t i o k ≡ r = cc in subst RowFits z (number_fits a s p, number_fits b t q, number_fits c i x, number_fits d o y)

row_fits : (fs : List (List ℕ)) (r : Row) → row_by fs ≡ Some r → RowFits r
unfolding row_by
row_fits [] r e = absurd (cc)
row_fits (v ∷ []) r e = final-fits v (Some (finite (pos 0))) r e
row_fits (v ∷ w ∷ []) r e = final-fits v (weight_of w) r e
row_fits (x ∷ y ∷ z ∷ []) r e = absurd (cc)
row_fits (s ∷ t ∷ i ∷ o ∷ []) r e = link_fits s t i o (Some (finite (pos 0))) r e
row_fits (s ∷ t ∷ i ∷ o ∷ w ∷ []) r e = link_fits s t i o (weight_of w) r e
row_fits (s ∷ t ∷ i ∷ o ∷ w ∷ x ∷ xs) r e = absurd (cc)

pub rows_fit : (xs : List (List ℕ)) (rs : List Row) → all_rows xs ≡ Some rs → AllFit rs
unfolding all_rows
rows_fit [] rs e = let z : [] ≡ rs = cc in subst AllFit z tt
rows_fit (x ∷ xs) rs e = go (row_of x) refl (all_rows xs) refl e (rows_fit xs)
  where
    go : (a : Option Row) → row_of x ≡ a → (b : Option (List Row)) → all_rows xs ≡ b → and_then a (λ r. and_then b (λ rs. Some (r ∷ rs))) ≡ Some rs
        → ((qs : List Row) → all_rows xs ≡ Some qs → AllFit qs) → AllFit rs
    go None p b q e later = absurd (cc)
    go (Some r) p None q e later = absurd (cc)
    go (Some r) p (Some qs) q e later = let z : r ∷ qs ≡ rs = cc in subst AllFit z (row_fits (fields_of x) r p, later qs q)

pub read-fit : (text : List ℕ) (rs : List Row) → read_rows text ≡ Some rs → AllFit rs
unfolding read_rows
read-fit text rs e = go (ended text) (all_rows (rows_of text)) refl e
  where
    go : (b : Bool) (o : Option (List Row)) → all_rows (rows_of text) ≡ o → cond b (and_then o (λ qs. cond (finals_once qs) (Some qs) None)) None ≡ Some rs → AllFit rs
    go false o q e = absurd (cc)
    go true None q e = absurd (cc)
    go true (Some qs) q e = by (finals_once qs) e
      where
        by : (c : Bool) → cond c (Some qs) None ≡ Some rs → AllFit rs
        by false e = absurd (cc)
        by true e = let z : qs ≡ rs = cc in subst AllFit z (rows_fit (rows_of text) qs q)

-- ---- words
abbrev pub Words : List ℕ → Type 0
Words [] = Unit {0}
Words (x ∷ xs) = (x < 2 ^ 32) × Words xs

words_append : (xs ys : List ℕ) → Words xs → Words ys → Words (xs ++ ys)
words_append [] ys h k = k
words_append (x ∷ xs) ys h k = (h.0, words_append xs ys h.1 k)

words-below : (xs : List ℕ) → Words xs → Below 4294967296 xs
words-below [] h i = omega arith
words-below (x ∷ xs) h zero = h.0
words-below (x ∷ xs) h (suc i) = words-below xs h.1 i

words-segments : (n : ℕ) (f : ℕ → List ℕ) → ((v : ℕ) → Words (f v)) → Words (segments n f)
unfolding segments
words-segments zero f h = tt
words-segments (suc n) f h = words_append (segments n f) (f n) (words-segments n f h) (h n)

pub field_lt : (w : Weight) → field_of w < 2 ^ 32
field_lt w = bits-lt unit (omega arith) (weighs w)

link-words : (v : ℕ) (rs : List Row) → AllFit rs → Words (flat_map (link_from v) rs)
unfolding flat_map
link-words v [] h = tt
link-words v (link s t i o w ∷ rs) h = words_append (link_from v (link s t i o w)) (flat_map (link_from v) rs) (go (eqb s v)) (link-words v rs h.1)
  where
    go : (b : Bool) → Words (cond b (i ∷ o ∷ field_of w ∷ t ∷ []) [])
    go true = (h.0.2, (h.0.3, (field_lt w, (h.0.1, tt))))
    go false = tt
link-words v (final u w ∷ rs) h = link-words v rs h.1

pub count-le : (v : ℕ) (rs : List Row) → count_from v rs ≤ links_in rs
unfolding count_from links_in
count-le v [] = omega arith
count-le v (link s t i o w ∷ rs) = go (eqb s v) (count-le v rs)
  where
    go : (b : Bool) → count_from v rs ≤ links_in rs → cond b 1 0 + count_from v rs ≤ 1 + links_in rs
    go true h = omega arith
    go false h = omega arith
count-le v (final u w ∷ rs) = omega (arith, count-le v rs)

final-words : (v : ℕ) (rs : List Row) → Words (mark_fields v rs)
unfolding mark_fields
final-words v [] = (omega arith, (omega arith, tt))
final-words v (link s t i o w ∷ rs) = final-words v rs
final-words v (final u w ∷ rs) = go (eqb u v) (final-words v rs)
  where
    go : (b : Bool) → Words (mark_fields v rs) → Words (cond b (1 ∷ field_of w ∷ []) (mark_fields v rs))
    go true h = (omega arith, (field_lt w, tt))
    go false h = h

module _ (rs : List Row) where
  pub links-below : AllFit rs → Below 4294967296 (parts_of_rows rs).links
  links-below h = subst (Below 4294967296) (sym (links-are rs)) (words-below (segments (nodes_in rs) (λ v. flat_map (link_from v) rs)) (words-segments (nodes_in rs) (λ v. flat_map (link_from v) rs) (λ v. link-words v rs h)))

  pub nodes-below : links_in rs < 2 ^ 32 → Below 4294967296 (parts_of_rows rs).nodes
  nodes-below few =
      subst (Below 4294967296) (sym (nodes-are rs))
      (words-below (segments (nodes_in rs) (λ v. count_from v rs ∷ mark_fields v rs)) (words-segments (nodes_in rs) (λ v. count_from v rs ∷ mark_fields v rs) (λ v. (omega (arith, count-le v rs), final-words v rs))))
