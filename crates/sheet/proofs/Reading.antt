-- What a link reader gives, by the tests that the code makes; and of an accepted sheet, each link in order, and then none. Assumes nothing.
use mathlib.Core.Path.{◌≡◌, refl, sym, ap, ◌∙◌, subst}
use mathlib.Core.Bool.{Bool, true, false, ◌&&◌, and-true}
use mathlib.Core.List.{List}
use Prim.Native.Nat.{ℕ, zero, suc, ◌+◌, ◌*◌, ◌≤◌, ◌<◌}
use native.Mathlib.Numerals.{add-one}
use native.Mathlib.Omega.{arith}
use lib.Dec.{T as Holds, leb, ltb, leb→le, ltb→lt}
use lib.ListN.{length}
use lib.Ieee.Fits.{and_l, and_r}
use borrow.Author.Tests.{lt-ltb, le-ltb, lt-leb, le-leb, leb-true, leb-false}
use Rattle.std.specs.Prelude.{Some, None}
use Rattle.sheet.specs.Sheet.{link_length, node_length, read_number, stated_links, stated_nodes, short_trailer, trailer_size, form_of}
use Rattle.sheet.specs.Records.{link_at}
use Rattle.sheet.specs.Reading.{has_link, next_by, next_link, place_by, place_after, place_at}
use Rattle.sheet.proofs.Forms.{size-least}
use Rattle.sheet.proofs.Fields.{length-read, read_fits}

-- ---- the tests in their order
module _ (bytes : List ℕ) (l : ℕ) where
  pub has_short : length bytes < short_trailer → has_link bytes l ≡ false
  has_short h = ap (λ (b : Bool). b && ltb l (stated_links bytes) && leb (link_length * stated_links bytes + trailer_size bytes) (length bytes)) (lt-leb short_trailer (length bytes) h)

  pub has-past : short_trailer ≤ length bytes → stated_links bytes ≤ l → has_link bytes l ≡ false
  has-past h k = λ i. le-leb short_trailer (length bytes) h i && le-ltb l (stated_links bytes) k i && leb (link_length * stated_links bytes + trailer_size bytes) (length bytes)

  pub has-stated : short_trailer ≤ length bytes → l < stated_links bytes → has_link bytes l ≡ leb (link_length * stated_links bytes + trailer_size bytes) (length bytes)
  has-stated h k = λ i. le-leb short_trailer (length bytes) h i && lt-ltb l (stated_links bytes) k i && leb (link_length * stated_links bytes + trailer_size bytes) (length bytes)

-- ---- a link that is there
module _ (bytes : List ℕ) (l : ℕ) (has : has_link bytes l ≡ true) where
  there : Holds (has_link bytes l)
  there = subst Holds (sym has) tt

  link-stated : l < stated_links bytes
  link-stated = ltb→lt l (stated_links bytes) (and_r (leb short_trailer (length bytes)) (ltb l (stated_links bytes)) (and_l (leb short_trailer (length bytes) && ltb l (stated_links bytes)) (leb (link_length * stated_links bytes + trailer_size bytes) (length bytes)) there))

  links-within : link_length * stated_links bytes + trailer_size bytes ≤ length bytes
  links-within = leb→le (link_length * stated_links bytes + trailer_size bytes) (length bytes) (and_r (leb short_trailer (length bytes) && ltb l (stated_links bytes)) (leb (link_length * stated_links bytes + trailer_size bytes) (length bytes)) there)

  -- so its bytes lie in the sheet
  pub link-within : link_length * l + 16 ≤ length bytes
  link-within = within (stated_links bytes) (trailer_size bytes) link-stated links-within
    where
      within : (t z : ℕ) → l < t → link_length * t + z ≤ length bytes → link_length * l + 16 ≤ length bytes
      within t z h k = omega (arith, h, k)

-- ---- an accepted sheet
module _ (bytes : List ℕ) (accepted : read_number bytes ≡ 0) where
  abbrev T : ℕ
  T = stated_links bytes

  sized : length bytes ≡ link_length * T + node_length * stated_nodes bytes + trailer_size bytes
  sized = length-read bytes (read_fits bytes accepted)

  -- there is a link l just where the trailer states it
  pub has-accepted : (l : ℕ) → has_link bytes l ≡ ltb l T
  has-accepted l =
      (λ i. le-leb short_trailer (length bytes) (omega (arith, sized, size-least (form_of bytes))) i && ltb l T && le-leb (link_length * T + trailer_size bytes) (length bytes) (omega (arith, sized)) i)
      ∙ and-true (ltb l T)

  pub gives-link : (l : ℕ) → l < T → next_link bytes l ≡ Some (link_at bytes l)
  gives-link l h = ap (λ (b : Bool). next_by b bytes l) (has-accepted l ∙ lt-ltb l T h)

  pub gives-end : (l : ℕ) → T ≤ l → next_link bytes l ≡ None
  gives-end l h = ap (λ (b : Bool). next_by b bytes l) (has-accepted l ∙ le-ltb l T h)

  -- the places of a reader: 0, 1, .., T, and T from then on
  goes_on : (l : ℕ) → l < T → place_after bytes l ≡ suc l
  goes_on l h = ap (λ (b : Bool). place_by b l) (has-accepted l ∙ lt-ltb l T h) ∙ add-one l

  stays : place_after bytes T ≡ T
  stays = ap (λ (b : Bool). place_by b T) (has-accepted T ∙ le-ltb T T (omega arith))

  place-below : (k : ℕ) → k ≤ T → place_at bytes k ≡ k
  unfolding place_at
  place-below zero h = refl
  place-below (suc k) h = ap (place_after bytes) (place-below k (omega (arith, h))) ∙ goes_on k (omega (arith, h))

  place-past : (k : ℕ) → T ≤ k → place_at bytes k ≡ T
  unfolding place_at
  place-past zero h = omega (arith, h)
  place-past (suc k) h = by (λ was. place-past k was) (leb T k) refl
    where
      by : (T ≤ k → place_at bytes k ≡ T) → (b : Bool) → leb T k ≡ b → place_at bytes (suc k) ≡ T
      by past true e = ap (place_after bytes) (past (leb-true T k e)) ∙ stays
      by past false e = place-below (suc k) (leb-false T k e) ∙ let last : suc k ≡ T = omega (arith, h, leb-false T k e) in last

  -- so it gives each link once, in order, and then none
  pub reads-link : (k : ℕ) → k < T → next_link bytes (place_at bytes k) ≡ Some (link_at bytes k)
  reads-link k h = ap (next_link bytes) (place-below k (omega (arith, h))) ∙ gives-link k h

  pub reads_end : (k : ℕ) → T ≤ k → next_link bytes (place_at bytes k) ≡ None
  reads_end k h = ap (next_link bytes) (place-past k h) ∙ gives-end T (omega arith)
