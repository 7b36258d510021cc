-- The two forms: no byte string is laid out under both trailers, and each unit is one that the laws cover. Assumes nothing.
use mathlib.Core.Path.{◌≡◌, refl, sym, ap, subst}
use mathlib.Core.Logic.{◌⊎◌, inl, inr}
use mathlib.Core.Bool.{Bool, true, false, ◌&&◌, cond}
use mathlib.Core.List.{List}
use Prim.Native.Nat.{ℕ, zero, suc, ◌+◌, ◌-◌, ◌*◌, ◌≤◌, ◌<◌}
use native.Mathlib.Omega.{arith}
use lib.Dec.{T, leb, eqb, leb→le, eqb→eq}
use lib.ListN.{length, get_or}
use lib.Ieee.Fits.{and_l, and_r}
use borrow.Author.Tests.{eqb-true}
use Rattle.tropical_weight.specs.Limits.{unit, finest}
use Rattle.sheet.specs.declared.form.Form.{Form}
use Rattle.sheet.specs.Words.{word}
use Rattle.sheet.specs.Sheet.{link_length, node_length, short_trailer, long_trailer, trailer_length, trailer_size, unit_fields, unit_of, unit_fits, field_back, laid_out, form_of}
use Rattle.sheet.proofs.Apart.{or-either}

-- what the layout says
pub record LaidOut (size : ℕ) (bytes : List ℕ) : Type 0 where
  pub long-enough : size ≤ length bytes
  pub links-at : field_back size bytes 0 ≡ 0
  pub nodes-at : field_back size bytes 1 ≡ link_length * field_back size bytes 3
  pub size_is : length bytes ≡ link_length * field_back size bytes 3 + node_length * field_back size bytes 2 + size

pub laid-out : (size : ℕ) (bytes : List ℕ) → laid_out size bytes ≡ true → LaidOut size bytes
unfolding laid_out
laid-out size bytes e =
    let t = subst T (sym e) tt in
    let a = leb size (length bytes) in
    let b = eqb (field_back size bytes 0) 0 in
    let c = eqb (field_back size bytes 1) (link_length * field_back size bytes 3) in
    let d = eqb (length bytes) (link_length * field_back size bytes 3 + node_length * field_back size bytes 2 + size) in
    record {
      long-enough = leb→le size (length bytes) (and_l a b (and_l (a && b) c (and_l (a && b && c) d t)));
      links-at = eqb→eq (field_back size bytes 0) 0 (and_r a b (and_l (a && b) c (and_l (a && b && c) d t)));
      nodes-at = eqb→eq (field_back size bytes 1) (link_length * field_back size bytes 3) (and_r (a && b) c (and_l (a && b && c) d t));
      size_is = eqb→eq (length bytes) (link_length * field_back size bytes 3 + node_length * field_back size bytes 2 + size) (and_r (a && b && c) d t);
    }

-- the fields of the short trailer are those of the long one, one further on
further : (bytes : List ℕ) (i : ℕ) → long_trailer ≤ length bytes → field_back long_trailer bytes (i + 1) ≡ field_back short_trailer bytes i
further bytes i h = ap (word bytes) (let z : length bytes - 24 + 4 * (i + 1) ≡ length bytes - 20 + 4 * i = omega arith in z)

-- Under both: the long one's T' is N and 16 T' is 0, so that N is 0; its N' is 16 T. Then 16 T + 20 is 192 T + 24.
pub forms-apart : (bytes : List ℕ) → laid_out short_trailer bytes ≡ true → laid_out long_trailer bytes ≡ true → ⊥
forms-apart bytes s t =
    let a = laid-out short_trailer bytes s in
    let b = laid-out long_trailer bytes t in
    let h = b.long-enough in
    absurd (omega (arith, a.links-at, a.nodes-at, a.size_is, b.links-at, b.nodes-at, b.size_is, further bytes 0 h, further bytes 1 h, further bytes 2 h))

-- so a byte string that is laid out under one is of that form
pub form-long : (bytes : List ℕ) → laid_out long_trailer bytes ≡ true → form_of bytes ≡ Form.Long (field_back long_trailer bytes 5)
unfolding form_of
form-long bytes e = ap (λ (b : Bool). cond b (Form.Long (field_back long_trailer bytes 5)) Form.Short) e

pub form-short : (bytes : List ℕ) → laid_out short_trailer bytes ≡ true → form_of bytes ≡ Form.Short
unfolding form_of
form-short bytes e = ap (λ (b : Bool). cond b (Form.Long (field_back long_trailer bytes 5)) Form.Short) (no (laid_out long_trailer bytes) refl)
  where
    no : (b : Bool) → laid_out long_trailer bytes ≡ b → b ≡ false
    no true q = absurd (forms-apart bytes e q)
    no false q = refl

pub form-neither : (bytes : List ℕ) → laid_out long_trailer bytes ≡ false → form_of bytes ≡ Form.Short
unfolding form_of
form-neither bytes e = ap (λ (b : Bool). cond b (Form.Long (field_back long_trailer bytes 5)) Form.Short) e

-- ---- the size of a trailer
pub size-least : (f : Form) → short_trailer ≤ trailer_length f
size-least Form.Short = omega arith
size-least (Form.Long u) = omega arith

pub size-most : (f : Form) → trailer_length f ≤ long_trailer
size-most Form.Short = omega arith
size-most (Form.Long u) = omega arith

-- bytes that are long enough for the shorter are long enough for their own
pub size-within : (bytes : List ℕ) → short_trailer ≤ length bytes → trailer_size bytes ≤ length bytes
size-within bytes h = go (laid_out long_trailer bytes) refl
  where
    go : (b : Bool) → laid_out long_trailer bytes ≡ b → trailer_size bytes ≤ length bytes
    go true q = subst (λ (f : Form). trailer_length f ≤ length bytes) (sym (form-long bytes q)) ((laid-out long_trailer bytes q).long-enough)
    go false q = subst (λ (f : Form). trailer_length f ≤ length bytes) (sym (form-neither bytes q)) h

-- ---- every form's unit is one that the laws cover
pub covered : (f : Form) → unit_of f ≤ finest
covered Form.Short = omega arith
covered (Form.Long u) = go (eqb u 256)
  where
    go : (b : Bool) → cond b finest unit ≤ finest
    go true = omega arith
    go false = omega arith

-- a sixth field that passes test 14 is a word
pub unit-word : (f : Form) → unit_fits f ≡ true → (i : ℕ) → get_or (unit_fields f) i 0 < 4294967296
unit-word Form.Short e i = omega arith
unit-word (Form.Long u) e zero = go (or-either (eqb u 64) (eqb u 256) e)
  where
    go : (eqb u 64 ≡ true) ⊎ (eqb u 256 ≡ true) → u < 4294967296
    go (inl a) = omega (arith, eqb-true u 64 a)
    go (inr b) = omega (arith, eqb-true u 256 b)
unit-word (Form.Long u) e (suc i) = omega arith
