-- No byte string is accepted under both trailers; reading accepts what is accepted under one of the two, and 1 says that it is laid out under neither.
-- Assumes nothing.
use mathlib.Core.Path.{◌≡◌, refl, sym, ap, ◌∙◌}
use mathlib.Core.Logic.{◌⊎◌, inl, inr, ◌↔◌}
use mathlib.Core.Bool.{Bool, true, false}
use mathlib.Core.List.{List}
use Prim.Native.Nat.{ℕ}
use native.Mathlib.Omega.{arith}
use Rattle.sheet.specs.declared.form.Form.{Form}
use Rattle.sheet.specs.Sheet.{short_trailer, long_trailer, trailer_length, laid_out, form_of, parts_under, parts_of, verdict, read_number}
use Rattle.sheet.specs.Under.{long_form, number_under}
use Rattle.sheet.proofs.Forms.{forms-apart, form-long, form-short, form-neither}

module _ (bytes : List ℕ) where
  -- what is not laid out is refused with 1
  unlaid : (f : Form) → laid_out (trailer_length f) bytes ≡ false → number_under f bytes ≡ 1
  unfolding number_under verdict
  unlaid f e = ap (λ (b : Bool). verdict b (parts_under f bytes)) e

  laid : (f : Form) (k : ℕ) → (k ≡ 1 → ⊥) → number_under f bytes ≡ k → laid_out (trailer_length f) bytes ≡ true
  laid f k n e = go (laid_out (trailer_length f) bytes) refl
    where
      go : (b : Bool) → laid_out (trailer_length f) bytes ≡ b → b ≡ true
      go true q = refl
      go false q = absurd (n (sym e ∙ unlaid f q))

  -- reading goes by the form
  pub by-form : (f : Form) → form_of bytes ≡ f → read_number bytes ≡ number_under f bytes
  by-form f e = own ∙ ap (λ (g : Form). number_under g bytes) e
    where
      own : read_number bytes ≡ number_under (form_of bytes) bytes
      own = unfold read_number number_under parts_of in refl

  -- no byte string is accepted under both trailers
  pub never-both : number_under Form.Short bytes ≡ 0 → number_under (long_form bytes) bytes ≡ 0 → ⊥
  never-both s l = forms-apart bytes (laid Form.Short 0 (λ e. omega (arith, e)) s) (laid (long_form bytes) 0 (λ e. omega (arith, e)) l)

  -- what is told apart from 1 under one trailer is what reading answers
  pub as-short : (number_under Form.Short bytes ≡ 1 → ⊥) → read_number bytes ≡ number_under Form.Short bytes
  as-short n = by-form Form.Short (form-short bytes (laid Form.Short _ n refl))

  pub as-long : (number_under (long_form bytes) bytes ≡ 1 → ⊥) → read_number bytes ≡ number_under (long_form bytes) bytes
  as-long n = by-form (long_form bytes) (form-long bytes (laid (long_form bytes) _ n refl))

  -- the form is one of the two
  either : (form_of bytes ≡ Form.Short) ⊎ (form_of bytes ≡ long_form bytes)
  either = go (laid_out long_trailer bytes) refl
    where
      go : (b : Bool) → laid_out long_trailer bytes ≡ b → (form_of bytes ≡ Form.Short) ⊎ (form_of bytes ≡ long_form bytes)
      go true q = inr (form-long bytes q)
      go false q = inl (form-neither bytes q)

  -- accepted is what is accepted under one of the two
  pub accepted-under : read_number bytes ≡ 0 ↔ ((number_under Form.Short bytes ≡ 0) ⊎ (number_under (long_form bytes) bytes ≡ 0))
  accepted-under = (go either, back)
    where
      go : (form_of bytes ≡ Form.Short) ⊎ (form_of bytes ≡ long_form bytes) → read_number bytes ≡ 0 → (number_under Form.Short bytes ≡ 0) ⊎ (number_under (long_form bytes) bytes ≡ 0)
      go (inl q) e = inl (sym (by-form Form.Short q) ∙ e)
      go (inr q) e = inr (sym (by-form (long_form bytes) q) ∙ e)

      back : (number_under Form.Short bytes ≡ 0) ⊎ (number_under (long_form bytes) bytes ≡ 0) → read_number bytes ≡ 0
      back (inl s) = as-short (λ z. omega (arith, s, z)) ∙ s
      back (inr l) = as-long (λ z. omega (arith, l, z)) ∙ l

  -- 1 is what is 1 under both
  pub layout-neither : read_number bytes ≡ 1 ↔ ((number_under Form.Short bytes ≡ 1) × (number_under (long_form bytes) bytes ≡ 1))
  layout-neither = (λ e. (short e (laid_out short_trailer bytes) refl, long e (laid_out long_trailer bytes) refl), λ e. back e either)
    where
      short : read_number bytes ≡ 1 → (b : Bool) → laid_out short_trailer bytes ≡ b → number_under Form.Short bytes ≡ 1
      short e true q = sym (by-form Form.Short (form-short bytes q)) ∙ e
      short e false q = unlaid Form.Short q

      long : read_number bytes ≡ 1 → (b : Bool) → laid_out long_trailer bytes ≡ b → number_under (long_form bytes) bytes ≡ 1
      long e true q = sym (by-form (long_form bytes) (form-long bytes q)) ∙ e
      long e false q = unlaid (long_form bytes) q

      back : (number_under Form.Short bytes ≡ 1) × (number_under (long_form bytes) bytes ≡ 1) → (form_of bytes ≡ Form.Short) ⊎ (form_of bytes ≡ long_form bytes) → read_number bytes ≡ 1
      back e (inl q) = by-form Form.Short q ∙ e.0
      back e (inr q) = by-form (long_form bytes) q ∙ e.1
