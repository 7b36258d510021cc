-- The empty answer by its words. Assumes nothing.
use mathlib.Core.Path.{◌≡◌, refl, sym, ap, ◌∙◌}
use mathlib.Core.Bool.{Bool, cond}
use mathlib.Core.List.{List, ◌++◌, flat_map}
use Prim.Native.Nat.{ℕ, ◌+◌, ◌≤◌, ◌<◌}
use native.Mathlib.Omega.{arith}
use lib.ListN.{length, drop}
use lib.Seq.{sets, sets-eq}
use borrow.Author.Tests.{lt-ltb, le-ltb}
use Rattle.sheet.specs.declared.form.Form.{Form}
use Rattle.sheet.specs.Words.{bytes_of_all}
use Rattle.sheet.specs.Sheet.{no_start, trailer_length, sheet_of}
use Rattle.sheet.specs.Accepted.{trailer_in, trailer_fields}
use Rattle.sheet.specs.Machine.{parts_for, node_fields}
use Rattle.search.specs.ListMachine.{empty, result_bytes}
use Rattle.std.specs.Prelude.{Ok, Err}
use Rattle.sheet.specs.declared.refusal.Refusal.{Refusal}
use Rattle.list_answer.specs.declared.Listed.{Listed}
use Rattle.list_answer.specs.ListAnswer.{listed_by, listed_in, listed_over}

-- no nodes and no start
abbrev pub no_words : Form → List ℕ
no_words form = trailer_fields (trailer_in 0 0 no_start form)

pub none-bytes : (form : Form) → result_bytes (empty form) ≡ bytes_of_all (no_words form)
unfolding result_bytes sheet_of parts_for flat_map node_fields bytes_of_all
none-bytes Form.Short = refl
none-bytes (Form.Long u) = refl

none-size : (form : Form) → length (result_bytes (empty form)) ≡ trailer_length form
unfolding result_bytes sheet_of parts_for flat_map node_fields bytes_of_all
none-size Form.Short = refl
none-size (Form.Long u) = refl

abbrev no_list : Listed
no_list = record { nodes = 0; links = 0; taken = 0 }

module _ (form : Form) (old : List ℕ) where
  abbrev bytes : List ℕ
  bytes = result_bytes (empty form)

  abbrev over : Bool → List ℕ
  over b = cond b old (bytes ++ drop (length bytes) old)

  pub none-short : length old < trailer_length form → (Err Refusal.Room ≡ listed_in (empty form) (length old)) × (old ≡ listed_over (empty form) old)
  none-short h =
      let short = lt-ltb (length old) (length bytes) (omega (arith, none-size form)) in
      (sym (ap (λ (b : Bool). listed_by b 0 0 0) short), sym (ap over short))

  pub none-long : (new : List ℕ) → trailer_length form ≤ length old → new ≡ sets old 0 (bytes_of_all (no_words form)) → (Ok no_list ≡ listed_in (empty form) (length old)) × (new ≡ listed_over (empty form) old)
  none-long new h e =
      let long = le-ltb (length old) (length bytes) (omega (arith, none-size form)) in (
        sym (ap (λ (b : Bool). listed_by b 0 0 0) long),
        e
            ∙ ap (sets old 0) (sym (none-bytes form))
            ∙ sets-eq bytes old 0 (omega (arith, none-size form))
            ∙ ap (λ (k : ℕ). bytes ++ drop k old) (let z : 0 + length bytes ≡ length bytes = omega arith in z)
            ∙ sym (ap over long),
      )
