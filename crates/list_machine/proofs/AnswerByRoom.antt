-- What writing a list leaves where the result has room for it. Assumes nothing.
use mathlib.Core.Path.{◌≡◌, sym, ap, ◌∙◌}
use mathlib.Core.Bool.{Bool, cond}
use mathlib.Core.List.{List, ◌++◌}
use Prim.Native.Nat.{ℕ, ◌+◌, ◌*◌, ◌≤◌}
use native.Mathlib.Nat.{zero-add}
use native.Mathlib.Omega.{arith}
use lib.ListN.{length, drop}
use lib.Seq.{sets, sets-eq}
use borrow.Author.Tests.{le-ltb}
use Rattle.sheet.specs.declared.form.Form.{Form}
use Rattle.sheet.specs.Words.{word_length, bytes_of_all}
use Rattle.sheet.specs.Sheet.{link_length, node_length, trailer_length}
use Rattle.list_machine.specs.TrimWords.{stated, kept_count, list_length, list_words, list_after, Listable}
use Rattle.list_machine.proofs.Marks.{new-kept}
use Rattle.list_machine.proofs.Placing.{length-list}

module _ (bytes : List ℕ) (links : ℕ) (form : Form) (part : List ℕ) (entries listed : ℕ) (x : Listable bytes links part entries listed) (old : List ℕ) where
  abbrev kept : ℕ
  kept = kept_count entries listed part

  abbrev all : List ℕ
  all = list_words bytes links form (stated entries listed part) entries listed kept

  fits : list_length form listed kept ≤ length old → sets old 0 (bytes_of_all all) ≡ list_after bytes links form part entries listed old
  fits h =
      let long = length-list bytes links form (stated entries listed part) entries listed kept (sym (new-kept bytes links part entries listed x)) in
      sets-eq (bytes_of_all all) old 0 (omega (arith, long))
      ∙ ap (λ (n : ℕ). bytes_of_all all ++ drop n old) (zero-add (length (bytes_of_all all)) ∙ long)
      ∙ sym (ap (λ (t : Bool). cond t old (bytes_of_all all ++ drop (list_length form listed kept) old)) (le-ltb (length old) (list_length form listed kept) h))

  -- by what the calls answer
  pub made-area : (k size : ℕ) (p : List ℕ) → k ≡ kept_count entries listed part → size ≡ trailer_length form → p ≡ stated entries listed part → link_length * (listed + k) + node_length * (2 + k) + size + word_length * (listed + k) ≤ length old
      → (area : List ℕ) → area ≡ sets old 0 (bytes_of_all (list_words bytes links form p entries listed k)) → area ≡ list_after bytes links form part entries listed old
  made-area k size p e d f h area g = g ∙ (λ j. sets old 0 (bytes_of_all (list_words bytes links form (f j) entries listed (e j)))) ∙ fits (omega (arith, e, d))
