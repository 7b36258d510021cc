-- Stores one after the other are one run of stores. Assumes nothing.
use mathlib.Core.Path.{◌≡◌, sym, ap, ◌∙◌}
use mathlib.Core.List.{List, [], ◌∷◌, ◌++◌}
use Prim.Native.Nat.{ℕ, ◌+◌}
use native.Mathlib.Numerals.{add-one}
use lib.ListN.{length, set}
use lib.Seq.{sets}
use Rattle.sheet.specs.Below.{list_below}
use Rattle.sheet.proofs.Below.{length-list_below}
use Rattle.sheet.proofs.Bytes.{sets-append}

-- one cell more, behind the others
pub sets_more : (l : List ℕ) (at : ℕ) (xs : List ℕ) (x place : ℕ) → place ≡ at + length xs → set (sets l at xs) place x ≡ sets l at (xs ++ (x ∷ []))
sets_more l at xs x place e = ap (λ (k : ℕ). set (sets l at xs) k x) e ∙ sym (sets-append l at xs (x ∷ []))

-- the same of cells by their numbers
pub sets_below : (l : List ℕ) (at i : ℕ) (f : ℕ → ℕ) → set (sets l at (list_below i f)) (at + i) (f i) ≡ sets l at (list_below (i + 1) f)
unfolding list_below
sets_below l at i f =
    sets_more l at (list_below i f) (f i) (at + i) (ap (λ (k : ℕ). at + k) (sym (length-list_below i f)))
    ∙ ap (λ (k : ℕ). sets l at (list_below k f)) (sym (add-one i))
