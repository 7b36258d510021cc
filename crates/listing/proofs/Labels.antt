-- The labels of a run, one after the other. Assumes nothing.
use mathlib.Core.Path.{◌≡◌, sym, ap, ◌∙◌}
use mathlib.Core.List.{List, [], ◌∷◌, ◌++◌, map, map-append, flat_map}
use Prim.Native.Nat.{ℕ, ◌+◌, ◌*◌, ◌<◌}
use native.Mathlib.Numerals.{add-one}
use lib.ListN.{length, take, get_or}
use lib.Seq.{take-suc}
use Rattle.sheet.specs.Words.{word}
use Rattle.sheet.proofs.Below.{flat-snoc}
use Rattle.listing.specs.Text.{label_text, labels_of}
use Rattle.sheet.specs.Sheet.{link_length}

-- one label more of a run
pub labels-more : (sheet run : List ℕ) (i : ℕ) → i < length run
    → flat_map label_text (labels_of sheet (take i run)) ++ label_text (word sheet (link_length * get_or run i 0)) ≡ flat_map label_text (labels_of sheet (take (i + 1) run))
labels-more sheet run i h =
    let label : ℕ → ℕ = λ (l : ℕ). word sheet (link_length * l) in
    sym (flat-snoc label_text (map label (take i run)) (label (get_or run i 0)))
    ∙ ap (flat_map label_text) (sym (map-append label (take i run) (get_or run i 0 ∷ [])) ∙ ap (map label) (sym (ap (λ (k : ℕ). take k run) (add-one i) ∙ take-suc run i 0 h)))
