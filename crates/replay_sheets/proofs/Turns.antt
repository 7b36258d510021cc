-- One link more of those that a reader gives. Assumes nothing.
use Rattle.std.proofs.Common.{◌≡◌, ℕ, ◌+◌, List, sym, ap, ◌∙◌, add-one}
use Rattle.sheet.specs.Reading.{place_after, place_at}

-- the place after the one that k links lead to
pub place-more : (sheet : List ℕ) (place k : ℕ) → place ≡ place_at sheet k → place_after sheet place ≡ place_at sheet (k + 1)
unfolding place_at
place-more sheet place k here = ap (place_after sheet) here ∙ ap (place_at sheet) (sym (add-one k))
