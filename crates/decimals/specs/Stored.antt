-- Mirrors the code: text stored in a byte area. A reader need not believe it: open calls promise their areas by equations. Definitions only.
use Rattle.std.specs.Prelude.{◌≡◌, List, ℕ, ◌+◌, length}
use Rattle.std.proofs.lemmas.List.Edits.{sets}

-- `new` is `old` with the text stored from a place on, and the text ends at `end`
pub record Puts (old : List ℕ) (at : ℕ) (text new : List ℕ) (end : ℕ) : Type 0 where
  pub stored : new ≡ sets old at text
  pub ends : end ≡ at + length text
