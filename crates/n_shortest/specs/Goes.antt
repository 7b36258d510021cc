-- Mirrors the code: the words of a search, and how it goes on over the same part. A reader need not believe it. Definitions only.
use Rattle.std.specs.Prelude.{◌≡◌}
use Rattle.n_shortest.specs.declared.n_best.Search.{Search}
use Rattle.n_shortest.specs.SearchWords.{Words}

abbrev pub words_of : Search → Words
words_of s = record { part = s.part.now; counts = s.counts }

-- where its words lie stays, and what it was asked
pub record Kept (old new : Search) : Type 0 where
  pub places : new.places ≡ old.places
  pub n : new.n ≡ old.n
  pub most : new.most ≡ old.most
  pub same : new.part.ghost_name ≡ old.part.ghost_name

-- it goes on over the same part, and its words are these
pub record Goes (old new : Search) (w : Words) : Type 0 where
  pub words : words_of new ≡ w
  pub kept : Kept old new
