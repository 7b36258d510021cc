-- A search that goes on keeps its places, step after step. Assumes nothing.
use mathlib.Core.Path.{◌≡◌, refl, ◌∙◌}
use Rattle.n_shortest.specs.declared.n_best.Search.{Search}
use Rattle.n_shortest.specs.SearchWords.{Words}
use Rattle.n_shortest.specs.Goes.{Kept, Goes}

pub kept-same : (s : Search) → Kept s s
kept-same s = record { places = refl; n = refl; most = refl; same = refl }

pub kept-on : {a b c : Search} → Kept a b → Kept b c → Kept a c
kept-on k l = record { places = l.places ∙ k.places; n = l.n ∙ k.n; most = l.most ∙ k.most; same = l.same ∙ k.same }

-- two steps, the second as words that follow from those of the first
pub goes-on : {a b c : Search} {v w : Words} → Kept a b → Goes b c v → v ≡ w → Goes a c w
goes-on k g e = record { words = g.words ∙ e; kept = kept-on k g.kept }
