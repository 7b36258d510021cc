-- Parents, and the one reading that they give. Definitions only.
use Rattle.std.specs.Prelude.{Bool, ◌&&◌, cond, List, [], ◌∷◌, ◌++◌, ℕ, zero, suc, eqb, length}
use Rattle.std.proofs.Math.Option.{Option, none, some}
use Rattle.tropical_weight.specs.Tropical.{Tropical, inf, lt_t, eq_t}
use Rattle.sheet.specs.Machine.{Machine}
use Rattle.machine.specs.Readings.{Reading, link, is_at}
use Rattle.machine.specs.Distance.{dist, via, total, total_at}

-- the first, or the second where there is no first
abbrev pub or_else : Option ℕ → Option ℕ → Option ℕ
or_else none b = b
or_else (some a) b = some a

-- the lowest number below n that passes the test
unfoldable pub lowest : ℕ → (ℕ → Bool) → Option ℕ
lowest zero p = none
lowest (suc n) p = or_else (lowest n p) (cond (p n) (some n) none)

-- a is finite, and b is equal to it
abbrev pub attains : Tropical → Tropical → Bool
attains a b = lt_t a inf && eq_t b a

-- Of the links into v that attain its distance, the lowest number: the lowest source, then the earliest position.
unfoldable pub parent : Machine → ℕ → Option ℕ
unfolding lowest dist
parent m v = lowest (length m.links) (λ l. eqb (link m l).next v && attains (dist m v) (via m l))

-- of the final nodes that attain the least total, the lowest number
unfoldable pub best_end : Machine → Option ℕ
unfolding lowest dist total
best_end m = lowest (length m.finals) (λ v. attains (total m) (total_at m v))

-- one link back, and on from its source
abbrev pub step_back : Machine → Option ℕ → (ℕ → List ℕ) → List ℕ
step_back m none g = []
step_back m (some l) g = g (link m l).source ++ (l ∷ [])

-- The parents' links from the start to v. Nodes fall on the way back, so that v steps are enough.
unfoldable pub follow : Machine → ℕ → ℕ → List ℕ
unfolding parent
follow m zero v = []
follow m (suc f) v = cond (is_at m.start v) [] (step_back m (parent m v) (follow m f))

-- the reading that ends at a chosen node
abbrev pub followed : Machine → Option ℕ → Option Reading
followed m none = none
followed m (some v) = some (record { run = follow m v v; end = v })

-- the reading that the parents give, where there is one
unfoldable pub best : Machine → Option Reading
unfolding best_end follow
best m = followed m (best_end m)
