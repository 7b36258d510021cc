-- Lists over the numbers below a bound, one after the other. Definitions only.
use Rattle.std.specs.Prelude.{ℕ, zero, suc, List, [], ◌++◌}

-- the members of f 0, .., f (n - 1)
unfoldable pub join_below : {A : Type 0} → ℕ → (ℕ → List A) → List A
join_below zero f = []
join_below (suc n) f = join_below n f ++ f n
