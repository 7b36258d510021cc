-- Mirrors the code: second final rows, found in passes that keep the least final nodes. A reader need not believe it: laws tie it to Rows (proofs/FinalRows). Definitions only.
use Rattle.std.specs.Prelude.{ℕ, zero, suc, Bool, false, cond, List, [], ◌∷◌, ltb, eqb, length, get_or, set, Option, None, Some}
use Rattle.tropical_weight.specs.Limits.{node_limit}
use Rattle.text_rows.specs.Rows.{Row, link, final, finals_once}
use Rattle.row_reader.specs.declared.row.Row as Code
use Rattle.row_reader.specs.declared.row.Row.TheVariants.{Link, Final}

-- rows that are read have no node with two final rows
abbrev pub once_in : Option (List Row) → Bool
once_in None = false
once_in (Some rs) = finals_once rs

-- so many nodes are kept in a pass
abbrev pub most : ℕ
most = node_limit

-- the first n of an array, from the last to the first: the kept nodes, falling
unfoldable pub falling : List ℕ → ℕ → List ℕ
falling l zero = []
falling l (suc n) = get_or l n 0 ∷ falling l n

-- a node among falling ones, and one more
unfoldable pub has : ℕ → List ℕ → Bool
has v [] = false
has v (x ∷ xs) = cond (ltb v x) (has v xs) (eqb x v)

unfoldable pub inserted : ℕ → List ℕ → List ℕ
inserted v [] = v ∷ []
inserted v (x ∷ xs) = cond (ltb v x) (x ∷ inserted v xs) (v ∷ x ∷ xs)

-- the same in an array whose first n rise
unfoldable pub put_in : ℕ → List ℕ → ℕ → List ℕ
put_in v l zero = set l 0 v
put_in v l (suc n) = cond (ltb v (get_or l n 0)) (put_in v (set l (suc n) (get_or l n 0)) n) (set l (suc n) v)

-- ---- a pass under way: the kept nodes, falling, and the node from which on all are left to the next pass
pub data Going : Type 0 where
  twice : Going
  on : List ℕ → ℕ → Going

-- by the code's answer and what it leaves
abbrev pub told : {A : Type 0} → Option A → List ℕ → ℕ → Going
told None xs limit = twice
told (Some x) xs limit = on xs limit

abbrev pub with_new : ℕ → List ℕ → ℕ → Going
with_new v xs limit = cond (has v xs) twice (on (inserted v xs) limit)

-- the greatest is left to the next pass
abbrev pub with_less : ℕ → List ℕ → ℕ → Going
with_less v [] limit = on [] limit
with_less v (x ∷ xs) limit = cond (ltb v x) (with_new v xs x) (on xs x)

abbrev pub with_final : ℕ → ℕ → List ℕ → ℕ → Going
with_final first v xs limit = cond (ltb v first) (on xs limit) (cond (ltb v limit) (cond (ltb (length xs) most) (with_new v xs limit) (with_less v xs limit)) (on xs limit))

-- a row more, by the code's answer
abbrev pub with_read : ℕ → List ℕ → ℕ → Code.Row → Going
with_read first xs limit (Link l) = on xs limit
with_read first xs limit (Final v w) = with_final first v xs limit

-- what the rows behind come to, where the pass goes on
abbrev pub go_on : Going → (List ℕ → ℕ → Option ℕ) → Option ℕ
go_on twice f = None
go_on (on xs limit) f = f xs limit

-- ---- a pass over rows: where the next one begins, or none where a node's second final row is met
unfoldable pub pass_rows : ℕ → List ℕ → ℕ → List Row → Option ℕ
pass_rows first xs limit [] = Some limit
pass_rows first xs limit (link s t i o w ∷ rs) = pass_rows first xs limit rs
pass_rows first xs limit (final v w ∷ rs) = go_on (with_final first v xs limit) (λ ys l. pass_rows first ys l rs)

abbrev pub pass_from : ℕ → List ℕ → ℕ → Option (List Row) → Option ℕ
pass_from first xs limit None = None
pass_from first xs limit (Some rs) = pass_rows first xs limit rs
