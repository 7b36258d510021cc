-- The refusals from the input that every call on a machine tests: 1, 14 and 2 to 6. Definitions only.
use Rattle.std.specs.Prelude.{ℕ, Bool, not, ◌&&◌, cond, List, leb, ltb, eqb, get_or}
use Rattle.tropical_weight.specs.Limits.{node_limit, link_limit}
use Rattle.sheet.specs.Below.{all_below}
use Rattle.sheet.specs.Sheet.{Parts, link_count, node_count, next, parts_of, read_number}
use Rattle.sheet.specs.Machine.{sources_below}

-- test 5: N and T are within the limits
abbrev pub counts_fit : Parts → Bool
counts_fit p = leb (node_count p) node_limit && leb (link_count p) link_limit

-- test 6: each link leads to a higher node
unfoldable pub links_climb : Parts → Bool
unfolding all_below sources_below
links_climb p = all_below (link_count p) (λ l. ltb (get_or (sources_below p (node_count p)) l 0) (next p l))

-- the first number of 5 and 6 whose test fails, or 0
unfoldable pub bounds_number : Parts → ℕ
unfolding links_climb
bounds_number p = cond (not (counts_fit p)) 5 (cond (not (links_climb p)) 6 0)

-- the first number of 1, 14 and 2 to 6 whose test fails, or 0
unfoldable pub input_number : List ℕ → ℕ
unfolding read_number parts_of bounds_number
input_number bytes = let k = read_number bytes in cond (not (eqb k 0)) k (bounds_number (parts_of bytes))
