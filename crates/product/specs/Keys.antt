-- Mirrors the code: links and pairs of links as single numbers, whose order is the order that is wanted. A reader need not believe it: laws tie it to Product
-- (link_pairs/proofs/Finding). Definitions only.
use Rattle.std.specs.Prelude.{List, map, ℕ, ◌+◌, ◌*◌, ◌/◌, ◌%◌, length}
use Rattle.tropical_weight.specs.Limits.{node_limit, link_limit}
use Rattle.sheet.specs.Below.{list_below}
use Rattle.sheet.specs.Machine.{Machine}
use Rattle.machine.specs.Readings.{link}
use Rattle.product.specs.Product.{Pair, source_for, pairs}

-- ---- of a link: by its label, then the node it leaves, then its number
abbrev pub link_key : ℕ → ℕ → ℕ → ℕ
link_key label node l = (label * node_limit + node) * link_limit + l

abbrev pub key_label : ℕ → ℕ
key_label key = key / link_limit / node_limit

abbrev pub key_node : ℕ → ℕ
key_node key = key / link_limit % node_limit

abbrev pub key_link : ℕ → ℕ
key_link key = key % link_limit

-- those of a machine, in the order of their numbers
unfoldable pub link_keys : Machine → List ℕ
unfolding list_below
link_keys m = list_below (length m.links) (λ l. link_key (link m l).ilabel (link m l).source l)

-- ---- of a pair: by the node it leaves, then the first's link, then the second's
abbrev pub pair_key : ℕ → ℕ → ℕ → ℕ
pair_key v l k = (v * link_limit + l) * link_limit + k

abbrev pub pair_node : ℕ → ℕ
pair_node key = key / link_limit / link_limit

abbrev pub pair_first : ℕ → ℕ
pair_first key = key / link_limit % link_limit

abbrev pub pair_second : ℕ → ℕ
pair_second key = key % link_limit

-- the pairs of two machines as their keys
unfoldable pub pair_keys : Machine → Machine → List ℕ
unfolding pairs
pair_keys a b = map (λ (p : Pair). pair_key (source_for a b p.first p.second) p.first p.second) (pairs a b)
