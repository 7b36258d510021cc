-- Mirrors the code: the keys of a node's links, the pairs of links with the same label as they are found, what a list that may be too long for its area leaves
-- there, and what is said of the pairs in the end. A reader need not believe it: laws tie it to the pairs of the product (proofs/Finding, proofs/Sorting).
-- Definitions only.
use Rattle.std.specs.Prelude.{◌≡◌, ℕ, ◌+◌, ◌*◌, ◌≤◌, ◌<◌, eqb, length, take, Option, MatchOption}
use mathlib.Core.List.{List, flat_map, map}
use Rattle.std.proofs.lemmas.List.Edits.{sets}
use Rattle.tropical_weight.specs.Limits.{link_limit}
use Rattle.sheet.specs.Below.{list_below}
use Rattle.sheet.specs.Words.{word}
use Rattle.sheet.specs.Sheet.{link_length}
use Rattle.sheet.specs.Records.{count_at}
use Rattle.sheet.specs.Machine.{Machine}
use Rattle.machine.specs.Readings.{keep}
use Rattle.product.specs.Product.{pairs}
use Rattle.product.specs.Keys.{link_key, key_label, key_node, key_link, pair_key, pair_keys}

-- the key of link i of node v, whose links begin at number `first`
abbrev pub node_key : List ℕ → ℕ → ℕ → ℕ → ℕ
node_key bytes v first i = link_key (word bytes (link_length * (first + i))) v (first + i)

-- the keys of the links of node v of a sheet with so many links
abbrev pub node_keys : List ℕ → ℕ → ℕ → ℕ → List ℕ
node_keys bytes links v first = list_below (count_at bytes links v) (node_key bytes v first)

-- the keys of the links with the label of `key`
unfoldable pub partners : ℕ → List ℕ → List ℕ
unfolding keep
partners key keys = keep (λ k. eqb (key_label k) (key_label key)) keys

-- the pair of two links' keys, where the second machine has n nodes
abbrev pub pair_of : ℕ → ℕ → ℕ → ℕ
pair_of n key k = pair_key (key_node key * n + key_node k) (key_link key) (key_link k)

abbrev pub pairs_of : ℕ → List ℕ → ℕ → List ℕ
pairs_of n seconds key = map (pair_of n key) (partners key seconds)

-- link by link of the first machine
unfoldable pub found : ℕ → List ℕ → List ℕ → List ℕ
unfolding flat_map partners
found n seconds firsts = flat_map (pairs_of n seconds) firsts

-- New keys were put into an area of `link_limit` from place `at` on, and the answer is the place behind them; none where there is no room for them all.
pub record Put (at : ℕ) (new before after : List ℕ) (r : Option ℕ) : Type 0 where
  pub size : length after ≡ length before
  pub placed : MatchOption r (link_limit < at + length new) (λ k. (k ≤ link_limit) × (k ≡ at + length new) × (after ≡ sets before at new))

-- The pairs of a and b: how many, and their keys in order; none where there are more than a machine may have links.
pub record PairsFound (a b : Machine) (area : List ℕ) (r : Option ℕ) : Type 0 where
  pub placed : MatchOption r (link_limit < length (pairs a b)) (λ k. (k ≤ link_limit) × (k ≡ length (pairs a b)) × (take k area ≡ pair_keys a b))
