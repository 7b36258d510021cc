-- A node of a byte string by its number: the nodes that the trailer states, and then none. Definitions only.
use Rattle.std.specs.Prelude.{ℕ, ◌+◌, ◌*◌, Bool, true, false, ◌&&◌, List, leb, ltb, length, Option, Some, None}
use Rattle.sheet.specs.Sheet.{link_length, node_length, short_trailer, trailer_size, stated_links, stated_nodes}
use Rattle.sheet.specs.Records.{node_at}
use Rattle.sheet.specs.declared.tr.Node.{Node}

-- whether there is a node v: the trailer states it, and the links and nodes that it states lie before the trailer
abbrev pub has_node : List ℕ → ℕ → Bool
has_node bytes v =
    leb short_trailer (length bytes) && ltb v (stated_nodes bytes) && leb (link_length * stated_links bytes + node_length * stated_nodes bytes + trailer_size bytes) (length bytes)

-- by whether there is a node v
abbrev pub node_by : Bool → List ℕ → ℕ → Option Node
node_by true bytes v = Some (node_at bytes (stated_links bytes) v)
node_by false bytes v = None

-- node v, or the end
abbrev pub next_node : List ℕ → ℕ → Option Node
next_node bytes v = node_by (has_node bytes v) bytes v
