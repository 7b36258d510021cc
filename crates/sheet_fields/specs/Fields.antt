-- What is told of a link or a node of a sheet that passes tests 1, 14 and 2 to 4: the fields of its machine's link or node of that number, in its unit.
-- Definitions only.
use Rattle.std.specs.Prelude.{◌≡◌, List, [], ◌∷◌, ℕ, ◌≤◌, ◌<◌, length, Option, Some, None}
use Rattle.std.specs.Float.{binary32}
use Rattle.std.specs.Float.Ieee.{to_bits}
use Rattle.sheet.specs.declared.tr.Link.{Link}
use Rattle.sheet.specs.declared.tr.Node.{Node}
use Rattle.sheet.specs.Machine.{Machine, unit_in, link_fields, leaving, final_fields}
use Rattle.machine.specs.Readings.{link, final}

-- the fields of a link that was read: labels, weight bits, next node
abbrev pub link_record : Link → List ℕ
link_record k = k.ilabel ∷ k.olabel ∷ to_bits binary32 k.weight ∷ k.nextstate ∷ []

-- the fields of a node that was read: link count, mark, weight bits
abbrev pub node_record : Node → List ℕ
node_record n = n.links ∷ n.mark ∷ to_bits binary32 n.weight ∷ []

-- of node v of a machine: how many links leave it, then its mark and final weight's field
abbrev pub fields_of_node : Machine → ℕ → List ℕ
fields_of_node m v = leaving m.links v ∷ final_fields (unit_in m) (final m v)

-- link l of a machine, and the end from T on
abbrev pub LinkOf : Machine → ℕ → Option Link → Type 0
LinkOf m l (Some k) = (l < length m.links) × (link_record k ≡ link_fields (unit_in m) (link m l))
LinkOf m l None = length m.links ≤ l

-- node v of a machine, and the end from N on
abbrev pub NodeOf : Machine → ℕ → Option Node → Type 0
NodeOf m v (Some n) = (v < length m.finals) × (node_record n ≡ fields_of_node m v)
NodeOf m v None = length m.finals ≤ v
