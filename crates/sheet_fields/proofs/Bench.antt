-- The counts and fields of Sheet A of document 01, and the units of sheets of both trailers, by computation. Assumes nothing.
use mathlib.Core.Path.{◌≡◌, refl}
use mathlib.Core.List.{[], ◌∷◌, ◌++◌}
use lib.ListN.{take}
use lib.Ieee.{of_bits, to_bits}
use Rattle.sheet.specs.Words.{bytes_of}
use Rattle.sheet.specs.Sheet.{form_of, parts_of, read_number}
use Rattle.sheet.specs.Machine.{machine_of}
use Rattle.sheet.specs.Reading.{next_link}
use Rattle.sheet.specs.Records.{link_at, node_at}
use Rattle.sheet.proofs.Bench.{sheet_a}
use Rattle.machine.specs.Readings.{marked}
use Rattle.std.specs.Prelude.{Some, None, Ok, Err}
use Rattle.sheet.specs.declared.refusal.Refusal.TheVariants.{Layout, Unit}
use Rattle.sheet_fields.specs.Counts.{counts_of}
use Rattle.sheet_fields.specs.Units.{unit_told}
use Rattle.sheet_fields.specs.Nodes.{next_node}
use Rattle.sheet_fields.specs.Fields.{link_record, node_record}

-- four nodes, five links, one final node, from node 0 on; without its last byte the sheet is refused
counts-A : (counts_of sheet_a ≡ Ok (record { nodes = 4; links = 5; finals = 1; start = 0 })) × (counts_of (take 147 sheet_a) ≡ Err Layout)
unfolding sheet_a read_number machine_of marked
counts-A = (refl, refl)

-- node 0 has two links and no mark, node 3 no link, the mark and the bits of 0.5; there is no node 4
nodes-A : (node_record (node_at sheet_a 5 0) ≡ 2 ∷ 0 ∷ 0 ∷ []) × (node_record (node_at sheet_a 5 3) ≡ 0 ∷ 1 ∷ 0x3f00_0000 ∷ []) × (next_node sheet_a 3 ≡ Some (node_at sheet_a 5 3)) × (next_node sheet_a 4 ≡ None)
unfolding sheet_a form_of of_bits to_bits
nodes-A = (refl, refl, refl, refl)

-- link 4 has the labels 4 and 4, the bits of 0.75 and the next node 3; there is no link 5
links-A : (link_record (link_at sheet_a 4) ≡ 4 ∷ 4 ∷ 0x3f40_0000 ∷ 3 ∷ []) × (next_link sheet_a 4 ≡ Some (link_at sheet_a 4)) × (next_link sheet_a 5 ≡ None)
unfolding sheet_a form_of of_bits to_bits
links-A = (refl, refl, refl)

-- the trailer of five fields means 64; one of six says it; another unit is refused, and so is a trailer without its last byte
units-A : (unit_told sheet_a ≡ Ok 64) × (unit_told (sheet_a ++ bytes_of 64) ≡ Ok 64) × (unit_told (sheet_a ++ bytes_of 256) ≡ Ok 256) × (unit_told (sheet_a ++ bytes_of 128) ≡ Err Unit) × (unit_told (take 151 (sheet_a ++ bytes_of 256)) ≡ Err Layout)
unfolding sheet_a read_number machine_of parts_of form_of bytes_of
units-A = (refl, refl, refl, refl, refl)

-- Sheet A with a unit of its own has the same nodes and links, and none past the last
fields-A-256 : (next_node (sheet_a ++ bytes_of 256) 3 ≡ Some (node_at sheet_a 5 3)) × (next_node (sheet_a ++ bytes_of 256) 4 ≡ None) × (next_link (sheet_a ++ bytes_of 256) 4 ≡ Some (link_at sheet_a 4)) × (next_link (sheet_a ++ bytes_of 256) 5 ≡ None)
unfolding sheet_a read_number bytes_of of_bits
fields-A-256 = (refl, refl, refl, refl)
