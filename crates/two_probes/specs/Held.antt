-- Mirrors the code: what its parts answer of the product. A reader need not believe it: laws tie it to Outcome. Definitions only.
use Rattle.std.specs.Prelude.{ℕ, List, ◌∷◌, Option, None, Some}
use Rattle.std.proofs.Math.Option.{Option as Maybe, none, some}
use Rattle.tropical_weight.specs.Tropical.{Tropical}
use Rattle.sheet.specs.Machine.{Machine, unit_in, machine, bits_of, leaving, final_fields}
use Rattle.machine.specs.Readings.{final}
use Rattle.two_probes.specs.declared.both.Both.{Both}
use Rattle.two_probes.specs.Outcome.{both}

-- the machine of what the two machines of a value both allow
abbrev pub allowed_by : Both → Machine
allowed_by x = both x.first.sheet.bytes.now x.second.sheet.bytes.now

-- their unit is 1 / 2 ^ unit_by
abbrev pub unit_by : Both → ℕ
unit_by x = unit_in (machine x.first.sheet.bytes.now)

-- the field of a final weight in units of 1 / 2 ^ j, none where there is none
abbrev pub field_of : ℕ → Maybe Tropical → Option ℕ
field_of j none = None
field_of j (some w) = Some (bits_of j w)

-- the fields of node v
abbrev pub node_record : ℕ → Machine → ℕ → List ℕ
node_record j m v = leaving m.links v ∷ final_fields j (final m v)
