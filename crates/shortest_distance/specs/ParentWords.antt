-- Mirrors the code: the parent of a node in words 2 and 3 of its slot, a link's number and that link's source. A reader need not believe it: laws tie it to Parents of
-- crate machine (proofs/Rows). Definitions only.
use Rattle.std.specs.Prelude.{Bool, true, false, List, Option, None, Some, ℕ, ◌+◌, ◌*◌, eqb, get_or, set}
use Rattle.std.proofs.Math.Option as Math
use Rattle.sheet.specs.Machine.{Machine}
use Rattle.machine.specs.Readings.{link}
use Rattle.slots.specs.Slots.{slot_length, nothing}
use Rattle.shortest_distance.specs.declared.parent.Parent.{Parent}

-- a link and its source as a parent
abbrev pub by : ℕ → ℕ → Option Parent
by l u = Some (record { link = l; source = u })

-- the parent in node v's slot: a link and its source, or none where the link's word names none
abbrev pub parent_in : Bool → ℕ → ℕ → Option Parent
parent_in true l u = None
parent_in false l u = by l u

abbrev pub parent_at : List ℕ → ℕ → Option Parent
parent_at work v = parent_in (eqb (get_or work (slot_length * v + 2) 0) nothing) (get_or work (slot_length * v + 2) 0) (get_or work (slot_length * v + 3) 0)

-- stored there
abbrev pub parent_stored : List ℕ → ℕ → Option Parent → List ℕ
parent_stored work v None = set work (slot_length * v + 2) nothing
parent_stored work v (Some p) = set (set work (slot_length * v + 2) p.link) (slot_length * v + 3) p.source

-- a parent of the definitions as it is held
abbrev pub parent_from : Machine → Math.Option ℕ → Option Parent
parent_from m Math.none = None
parent_from m (Math.some l) = by l (link m l).source
