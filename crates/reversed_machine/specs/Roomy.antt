-- Mirrors the code: the room that a layout needs. A reader need not believe it. Definitions only.
use Rattle.std.specs.Prelude.{List, ℕ, ◌+◌, ◌*◌, ◌≤◌, length}
use Rattle.slots.specs.Slots.{slot_length}
use Rattle.reversed_machine.specs.declared.reverse.Layout.{Layout}

-- the part has the slots of the links, those of the input and one to each final node
abbrev pub Roomy : Layout → List ℕ → Type 0
Roomy layout part = layout.chains + slot_length * (layout.counted.machine.sheet.links + layout.counted.finals) ≤ length part
