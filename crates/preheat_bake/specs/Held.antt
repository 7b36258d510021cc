-- Mirrors the code: what a machine that narrows to a node stands for, and the bytes of its parts. A reader need not believe it. Definitions only.
use Rattle.std.specs.Prelude.{ℕ, ◌+◌, ◌-◌, ◌*◌, List}
use Rattle.sheet.specs.Sheet.{node_length, trailer_length}
use Rattle.sheet.specs.Machine.{Machine, machine}
use Rattle.narrowing.specs.declared.Narrowing.{Narrowing}
use Rattle.narrowing.specs.Parts.{is_before, is_after, preheat, bake, numbers}
use Rattle.preheat_bake.specs.Outcome.{part_bytes}
use Rattle.preheat_bake.specs.Promise.{numbered_length}

-- the machine, and its second part
abbrev pub whole : Narrowing → Machine
whole x = machine x.machine.sheet.bytes.now

abbrev pub bake_of : Narrowing → Machine
bake_of x = bake x.node (whole x)

-- each part as it is written, with the numbers of its links
abbrev pub first_bytes : Narrowing → List ℕ
first_bytes x = part_bytes (preheat x.node (whole x)) (numbers (is_before x.node) (whole x))

abbrev pub second_bytes : Narrowing → List ℕ
second_bytes x = part_bytes (bake_of x) (numbers (is_after x.node) (whole x))

-- and how many bytes that takes
abbrev pub first_size : Narrowing → ℕ
first_size x = numbered_length * x.before + node_length * (x.node + 1) + trailer_length x.machine.sheet.form

abbrev pub second_size : Narrowing → ℕ
second_size x = numbered_length * (x.machine.sheet.links - x.before) + node_length * (x.machine.sheet.nodes - x.node) + trailer_length x.machine.sheet.form

-- of both, whatever the node is
abbrev pub both_size : Narrowing → ℕ
both_size x = numbered_length * x.machine.sheet.links + node_length * (x.machine.sheet.nodes + 1) + 2 * trailer_length x.machine.sheet.form
