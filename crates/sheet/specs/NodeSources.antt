-- The nodes of a sheet as an iterator: what its next step gives. Definitions only.
use Rattle.std.specs.Prelude.{◌≡◌, ℕ, ◌+◌, ◌-◌, ◌<◌, Option, None, Some}
use Rattle.sheet.specs.declared.source.Source.{Source}
use Rattle.sheet.specs.declared.source.Sources.{Sources}
use Rattle.sheet.specs.Records.{count_at}

-- the next node of the same sheet, and then the one past it; none past the last
abbrev pub Gives : Sources → Option Source → Sources → Type 0
Gives s (Some r) t =
    (s.node < s.sheet.nodes) × (r.sheet ≡ s.sheet) × (r.node ≡ s.node) × (r.first ≡ s.first)
    × (t.sheet ≡ s.sheet) × (t.node ≡ s.node + 1) × (t.first ≡ s.first + count_at s.sheet.bytes.now s.sheet.links s.node)
Gives s None t = (s.node ≡ s.sheet.nodes) × (t ≡ s)

-- no more than the nodes that are left
abbrev pub nodes_left : Sources → ℕ
nodes_left s = s.sheet.nodes - s.node
