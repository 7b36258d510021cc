-- The unit and the limits of documents 01 and 02, each in this one place. Definitions only.
-- The laws are proved over any unit 2 ^ j with j up to `finest`, and over any limits on nodes and weights whose product is `sum_limit`.
use Rattle.std.specs.Prelude.{ℕ, ◌^◌}

-- 64ths, the unit of the shorter trailer and of text rows: it is 1 / 2 ^ unit
abbrev pub unit : ℕ
unit = 6

-- 256ths, the finest unit that the laws cover: it is 1 / 2 ^ finest
abbrev pub finest : ℕ
finest = 8

-- the most units of a weight, either way
abbrev pub weight_limit : ℕ
weight_limit = 8192

-- the most nodes of a machine, and so the most terms of a sum along a reading
abbrev pub node_limit : ℕ
node_limit = 2048

-- the most links of a machine
abbrev pub link_limit : ℕ
link_limit = 16384

-- the most readings that a list is asked for
abbrev pub list_limit : ℕ
list_limit = 64

-- the most units of a sum, either way: up to here single precision has every whole number
abbrev pub sum_limit : ℕ
sum_limit = 2 ^ 24
