-- Mirrors the code: how many bytes the functions that store texts ask for and fill at the most. A reader need not believe it: the texts themselves are Written's. Definitions only.
use Rattle.std.specs.Prelude.{ℕ, ◌+◌, ◌*◌}

-- the digits of a number of 32 bits
abbrev pub number_most : ℕ
number_most = 10

-- the digits of a weight before its point, up to the weight limit (proofs/Lengths, `ones-most`)
abbrev pub ones_most : ℕ
ones_most = 3

-- the digits behind the point: millionths
abbrev pub decimals_most : ℕ
decimals_most = 6

-- a point and the digits behind it
abbrev pub part_most : ℕ
part_most = 1 + decimals_most

-- a weight without its sign
abbrev pub magnitude_most : ℕ
magnitude_most = ones_most + part_most

-- a sign and a weight; Infinity is shorter (proofs/Lengths, `infinity-most`)
abbrev pub units_most : ℕ
units_most = 1 + magnitude_most

-- a tab and a weight
abbrev pub weight_most : ℕ
weight_most = 1 + units_most

-- a tab and a number
abbrev pub field_most : ℕ
field_most = 1 + number_most

-- a link: its source, three more numbers, a weight, and the end of the row
abbrev pub row_most : ℕ
row_most = number_most + 3 * field_most + weight_most + 1

-- the area that a row is made in
abbrev pub room : ℕ
room = 64
