-- Mirrors the code: what the readers of fields answer. A reader need not believe it: laws tie it to Fields and Rows (proofs/Weighing). Definitions only.
use Rattle.std.specs.Prelude.{ℕ, ◌*◌, ◌/◌, ◌^◌, min, Bool, true, false, cond, ℤ, pos, neg_ℤ, Option, None, Some}
use Rattle.text_rows.specs.Fields as Fields
use Rattle.text_rows.specs.Fields.{million, finite, barred}
use Rattle.text_rows.specs.Rows.{units_in_one, on_grid, units_of}
use Rattle.row_reader.specs.declared.values.Weight.{Weight}

-- ones past 32 bits, in millionths: more than any weight has
abbrev pub most_millionths : ℕ
most_millionths = 2 ^ 32 * million

abbrev pub millionths_held : Option ℕ → Option ℕ
millionths_held None = None
millionths_held (Some n) = Some (min n most_millionths)

-- so many millionths in units, where they are on the grid and within the limit
abbrev pub units_read : ℕ → Option ℕ
units_read n = cond (on_grid (pos n)) (Some (n * units_in_one / million)) None

-- so many units, by their sign
abbrev pub signed_by : Bool → ℕ → ℤ
signed_by true n = neg_ℤ (pos n)
signed_by false n = pos n

abbrev pub weight_by : Bool → Option ℕ → Weight
weight_by minus None = Weight.Off
weight_by minus (Some n) = Weight.Units (signed_by minus n)

-- a weight that is read
abbrev pub weight_read : Fields.Weight → Weight
weight_read (finite w) = cond (on_grid w) (Weight.Units (units_of w)) Weight.Off
weight_read barred = Weight.Barred

abbrev pub decimal_read : ℤ → Weight
decimal_read w = weight_read (finite w)
