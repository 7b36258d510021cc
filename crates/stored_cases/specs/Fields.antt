-- The lines of stored cases, and the fields of a line, with a space between. Definitions only.
use Rattle.std.specs.Prelude.{List, [], ℕ, ◌==◌, unwrap_or, Bool}
use Rattle.std.specs.List.{slice_split, slice_get, after_first}
use Rattle.std.specs.Fn.{iterate}

abbrev pub is_end : ℕ → Bool
is_end c = c == 10

abbrev pub is_space : ℕ → Bool
is_space c = c == 32

-- the field behind so many spaces, nothing where there are fewer
unfoldable pub field_of : List ℕ → ℕ → List ℕ
field_of line spaces = unwrap_or (slice_get (slice_split is_space line) spaces) []

-- the line from that field on, nothing where there are fewer
unfoldable pub rest_of : List ℕ → ℕ → List ℕ
rest_of line spaces = iterate (after_first is_space) spaces line
