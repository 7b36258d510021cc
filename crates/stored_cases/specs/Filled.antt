-- The bytes that an area is filled with. Definitions only.
use Rattle.std.specs.Prelude.{◌≡◌, List, ℕ, length, take}
use Rattle.stored_cases.specs.declared.filled.Filled.{Filled}

-- the bytes that are there so far
abbrev pub filled : Filled → List ℕ
filled f = take f.count f.area.now

-- the same area, filled with these bytes
pub record Fills (old new : Filled) (bytes : List ℕ) : Type 0 where
  pub bytes_are : filled new ≡ bytes
  pub room : length new.area.now ≡ length old.area.now
  pub same : new.area.ghost_name ≡ old.area.ghost_name
