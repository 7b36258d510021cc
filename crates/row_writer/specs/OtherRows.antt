-- Mirrors the code: the rows of a node that come behind those of the start. A reader need not believe it: laws tie it to Written (proofs/Measured). Definitions only.
use Rattle.std.specs.Prelude.{ℕ, cond, List, [], eqb}
use Rattle.sheet.specs.Sheet.{Parts}
use Rattle.text_rows.specs.Written.{node_rows}

-- none for the start
abbrev pub other_rows : Parts → ℕ → List ℕ
other_rows p v = cond (eqb v p.start) [] (node_rows p v)
