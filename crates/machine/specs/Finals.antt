-- Mirrors the code: the final nodes of a sheet's records. A reader need not believe it: laws tie it to the machine's final weights (proofs/FinalCount,
-- SheetFields). Definitions only.
use Rattle.std.specs.Prelude.{List, ℕ, cond, eqb}
use Rattle.sheet.specs.Below.{sum_below}
use Rattle.sheet.specs.Records.{mark_at}

-- how many of the first n nodes of a sheet with so many links have mark 1
abbrev pub final_count : List ℕ → ℕ → ℕ → ℕ
final_count bytes links n = sum_below n (λ v. cond (eqb (mark_at bytes links v) 0) 0 1)
