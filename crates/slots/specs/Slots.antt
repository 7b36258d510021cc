-- The work area, in slots of eight words. Definitions only.
use Rattle.std.specs.Prelude.{ℕ, ◌*◌, cond, eqb, List, ◌++◌, Option, None, Some, replicate, drop}

-- the words of a slot
abbrev pub slot_length : ℕ
slot_length = 8

-- where there is no node, no link or no entry
abbrev pub nothing : ℕ
nothing = 0xffff_ffff

-- the number that a word holds, or none
abbrev pub number_in : ℕ → Option ℕ
number_in w = cond (eqb w nothing) None (Some w)

-- the first n slots left zero, and those beyond as they were
abbrev pub cleared : ℕ → List ℕ → List ℕ
cleared n work = replicate (slot_length * n) 0 ++ drop (slot_length * n) work
