-- What is told of a node's distance, in units of 1 / 2 ^ j, from the bytes of a result and how many values it is said to hold. Definitions only.
use Rattle.std.specs.Prelude.{◌&&◌, cond, Option, Some, None, Result, Ok, Err, List, ℕ, ℤ, ◌+◌, ◌*◌, leb, ltb, eqb, length}
use Rattle.std.specs.Float.{binary32}
use Rattle.std.specs.Float.Ieee.{of_bits}
use Rattle.tropical_weight.specs.Limits.{sum_limit}
use Rattle.tropical_weight.specs.Grid.{units_of, grid_bits}
use Rattle.sheet.specs.Words.{word_length, word}
use Rattle.distance.specs.Written.{written_length}
use Rattle.sheet.specs.declared.refusal.Refusal.{Refusal}
use Rattle.sheet.specs.declared.refusal.Refusal.TheVariants.{NoAnswer, Absent}

-- the units of a reached node, none of another, or a refusal
abbrev pub Told : Type 0
Told = Result (Option ℤ) Refusal

-- the weight bits of a reached node: those of a whole number of units within the limit of sums; any others are no distance
abbrev pub pattern_tells : ℕ → ℕ → Told
pattern_tells j bits = cond (grid_bits j sum_limit bits) (Ok (Some (units_of j (of_bits binary32 bits)))) (Err NoAnswer)

-- the two words of a node: 1 and weight bits, or 0 and 0
abbrev pub words_tell : ℕ → ℕ → ℕ → Told
words_tell j mark bits = cond (eqb mark 1) (pattern_tells j bits) (cond (eqb mark 0 && eqb bits 0) (Ok None) (Err NoAnswer))

-- 30 where the result is shorter than its values, 31 where the node is not among them
abbrev pub distance_told : ℕ → List ℕ → ℕ → ℕ → Told
distance_told j result values node =
    let told : Told = words_tell j (word result (written_length * node)) (word result (written_length * node + word_length)) in
    cond (ltb (length result) (written_length * values)) (Err NoAnswer) (cond (leb values node) (Err Absent) told)
