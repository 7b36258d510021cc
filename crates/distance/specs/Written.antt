-- A written distance takes two words, 1 and the weight bits, or 0 and 0. Definitions only.
use Rattle.std.specs.Prelude.{List, [], ◌∷◌, ℕ}
use Rattle.tropical_weight.specs.Tropical.{fin}
use Rattle.sheet.specs.Machine.{bits_of}
use Rattle.machine.specs.Distance.{Distance, reached, unreached}

-- its bytes
abbrev pub written_length : ℕ
written_length = 8

-- in units of 1 / 2 ^ j
abbrev pub written : ℕ → Distance → List ℕ
written j (reached k) = 1 ∷ bits_of j (fin k) ∷ []
written j unreached = 0 ∷ 0 ∷ []
