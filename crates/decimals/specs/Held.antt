-- Mirrors the code: the value of digits, held where it is more than any number of 32 bits. A reader need not believe it: laws tie it to Decimal (proofs/Holding). Definitions only.
use Rattle.std.specs.Prelude.{ℕ, ◌^◌, min, Option, None, Some}

abbrev pub held : ℕ → ℕ
held n = min n (2 ^ 32)

abbrev pub digits_held : Option ℕ → Option ℕ
digits_held None = None
digits_held (Some n) = Some (held n)
