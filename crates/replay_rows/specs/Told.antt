-- What a stored case tells of an answer: a number, and a length. Definitions only.
use Rattle.std.specs.Prelude.{◌≡◌, ℕ, Result, Ok, Err}
use Rattle.sheet.specs.declared.refusal.Refusal.{Refusal}
use Rattle.sheet.specs.Refusals.{number_of}

-- this length with the number 0, or the refusal's number and no length
abbrev pub Told : Result ℕ Refusal → ℕ → ℕ → Type 0
Told (Ok n) said length = (said ≡ 0) × (n ≡ length)
Told (Err refusal) said length = (said ≡ number_of refusal) × (length ≡ 0)
