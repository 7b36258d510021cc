-- The fields of bytes, four at a time. Assumes nothing.
use Rattle.std.proofs.Common.{◌≡◌, ℕ, ◌<◌, List, [], ◌∷◌, ◌++◌, length, refl, arith}
use Rattle.sheet.specs.Words.{word}
use Rattle.replay_queues.specs.Records.{fields}

-- four bytes, and what is behind them
pub fields-more : (four bytes : List ℕ) → length four ≡ 4 → fields (four ++ bytes) ≡ word four 0 ∷ fields bytes
unfolding fields
fields-more [] bytes e = absurd (cc)
fields-more (a ∷ []) bytes e = absurd (omega arith)
fields-more (a ∷ b ∷ []) bytes e = absurd (omega arith)
fields-more (a ∷ b ∷ c ∷ []) bytes e = absurd (omega arith)
fields-more (a ∷ b ∷ c ∷ d ∷ []) bytes e = refl
fields-more (a ∷ b ∷ c ∷ d ∷ x ∷ four) bytes e = absurd (omega arith)

-- fewer than four are no field
pub fields-end : (bytes : List ℕ) → length bytes < 4 → fields bytes ≡ []
unfolding fields
fields-end [] h = refl
fields-end (a ∷ []) h = refl
fields-end (a ∷ b ∷ []) h = refl
fields-end (a ∷ b ∷ c ∷ []) h = refl
fields-end (a ∷ b ∷ c ∷ d ∷ bytes) h = absurd (omega arith)
