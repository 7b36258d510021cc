use native.Mathlib.Omega.{arith}
use Rattle.sheet.specs.Words.{word}
use Rattle.sheet.proofs.words.word.Goals as goal

pub returns : goal.returns
unfolding word
returns c = omega (arith, c.from_le_bytes.ensures)
