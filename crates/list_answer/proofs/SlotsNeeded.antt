-- The slots that a list needs, from n = 2. Assumes nothing.
use mathlib.Core.Path.{◌≡◌, refl}
use Prim.Native.Nat.{ℕ, zero, suc, ◌+◌, ◌*◌, ◌≤◌}
use native.Mathlib.Omega.{arith}
use Rattle.list_answer.specs.ListAnswer.{slots_of}

pub slots-many : (nodes links finals n : ℕ) → 2 ≤ n → slots_of nodes links finals n ≡ nodes + links + 2 * finals + 2 + n * (links + 1)
slots-many nodes links finals zero h = absurd (omega arith)
slots-many nodes links finals (suc zero) h = absurd (omega arith)
slots-many nodes links finals (suc (suc k)) h = refl
