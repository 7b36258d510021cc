-- Where the first stands that passes a test. Assumes nothing.
use Rattle.std.proofs.Common.{◌≡◌, ℕ, ◌≤◌, Bool, true, false, cond, ltb, ltb-false, refl}
use Rattle.std.specs.Prelude.{Some, None}

-- where it is found
pub found : (p n end : ℕ) → cond (ltb p n) (Some p) None ≡ Some end → end ≡ p
found p n end = go (ltb p n)
  where
    go : (b : Bool) → cond b (Some p) None ≡ Some end → end ≡ p
    go true e = cc
    go false e = absurd (cc)

pub missed : (p n : ℕ) → cond (ltb p n) (Some p) None ≡ None → n ≤ p
missed p n = go (ltb p n) refl
  where
    go : (b : Bool) → ltb p n ≡ b → cond b (Some p) None ≡ None → n ≤ p
    go true h e = absurd (cc)
    go false h e = ltb-false p n h
