-- The node for i and j tells i and j. Assumes nothing.
use mathlib.Core.Path.{◌≡◌, sym, ap, ◌∙◌}
use Prim.Native.Nat.{ℕ, ◌+◌, ◌*◌, ◌/◌, ◌%◌, ◌≤◌, ◌<◌}
use native.Mathlib.Nat.{mul-add-div_right, mul-add-mod_self_right, mod-eq_of_lt, div-eq_of_lt, mul-le-mul_right, add-mul}
use native.Mathlib.Omega.{arith}

pub node-first : (n i j : ℕ) → j < n → (i * n + j) / n ≡ i
node-first n i j h = mul-add-div_right (let z : 0 < n = omega arith in z) i j ∙ (let z = div-eq_of_lt h in omega (arith, z))

pub node-second : (n i j : ℕ) → j < n → (i * n + j) % n ≡ j
node-second n i j h = mul-add-mod_self_right i n j ∙ mod-eq_of_lt h

pub node-apart : (n i j k l : ℕ) → j < n → l < n → i * n + j ≡ k * n + l → (i ≡ k) × (j ≡ l)
node-apart n i j k l h o e = (sym (node-first n i j h) ∙ ap (λ (x : ℕ). x / n) e ∙ node-first n k l o, sym (node-second n i j h) ∙ ap (λ (x : ℕ). x % n) e ∙ node-second n k l o)

pub node-lt : (m n i j : ℕ) → i < m → j < n → i * n + j < m * n
node-lt m n i j h o = let z : (i + 1) * n ≤ m * n = mul-le-mul_right n (let y : i + 1 ≤ m = omega arith in y) in omega (arith, z, add-mul i 1 n)

pub node-rises : (n i j k l : ℕ) → i < k → j < n → i * n + j < k * n + l
node-rises n i j k l h o = let z = node-lt k n i j h o in omega (arith, z)
