-- A test computed over a whole table, entry by entry, and what it says of each. Assumes nothing.
use Rattle.std.proofs.Common.{ℕ, zero, suc, ◌<◌, Bool, true, ◌&&◌, T, List, [], ◌∷◌, length, get_or, le_of_suc-le-suc, not-suc-le-zero}
use lib.Ieee.Fits.{and_l, and_r}

-- the test of each entry, told its place
unfoldable pub all_entries : (ℕ → ℕ → Bool) → List ℕ → Bool
all_entries p [] = true
all_entries p (x ∷ xs) = p 0 x && all_entries (λ i. p (suc i)) xs

pub entry-passes : (p : ℕ → ℕ → Bool) (table : List ℕ) → T (all_entries p table) → (i : ℕ) → i < length table → T (p i (get_or table i 0))
unfolding all_entries
entry-passes p [] t i h = absurd (not-suc-le-zero h)
entry-passes p (x ∷ xs) t zero h = and_l (p 0 x) (all_entries (λ i. p (suc i)) xs) t
entry-passes p (x ∷ xs) t (suc i) h = entry-passes (λ k. p (suc k)) xs (and_r (p 0 x) (all_entries (λ k. p (suc k)) xs) t) i (le_of_suc-le-suc h)
