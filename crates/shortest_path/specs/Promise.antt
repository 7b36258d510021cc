-- Demand 3 of the open call for lists, about the list read from the result alone and the counts that the call answers. Definitions only.
use Rattle.std.specs.Prelude.{◌≡◌, true, List, [], ◌∷◌, map, ℕ, ◌+◌, ◌≤◌, ◌<◌, take, Result, Ok, Err}
use Rattle.std.proofs.Math.Option.{Option, none, some}
use Rattle.sheet.specs.Sheet.{sheet_size, form_of}
use Rattle.sheet.specs.Machine.{Machine, machine}
use Rattle.machine.specs.Readings.{Reading, IsReading, reading_of}
use Rattle.machine.specs.Parents.{best}
use Rattle.machine.specs.Demand.{Demand}
use Rattle.search.specs.Reversed.{reversed}
use Rattle.search.specs.Search.{stopped, most_taken, search, runs}
use Rattle.search.specs.Listed.{list_of}
use Rattle.sheet.specs.declared.refusal.Refusal.{Refusal}
use Rattle.list_answer.specs.declared.Listed.{Listed}

-- the one reading, if there is one
abbrev pub if_any : Option Reading → List Reading
if_any none = []
if_any (some x) = x ∷ []

-- The list for n that the first bytes of a result hold, in a machine of so many nodes and links, with so many entries taken.
pub record Keeps (m : Machine) (n nodes links taken : ℕ) (result : List ℕ) : Type 0 where
  -- the machine's sheet has the trailer of the sheet that was read
  pub form : form_of (take (sheet_size m.form links nodes) result) ≡ m.form
  -- as many as the smaller of n and the number of readings, each a reading, no two the same, in order of cost, and nothing cheaper left out
  pub demand : Demand m n (map (reading_of m) (list_of m.form n nodes links result))
  -- with n = 1 the reading, if there is one, is the one that the parents give
  pub parents : n ≡ 1 → map (reading_of m) (list_of m.form n nodes links result) ≡ if_any (best m)
  -- from n = 2, where there is a reading, the list holds those that the search lists, in its order, and taken is the number that it removes
  pub searched : 2 ≤ n → (x : Reading) → IsReading m x → (list_of m.form n nodes links result ≡ runs (search m n)) × (taken ≡ (search m n).taken)
  -- the search has stopped by itself: its n-th listed entry is taken, or its heap is empty
  pub stops : stopped (reversed m) n (search m n) ≡ true
  -- taken is 0 without a reading, as it is for n below 2
  pub unread : ((x : Reading) → IsReading m x → ⊥) → taken ≡ 0
  pub unsearched : n < 2 → taken ≡ 0
  -- at most 1 + F + n × (T + 1)
  pub bound : taken ≤ most_taken m n

-- of an answer, and the result area afterwards
abbrev pub Promised : List ℕ → ℕ → Result Listed Refusal → List ℕ → Type 0
Promised bytes n (Ok l) result = Keeps (machine bytes) n l.nodes l.links l.taken result
Promised bytes n (Err r) result = Unit
