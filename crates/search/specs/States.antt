-- Mirrors the code: the trimmed list machine state by state. A reader need not believe it: a law ties it to ListMachine (proofs/Trims).
-- The entries on a way, their states and their links. Definitions only.
use Rattle.std.proofs.Math.Bool.{cond}
use Rattle.std.proofs.Math.Option.{none, some}
use mathlib.Core.List.{List, [], ◌∷◌, ◌++◌, map}
use Prim.Native.Nat.{ℕ, zero, suc, ◌+◌, ◌-◌}
use Rattle.std.proofs.Math.ListN.{length}
use Rattle.std.specs.Prelude.{get_or, replicate}
use Rattle.tropical_weight.specs.Tropical.{one}
use Rattle.sheet.specs.Machine.{Link, Machine}
use Rattle.search.specs.Search.{first, Search}
use Rattle.search.specs.ListMachine.{Result, blank, link_by, on_way}

module _ (s : Search) where
  -- the entries from 1 to k that are on a way, rising
  unfoldable pub kept : ℕ → List ℕ
  unfolding on_way
  kept zero = []
  kept (suc k) = kept k ++ cond (on_way s.entries s.listed (suc k)) (suc k ∷ []) []

  -- The state of an entry on a way: the first is state 1, the others count from 2.
  unfoldable pub state_of : ℕ → ℕ
  unfolding kept
  state_of zero = 1
  state_of (suc k) = 2 + length (kept k)

  abbrev pub later : List ℕ
  later = kept (length s.entries - 1)

  abbrev pub start_link : ℕ → Link
  start_link i = blank 0 one (state_of i)

abbrev pub entry_link : Machine → Search → ℕ → Link
entry_link m s j = let e = get_or s.entries j first in link_by m e.input e.entry (state_of s j) (state_of s e.from)

-- State 0 is the start, with a link to each listed entry's state in order; state 1 is final with weight 0.
abbrev pub list_machine : Machine → Search → Machine
list_machine m s = record {
  links = map (start_link s) s.listed ++ map (entry_link m s) (later s);
  finals = none ∷ some one ∷ replicate (length (later s)) none;
  start = some 0;
  form = m.form;
}

abbrev pub list_result : Machine → Search → Result
list_result m s = record {
  machine = list_machine m s;
  repeats = replicate (length s.listed) none ++ map (λ j. (get_or s.entries j first).input) (later s);
  taken = s.taken;
}
