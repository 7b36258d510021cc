-- The machines that lists are answered by: the list machine, trimmed, and the parents' one way; and the bytes of the result. Definitions only.
use Rattle.std.specs.Prelude.{◌≡◌, Bool, true, false, ◌&&◌, ◌||◌, ℕ, zero, suc, ◌-◌, eqb, length, get_or, replicate}
use Rattle.std.proofs.Math.Bool.{cond}
use Rattle.std.proofs.Math.Option.{Option, none, some}
use mathlib.Core.List.{List, [], ◌∷◌, ◌++◌, map, reverse}
use Rattle.tropical_weight.specs.Tropical.{Tropical, one}
use Rattle.sheet.specs.declared.form.Form.{Form}
use Rattle.sheet.specs.Below.{sum_below, list_below}
use Rattle.sheet.specs.Words.{bytes_of_all}
use Rattle.sheet.specs.Sheet.{no_start, sheet_of}
use Rattle.sheet.specs.Machine.{Link, Machine, parts_for}
use Rattle.machine.specs.Readings.{Reading, IsRun, link, final, final_weight}
use Rattle.machine.specs.Parents.{best}
use Rattle.search.specs.Search.{Entry, half, finished, Put, first, Search, search}

-- A machine, of the form of the sheet that it answers; for each of its links the number of the input link that it repeats, or none, and how many entries were taken.
pub record Result : Type 0 where
  pub machine : Machine
  pub repeats : List (Option ℕ)
  pub taken : ℕ

-- no nodes, in a sheet of that form
abbrev pub empty : Form → Result
empty form = record { machine = record { links = []; finals = []; start = none; form = form }; repeats = []; taken = 0 }

-- a link that repeats this one between two other states
abbrev pub moved : Link → ℕ → ℕ → Link
moved k s n = record { source = s; ilabel = k.ilabel; olabel = k.olabel; weight = k.weight; next = n }

-- a link of labels 0, 0
abbrev pub blank : ℕ → Tropical → ℕ → Link
blank s w n = record { source = s; ilabel = 0; olabel = 0; weight = w; next = n }

-- ---- n = 1: the final node is state 0, and states count up to the start
-- the links of a way, the last first, from state s down
unfoldable pub back_links : Machine → ℕ → List ℕ → List Link
back_links m s [] = []
back_links m s (l ∷ ls) = moved (link m l) s (s - 1) ∷ back_links m (suc s) ls

abbrev pub best_result : Machine → Reading → Result
best_result m x =
    let k = length x.run in
    let way : Machine = record { links = back_links m 1 (reverse x.run); finals = final m x.end ∷ replicate k none; start = some k; form = m.form } in
    record { machine = way; repeats = map some (reverse x.run); taken = 0 }

-- A link, and the number of the input link that it repeats, or none.
pub record Copy : Type 0 where
  pub link : Link
  pub repeats : Option ℕ

-- ---- from n = 2, before trimming: state 0 is the start, and entry i is state i + 1
-- the start's link to a listed entry's state
abbrev pub start_copy : ℕ → Copy
start_copy i = record { link = blank 0 one (suc i); repeats = none }

-- the link of an entry that was put in by an input link, or else by one from node 0 to a final node, or finished
abbrev pub link_by : Machine → Option ℕ → Entry → ℕ → ℕ → Link
link_by m (some l) e s n = moved (link m l) s n
link_by m none (half v c) s n = blank s (final_weight (final m (v - 1))) n
link_by m none (finished c) s n = blank s one n

-- an entry's one link, to the state of the entry it came from
abbrev pub entry_copy : Machine → Search → ℕ → Copy
entry_copy m s j = let e = get_or s.entries j first in record { link = link_by m e.input e.entry (suc j) (suc e.from); repeats = e.input }

-- all but the first have a link; the states of the others count from 2 in the order they were put in, those never taken included
unfoldable pub copies : Machine → Search → List Copy
unfolding list_below
copies m s = map start_copy s.listed ++ list_below (length s.entries - 1) (λ j. entry_copy m s (suc j))

-- state 1, the first entry's, is final with weight 0
abbrev pub finals_of : Search → List (Option Tropical)
finals_of s = none ∷ some one ∷ replicate (length s.entries - 1) none

abbrev pub untrimmed : Machine → Search → Machine
untrimmed m s = record { links = map (λ (k : Copy). k.link) (copies m s); finals = finals_of s; start = some 0; form = m.form }

-- ---- trimming
-- State q of a machine is on a way from the start to a final state: a run of links leads from the one to it, and another from it to the other.
pub record OnStartToFinal (m : Machine) (q : ℕ) : Type 0 where
  pub from : ℕ
  pub starts : m.start ≡ some from
  pub come : List ℕ
  pub comes : IsRun m from come q
  pub go : List ℕ
  pub to : ℕ
  pub goes : IsRun m q go to
  pub weight : Tropical
  pub marked : final m to ≡ some weight

-- of the states, by number, those that stay
module _ (stays : ℕ → Bool) where
  -- the new number of state q, in rising old number: as many as stay below it
  abbrev pub new_number : ℕ → ℕ
  new_number q = sum_below q (λ i. cond (stays i) 1 0)

  -- the links between states that stay
  unfoldable pub links_stay : List Copy → List Copy
  unfolding sum_below
  links_stay [] = []
  links_stay (k ∷ ks) =
      let new : Copy = record { link = moved k.link (new_number k.link.source) (new_number k.link.next); repeats = k.repeats } in
      cond (stays k.link.source && stays k.link.next) (new ∷ links_stay ks) (links_stay ks)

  -- the final weights of those from q on
  unfoldable pub finals_stay : ℕ → List (Option Tropical) → List (Option Tropical)
  finals_stay q [] = []
  finals_stay q (f ∷ fs) = cond (stays q) (f ∷ finals_stay (suc q) fs) (finals_stay (suc q) fs)

-- whether entry j is i or one that i came from; the second argument is at least i
unfoldable pub is_behind : List Put → ℕ → ℕ → ℕ → Bool
is_behind es zero i j = eqb i j
is_behind es (suc k) i j = eqb i j || is_behind es k (get_or es i first).from j

-- whether entry j is on the way of one of these: the only ways from start to final are those of the listed
unfoldable pub on_way : List Put → List ℕ → ℕ → Bool
unfolding is_behind
on_way es [] j = false
on_way es (i ∷ is) j = is_behind es i i j || on_way es is j

-- the start, and the states on a way from it to the final state: those that are `OnStartToFinal` in the machine before trimming, as is proved
abbrev pub stays_in : Search → ℕ → Bool
stays_in s zero = true
stays_in s (suc i) = on_way s.entries s.listed i

-- the list machine, trimmed
unfoldable pub trimmed : Machine → Search → Result
unfolding on_way copies links_stay finals_stay
trimmed m s =
    let ks = links_stay (stays_in s) (copies m s) in
    record {
      machine = record { links = map (λ (k : Copy). k.link) ks; finals = finals_stay (stays_in s) 0 (finals_of s); start = some 0; form = m.form };
      repeats = map (λ (k : Copy). k.repeats) ks;
      taken = s.taken;
    }

-- ---- for any n
abbrev pub result_by : Machine → ℕ → Option Reading → Result
result_by m n none = empty m.form
result_by m zero (some x) = empty m.form
result_by m (suc zero) (some x) = best_result m x
result_by m (suc (suc k)) (some x) = trimmed m (search m (suc (suc k)))

-- the parents give a reading where there is one
unfoldable pub result_for : Machine → ℕ → Result
unfolding best search trimmed back_links
result_for m n = result_by m n (best m)

-- the word of a link
abbrev pub word_for : Option ℕ → ℕ
word_for none = no_start
word_for (some l) = l

-- the machine as a sheet, then one word per link of it
unfoldable pub result_bytes : Result → List ℕ
unfolding parts_for sheet_of bytes_of_all
result_bytes r = sheet_of (parts_for r.machine) ++ bytes_of_all (map word_for r.repeats)
