-- What a call for a list answers and needs, and the words of its records. But for `slots_of` and `slots_for` it mirrors the code: a reader need not believe that part. Definitions only.
use Rattle.std.specs.Prelude.{Bool, true, false, cond, List, [], ◌∷◌, ◌++◌, ℕ, zero, suc, ◌+◌, ◌*◌, ltb, length, drop, Result as Answer, Ok, Err}
use Rattle.sheet.specs.declared.refusal.Refusal.{Refusal}
use Rattle.sheet.specs.Words.{word_length, word}
use Rattle.sheet.specs.Sheet.{link_length}
use Rattle.sheet.specs.Machine.{Machine}
use Rattle.machine.specs.Readings.{marked}
use Rattle.search.specs.ListMachine.{Result, result_bytes}
use Rattle.list_answer.specs.declared.Listed.{Listed}

-- by whether the area is too short for so many nodes and links, and entries taken
abbrev pub listed_by : Bool → ℕ → ℕ → ℕ → Answer Listed Refusal
listed_by true nodes links taken = Err Refusal.Room
listed_by false nodes links taken = Ok (record { nodes = nodes; links = links; taken = taken })

-- a result, to an area of so many bytes
abbrev pub listed_in : Result → ℕ → Answer Listed Refusal
listed_in r room = listed_by (ltb room (length (result_bytes r))) (length r.machine.finals) (length r.machine.links) r.taken

-- the area afterwards
abbrev pub listed_over : Result → List ℕ → List ℕ
listed_over r old = cond (ltb (length old) (length (result_bytes r))) old (result_bytes r ++ drop (length (result_bytes r)) old)

-- ---- the words of an answer's records
-- link l with another next node
abbrev pub link_to : List ℕ → ℕ → ℕ → List ℕ
link_to bytes l next = word bytes (link_length * l) ∷ word bytes (link_length * l + word_length) ∷ word bytes (link_length * l + 2 * word_length) ∷ next ∷ []

-- n states of one link that are not final
unfoldable pub state_words : ℕ → List ℕ
state_words zero = []
state_words (suc n) = 1 ∷ 0 ∷ 0 ∷ state_words n

-- ---- what a list needs
-- work slots, for N nodes, T links and F final nodes: none for n = 0, N for n = 1, otherwise N + T + 2 × F + 2 + n × (T + 1)
abbrev pub slots_of : ℕ → ℕ → ℕ → ℕ → ℕ
slots_of nodes links finals zero = 0
slots_of nodes links finals (suc zero) = nodes
slots_of nodes links finals (suc (suc k)) = nodes + links + 2 * finals + 2 + suc (suc k) * (links + 1)

abbrev pub slots_for : Machine → ℕ → ℕ
slots_for m n = slots_of (length m.finals) (length m.links) (marked m.finals) n
