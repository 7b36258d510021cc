-- What testing the input answers, by document 01's numbers and values. `nodes_climb` mirrors the code: a reader need not believe that part. Definitions only.
use Rattle.std.specs.Prelude.{ℕ, ◌+◌, ◌*◌, Bool, List, ltb, Result}
use Rattle.sheet.specs.declared.refusal.Refusal.{Refusal}
use Rattle.sheet.specs.declared.tr.Trailer.{Trailer}
use Rattle.sheet.specs.Refusals.{answer}
use Rattle.sheet.specs.Below.{all_below}
use Rattle.sheet.specs.Words.{word_length, word}
use Rattle.sheet.specs.Sheet.{link_length}
use Rattle.sheet.specs.Records.{count_at, first_link, trailer_at}
use Rattle.machine.specs.Input.{input_number}

-- whether the links of node v climb: they begin where those of the nodes before it end
abbrev pub node_climbs : List ℕ → ℕ → ℕ → Bool
node_climbs bytes links v = all_below (count_at bytes links v) (λ i. ltb v (word bytes (link_length * (first_link bytes links v + i) + 3 * word_length)))

-- links that climb, node by node
abbrev pub nodes_climb : List ℕ → ℕ → ℕ → Bool
nodes_climb bytes links nodes = all_below nodes (node_climbs bytes links)

-- tests 1, 14 and 2 to 6: the trailer, or the refusal of the number
abbrev pub input_answer : List ℕ → Result Trailer Refusal
input_answer bytes = answer (trailer_at bytes) (input_number bytes)
