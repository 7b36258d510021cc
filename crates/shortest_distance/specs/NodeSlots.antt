-- Mirrors the code: the work area while distances are made. A reader need not believe it: laws tie it to Distance of crate machine (proofs/Rows, Lengths).
-- A slot of eight words a node. Words 0 and 1 hold its distance, words 2 and 3 its parent, word 4 the number of its first link. Definitions only.
use Rattle.std.specs.Prelude.{ℕ, zero, suc, ◌+◌, ◌*◌, cond, None, List, [], ◌++◌, leb, eqb, get_or, set}
use Rattle.sheet.specs.Words.{word_length, word}
use Rattle.sheet.specs.Sheet.{link_length}
use Rattle.sheet.specs.Records.{count_at, first_link}
use Rattle.slots.specs.Slots.{slot_length}
use Rattle.distance.specs.Held.{Distance}
use Rattle.distance.specs.Held.{reached_in, words_in, distance_in, with_distance}
use Rattle.shortest_distance.specs.ParentWords.{parent_stored}

-- what slot v holds
abbrev pub distance_at : List ℕ → ℕ → Distance
distance_at work v = distance_in work (slot_length * v)

abbrev pub first_word : List ℕ → ℕ → ℕ
first_word work v = get_or work (slot_length * v + 4) 0

-- the area with the first n slots set up
unfoldable pub prepared : List ℕ → ℕ → ℕ → List ℕ → List ℕ
prepared bytes links zero work = work
prepared bytes links (suc v) work = set (parent_stored (with_distance (prepared bytes links v work) (slot_length * v) None) v None) (slot_length * v + 4) (first_link bytes links v)

-- one more than the highest of n nodes that is reached, or 0
unfoldable pub height_in : List ℕ → ℕ → ℕ
unfolding distance_in
height_in work zero = 0
height_in work (suc v) = cond (reached_in (distance_at work v)) (suc v) (height_in work v)

-- a height, raised above the nodes that n links lead to, from a number on
unfoldable pub led_from : List ℕ → ℕ → ℕ → ℕ → ℕ
led_from bytes first zero height = height
led_from bytes first (suc n) height =
    let top = led_from bytes first n height in
    let next = word bytes (link_length * (first + n) + 3 * word_length) in
    cond (leb top next) (next + 1) top

-- and above those that the links of the reached ones of n nodes lead to
unfoldable pub led_height : List ℕ → ℕ → List ℕ → ℕ → ℕ → ℕ
unfolding distance_in
led_height bytes links work zero height = height
led_height bytes links work (suc v) height =
    let top = led_height bytes links work v height in
    let raised = led_from bytes (first_link bytes links v) (count_at bytes links v) top in
    cond (reached_in (distance_at work v)) raised top

-- one more than the highest of the nodes that is reached, or led to from a reached one, or 0; none is higher than the last
abbrev pub length_in : List ℕ → ℕ → ℕ → List ℕ → ℕ
length_in bytes links nodes work = let reached = height_in work nodes in cond (eqb reached nodes) reached (led_height bytes links work reached reached)

-- the words of the distances of the first n nodes
unfoldable pub distance_words : List ℕ → ℕ → List ℕ
unfolding distance_in
distance_words work zero = []
distance_words work (suc v) = distance_words work v ++ words_in (distance_at work v)
