-- What the bytes of a result say of a list, whatever they are: how many readings it holds, and the input links along the way of each. Definitions only.
use Rattle.std.specs.Prelude.{Bool, ◌&&◌, List, [], ◌∷◌, ◌++◌, eqb, leb, ltb, length, Option as Maybe, Some, None}
use Rattle.std.proofs.Math.Bool.{cond}
use Rattle.std.proofs.Math.Option.{Option, none, some}
use Prim.Native.Nat.{ℕ, zero, suc, ◌+◌, ◌-◌, ◌*◌}
use Rattle.sheet.specs.declared.form.Form.{Form}
use Rattle.sheet.specs.Words.{word_length, word}
use Rattle.sheet.specs.Sheet.{link_length, node_length, sheet_size, no_start}

-- the state that link l leads to
abbrev pub next_at : List ℕ → ℕ → ℕ
next_at result l = word result (link_length * l + 3 * word_length)

-- the number that a word tells, where it is one
abbrev pub number_told : ℕ → Maybe ℕ
number_told word = cond (eqb word no_start) None (Some word)

-- it as a list
abbrev pub told_by : Maybe ℕ → List ℕ
told_by None = []
told_by (Some number) = number ∷ []

abbrev pub told : ℕ → List ℕ
told word = told_by (number_told word)

-- a number before those of a way
abbrev pub told_before : ℕ → Option (List ℕ) → Option (List ℕ)
told_before number none = none
told_before number (some way) = some (told number ++ way)

-- with n = 1 states count from the one that a way ends at; else the start is state 0, and a way ends at state 1
abbrev pub last_state : ℕ → ℕ
last_state n = cond (eqb n 1) 0 1

-- ---- a result whose machine has so many nodes and links
module _ (result : List ℕ) (nodes links : ℕ) where
  -- how many links leave state 0
  abbrev pub start_links : ℕ
  start_links = word result (link_length * links)

  -- n = 1: the machine's start
  abbrev pub start_state : ℕ
  start_state = word result (link_length * links + node_length * nodes + 4 * word_length)

  -- ---- a way to this last state, above which each state has one link, the first of them behind so many links
  module _ (before last : ℕ) where
    abbrev pub only_link : ℕ → ℕ
    only_link q = before + (q - 1 - last)

    -- whether a state has its link, and it leads to a lower state
    abbrev pub falls : ℕ → Bool
    falls q = ltb q nodes && ltb (only_link q) links && ltb (next_at result (only_link q)) q

  -- ---- read as a list for n
  module _ (n : ℕ) where
    -- how many readings there are: none in an empty machine, one with n = 1, else one for each link of the start
    abbrev pub count_in : ℕ
    count_in = cond (eqb nodes 0) 0 (cond (eqb n 1) 1 start_links)

    -- from n = 2 the links of the start stand first
    abbrev pub links_before : ℕ
    links_before = cond (eqb n 1) 0 start_links

    -- where the way of reading k begins: at the machine's start, or from n = 2 where its link k leads; where there is no such link, at state 0, from which there is no way
    abbrev pub first_state : ℕ → ℕ
    first_state k = cond (eqb n 1) start_state (cond (ltb k links) (next_at result k) 0)

-- ---- and whose sheet is of this form: that of the sheet that the list is of, which the bytes of a result do not tell
module _ (form : Form) (result : List ℕ) (nodes links : ℕ) where
  -- the bytes of the machine as a sheet, and with the words behind it
  abbrev pub machine_bytes : ℕ
  machine_bytes = sheet_size form links nodes

  abbrev pub answer_bytes : ℕ
  answer_bytes = machine_bytes + word_length * links

  -- the number of the input link that link l repeats, or none
  abbrev pub number_at : ℕ → ℕ
  number_at l = word result (machine_bytes + word_length * l)

  -- The input links repeated from state q as far as the last, or none where that is no way. States fall, so that as many steps as states are enough.
  unfoldable pub way_from : ℕ → ℕ → ℕ → ℕ → Option (List ℕ)
  unfolding word
  way_from before last zero q = cond (eqb q last) (some []) none
  way_from before last (suc steps) q =
      let only = only_link result nodes links before last q in
      let on = told_before (number_at only) (way_from before last steps (next_at result only)) in
      cond (leb q last) (cond (eqb q last) (some []) none) (cond (falls result nodes links before last q) on none)

  -- it is long enough, and has no more readings than were asked for
  abbrev pub is_list : ℕ → Bool
  is_list n = leb answer_bytes (length result) && leb (count_in result nodes links n) n

  abbrev pub way_of : ℕ → ℕ → Option (List ℕ)
  way_of n k = way_from (links_before result nodes links n) (last_state n) nodes (first_state result nodes links n k)
