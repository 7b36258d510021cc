-- Mirrors the code: the one best reading in the slots of the nodes, word by word. A reader need not believe it: laws tie it to Parents of crate machine (proofs/WayBytes).
-- Definitions only.
use Rattle.std.specs.Prelude.{◌≡◌, false, cond, List, [], ◌∷◌, ◌++◌, ℕ, zero, suc, ◌+◌, ◌*◌, ◌≤◌, ◌<◌, ltb, length, Float, Option, Some, None, Result}
use Rattle.std.specs.Float.Ieee.{lt}
use Rattle.std.specs.Float.Ieee as Ieee
use Rattle.sheet.specs.declared.form.Form.{Form}
use Rattle.sheet.specs.Words.{word_length}
use Rattle.sheet.specs.Sheet.{link_length, node_length, trailer_length}
use Rattle.sheet.specs.Records.{final_at}
use Rattle.sheet.specs.Accepted.{trailer_in, trailer_fields, ending_at}
use Rattle.distance.specs.Held.{Distance, total_in}
use Rattle.shortest_distance.specs.declared.parent.Parent.{Parent}
use Rattle.shortest_distance.specs.ParentWords.{by, parent_at}
use Rattle.shortest_distance.specs.NodeSlots.{distance_at}
use Rattle.sheet.specs.declared.refusal.Refusal.{Refusal}
use Rattle.slots.specs.Slots.{slot_length}
use Rattle.list_answer.specs.declared.Listed.{Listed}
use Rattle.list_answer.specs.ListAnswer.{listed_by, link_to, state_words}

-- ---- the best end
-- the total of a node at this distance, by the field of its final weight: infinite where it has none
abbrev pub total_by : Distance → Option ℕ → Float
total_by d None = Ieee.inf false
total_by d (Some bits) = total_in d bits

abbrev pub total_value : List ℕ → ℕ → List ℕ → ℕ → Float
total_value bytes links work v = total_by (distance_at work v) (ending_at bytes links v)

-- An end, or none, and its total.
pub record Best : Type 0 where
  pub end : Option ℕ
  pub least : Float

-- of the first n nodes, the lowest that has the least total, where that is finite
unfoldable pub best_below : List ℕ → ℕ → List ℕ → ℕ → Best
best_below bytes links work zero = record { end = None; least = Ieee.inf false }
best_below bytes links work (suc v) =
    let b = best_below bytes links work v in
    cond (lt (total_value bytes links work v) b.least) (record { end = Some v; least = total_value bytes links work v }) b

-- ---- the way back from the end
-- Parents' sources fall from a node on.
pub record Falls (work : List ℕ) (end : ℕ) : Type 0 where
  pub slots : slot_length * end + slot_length ≤ length work
  pub sources : (v l u : ℕ) → v ≤ end → parent_at work v ≡ by l u → u < v

-- And each parent is a link of the sheet.
pub record Traced (bytes work : List ℕ) (end : ℕ) : Type 0 where
  pub falls : Falls work end
  pub among : (v l u : ℕ) → v ≤ end → parent_at work v ≡ by l u → link_length * l + link_length ≤ length bytes

-- the parents' links from v back, the last first; v steps are enough
abbrev pub on_from : Option Parent → (ℕ → List ℕ) → List ℕ
on_from None back = []
on_from (Some p) back = p.link ∷ back p.source

unfoldable pub way_back : List ℕ → ℕ → ℕ → List ℕ
way_back work zero v = []
way_back work (suc f) v = on_from (parent_at work v) (way_back work f)

-- How the way back goes on from v, by the parent there: it ends, or steps to a lower node by a link of the sheet.
abbrev pub Back : List ℕ → List ℕ → ℕ → Option Parent → Type 0
Back bytes work v None = way_back work v v ≡ []
Back bytes work v (Some p) = (p.source < v) × (link_length * p.link + link_length ≤ length bytes) × (way_back work v v ≡ p.link ∷ way_back work p.source p.source)

-- the links of a way, the last first, to the states from s on
unfoldable pub way_links : List ℕ → ℕ → List ℕ → List ℕ
way_links bytes s [] = []
way_links bytes s (l ∷ ls) = link_to bytes l s ++ way_links bytes (suc s) ls

-- the final state, with the weight of this field, and n more
abbrev pub way_nodes : ℕ → ℕ → List ℕ
way_nodes bits n = 0 ∷ 1 ∷ bits ∷ state_words n

-- the trailer of the form of the sheet
abbrev pub way_trailer : Form → ℕ → List ℕ
way_trailer form k = trailer_fields (trailer_in k (k + 1) k form)

-- the words of the answer: the way's links, states and trailer, and the link numbers
abbrev pub way_words : List ℕ → Form → ℕ → List ℕ → List ℕ
way_words bytes form bits way = way_links bytes 0 way ++ way_nodes bits (length way) ++ way_trailer form (length way) ++ way

-- and of the way back from a node of a sheet with so many links
abbrev pub way_from : List ℕ → ℕ → Form → List ℕ → ℕ → List ℕ
way_from bytes links form work end = way_words bytes form (final_at bytes links end) (way_back work end end)

-- its bytes: for each link its record, a state and its number, and besides the final state and the trailer
abbrev pub way_length : Form → ℕ → ℕ
way_length form k = (link_length + node_length + word_length) * k + node_length + trailer_length form

-- what is answered to an area of so many bytes
abbrev pub way_listed : Form → List ℕ → ℕ → Result Listed Refusal
way_listed form way room = listed_by (ltb room (way_length form (length way))) (length way + 1) (length way) 0
