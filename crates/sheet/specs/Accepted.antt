-- What a sheet's value keeps of the bytes that it borrows, and what its methods give. Definitions only.
use Rattle.std.specs.Prelude.{ℕ, ◌*◌, cond, ltb, eqb, length, List, [], ◌∷◌, ◌++◌, Option, None, Some}
use Rattle.sheet.specs.declared.tr.Trailer.{Trailer}
use Rattle.sheet.specs.declared.form.Form.{Form}
use Rattle.sheet.specs.Sheet.{Parts, mark, final_bits, link_length, short_trailer, unit_fields}
use Rattle.sheet.specs.Records.{trailer_at, mark_at, final_at}

-- the trailer of that form that these counts and this start make
abbrev pub trailer_in : ℕ → ℕ → ℕ → Form → Trailer
trailer_in links nodes start form = record { link_offset = 0; node_offset = link_length * links; nodes = nodes; links = links; start = start; form = form }

-- a trailer's fields, in their order: the five of each form, and then the unit where it has a field
abbrev pub five_fields : Trailer → List ℕ
five_fields t = t.link_offset ∷ t.node_offset ∷ t.nodes ∷ t.links ∷ t.start ∷ []

abbrev pub trailer_fields : Trailer → List ℕ
trailer_fields t = five_fields t ++ unit_fields t.form

-- the trailer of a byte string that is long enough for one
abbrev pub stated_trailer : List ℕ → Option Trailer
stated_trailer bytes = cond (ltb (length bytes) short_trailer) None (Some (trailer_at bytes))

-- the start, where it is a node
abbrev pub start_in : ℕ → ℕ → Option ℕ
start_in nodes start = cond (ltb start nodes) (Some start) None

-- the field of node v's final weight, where it has a mark: by the bytes, and by the parts
abbrev pub ending_at : List ℕ → ℕ → ℕ → Option ℕ
ending_at bytes links v = cond (eqb (mark_at bytes links v) 0) None (Some (final_at bytes links v))

abbrev pub ending : Parts → ℕ → Option ℕ
ending p v = cond (eqb (mark p v) 0) None (Some (final_bits p v))
