-- Sheets: the layout of document 01, with both trailers of document 02, tests 1, 14 and 2 to 4, and the bytes of a sheet. Definitions only.
use Rattle.std.specs.Prelude.{ℕ, ◌+◌, ◌-◌, ◌*◌, ◌/◌, ◌%◌, ◌^◌, Bool, true, not, ◌&&◌, ◌||◌, cond, List, [], ◌∷◌, ◌++◌, leb, ltb, eqb, length, get_or}
use Rattle.tropical_weight.specs.Limits.{unit, finest, weight_limit}
use Rattle.tropical_weight.specs.Grid.{grid_bits}
use Rattle.sheet.specs.Below.{all_below, sum_below}
use Rattle.sheet.specs.Words.{word_length, word, words, bytes_of_all}
use Rattle.sheet.specs.declared.form.Form.{Form}

-- the bytes of a link and of a node, and their fields
abbrev pub link_length : ℕ
link_length = 16

abbrev pub node_length : ℕ
node_length = 12

abbrev pub link_words : ℕ
link_words = 4

abbrev pub node_words : ℕ
node_words = 3

-- ---- the form of a sheet: how it ends
-- the bytes of its trailer, of five fields or of six
abbrev pub short_trailer : ℕ
short_trailer = 20

abbrev pub long_trailer : ℕ
long_trailer = 24

abbrev pub trailer_length : Form → ℕ
trailer_length Form.Short = short_trailer
trailer_length (Form.Long u) = long_trailer

-- the bytes of a sheet of that form, of so many links and nodes
abbrev pub sheet_size : Form → ℕ → ℕ → ℕ
sheet_size form links nodes = link_length * links + node_length * nodes + trailer_length form

-- the fields after the fifth: the unit as it stands
abbrev pub unit_fields : Form → List ℕ
unit_fields Form.Short = []
unit_fields (Form.Long u) = u ∷ []

-- the unit of its weights is 1 / 2 ^ unit_of; one that test 14 refuses counts as 64
abbrev pub unit_of : Form → ℕ
unit_of Form.Short = unit
unit_of (Form.Long u) = cond (eqb u (2 ^ finest)) finest unit

-- What a sheet holds, in its own fields: the words of its links, four a link, those of its nodes, three a node, the start, and its form.
pub record Parts : Type 0 where
  pub links : List ℕ
  pub nodes : List ℕ
  pub start : ℕ
  pub form : Form

-- the start's field where there is none
abbrev pub no_start : ℕ
no_start = 0xffff_ffff

abbrev pub link_count : Parts → ℕ
link_count p = length p.links / link_words

abbrev pub node_count : Parts → ℕ
node_count p = length p.nodes / node_words

-- the fields of link l
module _ (p : Parts) (l : ℕ) where
  abbrev pub ilabel : ℕ
  ilabel = get_or p.links (link_words * l) 0

  abbrev pub olabel : ℕ
  olabel = get_or p.links (link_words * l + 1) 0

  abbrev pub link_bits : ℕ
  link_bits = get_or p.links (link_words * l + 2) 0

  abbrev pub next : ℕ
  next = get_or p.links (link_words * l + 3) 0

-- the fields of node v
module _ (p : Parts) (v : ℕ) where
  abbrev pub count : ℕ
  count = get_or p.nodes (node_words * v) 0

  abbrev pub mark : ℕ
  mark = get_or p.nodes (node_words * v + 1) 0

  abbrev pub final_bits : ℕ
  final_bits = get_or p.nodes (node_words * v + 2) 0

-- ---- the tests
-- a mark is 0 or 1, and with mark 0 the weight's field is 0
abbrev pub well_marked : ℕ → ℕ → Bool
well_marked mark bits = eqb mark 1 || (eqb mark 0 && eqb bits 0)

-- of test 1, what is said of the nodes: marks, absent finals' weights, and the sum of link counts
unfoldable pub nodes_fit : Parts → Bool
unfolding all_below sum_below
nodes_fit p = all_below (node_count p) (λ v. well_marked (mark p v) (final_bits p v)) && eqb (sum_below (node_count p) (count p)) (link_count p)

-- test 14: the unit is 64 or 256
abbrev pub unit_fits : Form → Bool
unit_fits Form.Short = true
unit_fits (Form.Long u) = eqb u (2 ^ unit) || eqb u (2 ^ finest)

-- test 2: the start is below N, or none
abbrev pub start_fits : ℕ → ℕ → Bool
start_fits n start = ltb start n || eqb start no_start

-- test 3: each next node is below N
unfoldable pub nexts_fit : Parts → Bool
unfolding all_below
nexts_fit p = all_below (link_count p) (λ l. ltb (next p l) (node_count p))

-- the field of positive infinity, the weight of what is barred
abbrev pub barred_bits : ℕ
barred_bits = 0x7f80_0000

-- on the grid whose unit is 1 / 2 ^ j
abbrev pub on_grid_bits : ℕ → ℕ → Bool
on_grid_bits j bits = grid_bits j weight_limit bits

-- a weight's field bars, or is on the grid
abbrev pub weight_fits : ℕ → ℕ → Bool
weight_fits j bits = eqb bits barred_bits || on_grid_bits j bits

-- test 4: so does each link's, and each marked node's, on the grid of the sheet's unit
unfoldable pub weights_fit : Parts → Bool
unfolding all_below grid_bits
weights_fit p =
    all_below (link_count p) (λ l. weight_fits (unit_of p.form) (link_bits p l)) && all_below (node_count p) (λ v. eqb (mark p v) 0 || weight_fits (unit_of p.form) (final_bits p v))

-- The first number of 1, 14 and 2 to 4 whose test fails, or 0; `laidOut` is what test 1 says besides the nodes.
unfoldable pub verdict : Bool → Parts → ℕ
unfolding nodes_fit nexts_fit weights_fit
verdict laidOut p =
    cond (not (laidOut && nodes_fit p)) 1
    (cond (not (unit_fits p.form)) 14 (cond (not (start_fits (node_count p) p.start)) 2 (cond (not (nexts_fit p)) 3 (cond (not (weights_fit p)) 4 0))))

-- ---- reading: a sheet ends in a trailer that points back
-- field i of a trailer of so many bytes
abbrev pub field_back : ℕ → List ℕ → ℕ → ℕ
field_back size bytes i = word bytes (length bytes - size + word_length * i)

-- length and offsets, with a trailer of so many bytes
unfoldable pub laid_out : ℕ → List ℕ → Bool
unfolding word
laid_out size bytes =
    leb size (length bytes)
    && eqb (field_back size bytes 0) 0
    && eqb (field_back size bytes 1) (link_length * field_back size bytes 3)
    && eqb (length bytes) (link_length * field_back size bytes 3 + node_length * field_back size bytes 2 + size)

-- The form of a sheet: no byte string is laid out under both trailers, as is proved. One that is laid out under neither is read as a short one.
unfoldable pub form_of : List ℕ → Form
unfolding laid_out word
form_of bytes = cond (laid_out long_trailer bytes) (Form.Long (field_back long_trailer bytes 5)) Form.Short

-- the bytes of its trailer
abbrev pub trailer_size : List ℕ → ℕ
trailer_size bytes = trailer_length (form_of bytes)

-- field i of it
abbrev pub trailer_field : List ℕ → ℕ → ℕ
trailer_field bytes i = field_back (trailer_size bytes) bytes i

-- the counts that the trailer states
abbrev pub stated_nodes : List ℕ → ℕ
stated_nodes bytes = trailer_field bytes 2

abbrev pub stated_links : List ℕ → ℕ
stated_links bytes = trailer_field bytes 3

-- its fields under the trailer of a form, and under its own
abbrev pub parts_under : Form → List ℕ → Parts
parts_under f bytes = let at = field_back (trailer_length f) bytes in record {
  links = words bytes 0 (link_words * at 3);
  nodes = words bytes (link_length * at 3) (node_words * at 2);
  start = at 4;
  form = f;
}

unfoldable pub parts_of : List ℕ → Parts
unfolding word words form_of
parts_of bytes = parts_under (form_of bytes) bytes

-- laid out under one of the two
abbrev pub sizes_fit : List ℕ → Bool
sizes_fit bytes = laid_out (trailer_size bytes) bytes

-- what reading a byte string as a sheet answers: 0 where it is accepted, else the number of the refusal
unfoldable pub read_number : List ℕ → ℕ
unfolding word laid_out form_of parts_of verdict
read_number bytes = verdict (sizes_fit bytes) (parts_of bytes)

-- ---- writing
-- whole records, and counts and offsets that their fields hold
abbrev pub records_fit : Parts → Bool
records_fit p = eqb (length p.links % link_words) 0 && eqb (length p.nodes % node_words) 0 && ltb (node_count p) (2 ^ 32) && ltb (link_length * link_count p) (2 ^ 32)

abbrev pub trailer_of : Parts → List ℕ
trailer_of p = 0 ∷ link_length * link_count p ∷ node_count p ∷ link_count p ∷ p.start ∷ unit_fields p.form

-- the bytes of a sheet
unfoldable pub sheet_of : Parts → List ℕ
unfolding bytes_of_all
sheet_of p = bytes_of_all (p.links ++ p.nodes ++ trailer_of p)

abbrev pub sheet_length : Parts → ℕ
sheet_length p = sheet_size p.form (link_count p) (node_count p)

-- what writing these parts into an area of so many bytes answers: 0 where they are written, else the number of the refusal
unfoldable pub write_number : Parts → ℕ → ℕ
unfolding verdict
write_number p room = let k = verdict (records_fit p) p in cond (not (eqb k 0)) k (cond (ltb room (sheet_length p)) 21 0)
