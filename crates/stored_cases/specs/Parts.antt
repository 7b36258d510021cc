-- The bytes that a line of a stored case has from a field on, part by part. Definitions only.
use Rattle.std.specs.Prelude.{List, [], ◌∷◌, ◌++◌, ℕ, zero, suc, ◌+◌, ◌-◌, ◌*◌, ◌/◌, ◌%◌, Option, None, Some, unwrap_or, Bool, ◌&&◌, ◌||◌, ◌==◌, cond, leb, ltb, length, get_or, set, drop}
use Rattle.std.specs.List.{fold}
use Rattle.stored_cases.specs.declared.bytes.Part.{Part}
use Rattle.stored_cases.specs.declared.bytes.Part.TheVariants.{Byte, Nothing, Again, Raised}
use Rattle.stored_cases.specs.Digits.{is_hex, byte_at}

-- ---- the parts of a text

-- * or +, 42 and 43
abbrev pub is_mark : ℕ → Bool
is_mark c = (c == 42) || (c == 43)

-- the number of the two digits behind so many characters: 256, as no byte is, where they are none
abbrev pub pair_behind : List ℕ → ℕ → ℕ
pair_behind text at = unwrap_or (byte_at (drop at text)) 256

-- what follows a mark: how far back, and how many more, which has three bytes, the highest first
abbrev pub again_of : ℕ → List ℕ → Part
again_of mark text =
    let back = pair_behind text 0 in
    let more = 65536 * pair_behind text 2 + 256 * pair_behind text 4 + pair_behind text 6 in
    cond (mark == 43) (Raised back more) (Again back more)

-- what a digit begins: nothing where another is missing behind it
abbrev pub byte_of : Option ℕ → Part
byte_of None = Nothing
byte_of (Some value) = Byte value

-- the part that a text begins with
abbrev pub part_at : List ℕ → Option Part
part_at [] = None
part_at (c ∷ text) = cond (is_mark c) (Some (again_of c text)) (cond (is_hex c) (Some (byte_of (byte_at (c ∷ text)))) None)

-- how many characters it has
abbrev pub size_of : Part → ℕ
size_of (Byte value) = 2
size_of Nothing = 2
size_of (Again back more) = 9
size_of (Raised back more) = 9

-- a part, and those behind it; none where none begins there
abbrev pub led_by : Option Part → (ℕ → List Part) → List Part
led_by None rest = []
led_by (Some part) rest = part ∷ rest (size_of part - 1)

-- the parts of a text behind so many characters of it
unfoldable pub parts_from : ℕ → List ℕ → List Part
parts_from skip [] = []
parts_from (suc skip) (c ∷ text) = parts_from skip text
parts_from zero (c ∷ text) = led_by (part_at (c ∷ text)) (λ skip. parts_from skip text)

-- ---- the bytes that they put behind those that are there

-- so many bytes more, each as the one that stands so many before it: 0, where that is itself
unfoldable pub again : ℕ → ℕ → List ℕ → List ℕ
again back zero bytes = bytes
again back (suc more) bytes = again back more (bytes ++ get_or bytes (length bytes - back) 0 ∷ [])

-- the low half of the last word one higher
abbrev pub raised : List ℕ → List ℕ
raised bytes =
    let at = length bytes - 4 in
    let half = get_or bytes at 0 + 256 * get_or bytes (at + 1) 0 + 1 in
    set (set bytes at (half % 256)) (at + 1) (half / 256 % 256)

-- so many times the last bytes again, each time with the last word raised
unfoldable pub raised_again : ℕ → ℕ → List ℕ → List ℕ
raised_again back zero bytes = bytes
raised_again back (suc times) bytes = raised_again back times (raised (again back back bytes))

-- whether so many more have room, by as many as are there, and at least so many
abbrev pub can_again : ℕ → ℕ → ℕ → ℕ → List ℕ → Bool
can_again room least back more bytes = leb least back && leb back (length bytes) && leb (length bytes + more) room

-- the bytes with those of a part behind them, where there is room: what follows whole raised parts is not raised
abbrev pub with_part : ℕ → List ℕ → Part → List ℕ
with_part room bytes (Byte value) = cond (ltb (length bytes) room) (bytes ++ value ∷ []) bytes
with_part room bytes Nothing = bytes
with_part room bytes (Again back more) = cond (can_again room 0 back more bytes) (again back more bytes) bytes
with_part room bytes (Raised back more) = cond (can_again room 4 back more bytes) (again (back * (more / back + 1)) (more % back) (raised_again back (more / back) bytes)) bytes

-- the same for part after part
unfoldable pub with_parts : ℕ → List ℕ → List Part → List ℕ
with_parts room bytes parts = fold (with_part room) bytes parts

-- the bytes that a text stands for, in so much room
abbrev pub bytes_told : List ℕ → ℕ → List ℕ
bytes_told text room = with_parts room [] (parts_from 0 text)
