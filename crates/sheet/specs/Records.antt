-- The records that the code reads, by the fields that they hold. Definitions only.
use Rattle.std.specs.Prelude.{ℕ, ◌+◌, ◌*◌, List}
use Rattle.std.specs.Float.{binary32}
use Rattle.std.specs.Float.Ieee.{of_bits}
use Rattle.sheet.specs.declared.tr.Link.{Link}
use Rattle.sheet.specs.declared.tr.Node.{Node}
use Rattle.sheet.specs.declared.tr.Trailer.{Trailer}
use Rattle.sheet.specs.Below.{sum_below}
use Rattle.sheet.specs.Words.{word_length, word}
use Rattle.sheet.specs.Sheet.{link_length, node_length, form_of, trailer_field}

-- link number l of a sheet
abbrev pub link_at : List ℕ → ℕ → Link
link_at bytes l = record {
  ilabel = word bytes (link_length * l);
  olabel = word bytes (link_length * l + word_length);
  weight = of_bits binary32 (word bytes (link_length * l + 2 * word_length));
  nextstate = word bytes (link_length * l + 3 * word_length);
}

-- node number v of a sheet with so many links
abbrev pub node_at : List ℕ → ℕ → ℕ → Node
node_at bytes links v = record {
  links = word bytes (link_length * links + node_length * v);
  mark = word bytes (link_length * links + node_length * v + word_length);
  weight = of_bits binary32 (word bytes (link_length * links + node_length * v + 2 * word_length));
}

-- its link count, its mark, and its final weight's field
abbrev pub count_at : List ℕ → ℕ → ℕ → ℕ
count_at bytes links v = word bytes (link_length * links + node_length * v)

abbrev pub mark_at : List ℕ → ℕ → ℕ → ℕ
mark_at bytes links v = word bytes (link_length * links + node_length * v + word_length)

abbrev pub final_at : List ℕ → ℕ → ℕ → ℕ
final_at bytes links v = word bytes (link_length * links + node_length * v + 2 * word_length)

-- the number of its first link
abbrev pub first_link : List ℕ → ℕ → ℕ → ℕ
first_link bytes links v = sum_below v (count_at bytes links)

-- the trailer of a sheet
abbrev pub trailer_at : List ℕ → Trailer
trailer_at bytes = record {
  link_offset = trailer_field bytes 0;
  node_offset = trailer_field bytes 1;
  nodes = trailer_field bytes 2;
  links = trailer_field bytes 3;
  start = trailer_field bytes 4;
  form = form_of bytes;
}
