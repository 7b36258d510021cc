use mathlib.Core.Path.{◌≡◌}
use Prim.Native.Nat.{◌+◌, ◌*◌, ◌≤◌}
use lib.ListN.{length}
use Rattle.sheet.specs.Sheet.{parts_of}
use Rattle.text_rows.specs.Written.{final_row}
use Rattle.row_writer.specs.Room.{row_most}
use Rattle.row_writer.proofs.Measured.{row_from, texts}
use Rattle.row_writer.proofs.sheet_text.length_of.Given as goal

abbrev pub invariant-loop-i : goal.invariant-loop-i
invariant-loop-i l =
    let p = parts_of l.source.sheet.bytes.now in
    record {
      value : l.size ≡ length (texts (row_from p l.source.node l.source.first) l.i) + length (final_row p l.source.node);
      most : l.size ≤ row_most * l.i + row_most;
    }
