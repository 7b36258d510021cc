use mathlib.Core.Path.{◌≡◌}
use Prim.Native.Nat.{◌+◌, ◌*◌, ◌≤◌}
use lib.ListN.{length}
use Rattle.sheet.specs.Below.{sum_below}
use Rattle.sheet.specs.Sheet.{parts_of}
use Rattle.text_rows.specs.Written.{node_rows}
use Rattle.row_writer.specs.Room.{row_most}
use Rattle.row_writer.proofs.sheet_text.text_length.Given as goal

abbrev pub invariant-loop-source : goal.invariant-loop-source
invariant-loop-source l =
    let it = l.source-iterator in
    record {
      same : it.sheet ≡ l.sheet;
      value : l.size ≡ sum_below it.node (λ u. length (node_rows (parts_of l.sheet.bytes.now) u));
      most : l.size ≤ row_most * it.first + row_most * it.node;
    }
