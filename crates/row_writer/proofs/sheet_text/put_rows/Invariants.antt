use mathlib.Core.Path.{◌≡◌}
use Rattle.sheet.specs.Sheet.{parts_of}
use Rattle.decimals.specs.Stored.{Puts}
use Rattle.row_writer.specs.OtherRows.{other_rows}
use Rattle.row_writer.proofs.Measured.{texts}
use Rattle.row_writer.proofs.sheet_text.put_rows.Given as goal

abbrev pub invariant-loop-source : goal.invariant-loop-source
invariant-loop-source l =
    let it = l.source-iterator in
    record {
      same : it.sheet ≡ l.sheet;
      puts : Puts l.initial.res l.initial.next (texts (other_rows (parts_of l.sheet.bytes.now)) it.node) l.res l.next;
    }
