use Rattle.sheet.specs.Sheet.{parts_of}
use Rattle.decimals.specs.Stored.{Puts}
use Rattle.row_writer.proofs.Measured.{row_from, texts}
use Rattle.row_writer.proofs.sheet_text.put.Given as goal

abbrev pub invariant-loop-i : goal.invariant-loop-i
invariant-loop-i l = Puts l.initial.res l.at (texts (row_from (parts_of l.source.sheet.bytes.now) l.source.node l.source.first) l.i) l.res l.next
