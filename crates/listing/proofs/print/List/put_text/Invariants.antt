use mathlib.Core.Path.{◌≡◌}
use mathlib.Core.List.{◌++◌}
use Prim.Native.Nat.{◌+◌, ◌*◌, ◌≤◌}
use lib.ListN.{length, take}
use Rattle.sheet.specs.Machine.{machine}
use Rattle.listing.specs.Text.{first_line}
use Rattle.listing.specs.Printed.{line_most, list_for, reading_lines}
use Rattle.listing.proofs.print.List.put_text.Given as goal

abbrev pub invariant-loop-k : goal.invariant-loop-k
invariant-loop-k l =
    let m = machine l.self.sheet.now in
    let list = list_for m l.self.n in
    record {
      text : l.page ≡ first_line (length list) l.self.made.taken ++ reading_lines m 1 (take l.k list);
      bound : length l.page ≤ 37 + line_most * l.k;
    }
