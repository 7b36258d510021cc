use Rattle.std.proofs.Common.{◌≡◌, length}
use Rattle.stored_cases.specs.Parts.{with_parts, parts_from}
use Rattle.stored_cases.specs.Filled.{filled}
use Rattle.stored_cases.proofs.filled.Filled.put_text.Given as goal

abbrev pub invariant-loop-part : goal.invariant-loop-part
invariant-loop-part l =
    let put = with_parts (length l.fn.self.area.now) in record {
      told : put (filled l.self) (parts_from 0 l.rest) ≡ put (filled l.fn.self) (parts_from 0 l.text);
      room : length l.self.area.now ≡ length l.fn.self.area.now;
      same : l.self.area.ghost_name ≡ l.fn.self.area.ghost_name;
    }

abbrev pub decreases-loop-part : goal.decreases-loop-part
decreases-loop-part l = length l.rest
