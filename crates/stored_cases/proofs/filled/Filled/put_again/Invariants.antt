use Rattle.std.proofs.Common.{◌≡◌, ◌+◌, ◌-◌, length}
use Rattle.stored_cases.specs.Parts.{again}
use Rattle.stored_cases.specs.Filled.{filled}
use Rattle.stored_cases.proofs.filled.Filled.put_again.Given as goal

abbrev pub invariant-loop-turn : goal.invariant-loop-turn
invariant-loop-turn l = record {
  told : again l.back (l.more - l.turn) (filled l.self) ≡ again l.back l.more (filled l.fn.self);
  count : l.self.count ≡ l.fn.self.count + l.turn;
  room : length l.self.area.now ≡ length l.fn.self.area.now;
  same : l.self.area.ghost_name ≡ l.fn.self.area.ghost_name;
}
