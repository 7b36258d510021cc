use Rattle.std.proofs.Common.{◌≡◌, ◌+◌, ◌-◌, ◌*◌, length}
use Rattle.stored_cases.specs.Parts.{raised_again}
use Rattle.stored_cases.specs.Filled.{filled}
use Rattle.stored_cases.proofs.filled.Filled.put_raised.Given as goal

abbrev pub invariant-loop-turn : goal.invariant-loop-turn
invariant-loop-turn l = record {
  told : raised_again l.back (l.times - l.turn) (filled l.self) ≡ raised_again l.back l.times (filled l.fn.self);
  count : l.self.count ≡ l.fn.self.count + l.turn * l.back;
  room : length l.self.area.now ≡ length l.fn.self.area.now;
  same : l.self.area.ghost_name ≡ l.fn.self.area.ghost_name;
}
