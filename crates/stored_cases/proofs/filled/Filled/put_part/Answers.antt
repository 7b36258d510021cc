use Rattle.std.proofs.Common.{◌≡◌, ◌≤◌, ◌+◌, ◌*◌, ◌/◌, length, rules, arith}
use Rattle.stored_cases.proofs.Filling.{count-raised_again}
use Rattle.stored_cases.proofs.filled.Filled.put_part.Goals as goal

pub put_again-requires-then-can_again-2 : goal.put_again-requires-then-can_again-2
put_again-requires-then-can_again-2 c =
    let s = c.args.self.now in
    let n = c.put_raised.new.self in
    let back = c.in-Raised.back in
    let more = c.in-Raised.more in
    let count : n.count ≡ s.count + more / back * back = count-raised_again s n back (more / back) c.put_raised.ensures in
    let fits : (4 ≤ back) × (back ≤ s.count) × (s.count + more ≤ length s.area.now) = search rules in
    let before : back * (more / back + 1) ≡ more / back * back + back = grind arith in
    (omega (arith, before), omega (arith, c.put_raised.ensures.room))
