use mathlib.Core.Path.{◌≡◌}
use Rattle.std.proofs.Common.{None, rules}
use Rattle.sheet.specs.Machine.{machine}
use Rattle.read_back.specs.Walks.{way_to}
use Rattle.read_back.proofs.Holding.{none-held, starts-there, starts-not, walked-by}
use Rattle.read_back.proofs.reading.walked.Goals as goal

pub returns-in_err-start : goal.returns-in_err-start
returns-in_err-start c =
    let m = c.args.machine.now in
    let none : c.from_residual.result ≡ None = search rules in
    rw none (none-held (machine m.sheet.bytes.now) (starts-not m c.in_err-start.ensures.value) (way_to c.args.list.now c.args.k))

pub returns : goal.returns
returns c =
    let m = c.args.machine.now in
    let s = c.in_ok-start.start in
    walked-by m.sheet.bytes.now s (starts-there m s c.in_ok-start.ensures.below) c.begin.result c.begin.ensures (way_to c.args.list.now c.args.k) c.walk.result c.walk.ensures
