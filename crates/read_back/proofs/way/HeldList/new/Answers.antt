use mathlib.Core.Path.{sym}
use native.Mathlib.Omega.{arith}
use Rattle.read_back.proofs.Answering.{list-short, list-more, list-is, count-large, count_none, count-some}
use Rattle.read_back.proofs.way.HeldList.new.Goals as goal

pub returns-then-n-gt-LIST_LIMIT-clause-number : goal.returns-then-n-gt-LIST_LIMIT-clause-number
returns-then-n-gt-LIST_LIMIT-clause-number c = sym (count-large c.args.form c.args.res.now c.args.n c.args.nodes c.args.links c.if-n-gt-LIST_LIMIT.true)

pub returns-then-res-count-clause-number : goal.returns-then-res-count-clause-number
returns-then-res-count-clause-number c = let a = c.args in sym (count_none a.form a.res.now a.n a.nodes a.links c.if-n-gt-LIST_LIMIT.false (list-short a.form a.res.now a.n a.nodes a.links (omega (arith, c.trailer.ensures))))

pub returns-then-n-count-clause-number : goal.returns-then-n-count-clause-number
returns-then-n-count-clause-number c = let a = c.args in sym (count_none a.form a.res.now a.n a.nodes a.links c.if-n-gt-LIST_LIMIT.false (list-more a.form a.res.now a.n a.nodes a.links (omega (arith, c.trailer.ensures)) (omega (arith, c.count.ensures))))

pub returns-clause-number : goal.returns-clause-number
returns-clause-number c = let a = c.args in sym (count-some a.form a.res.now a.n a.nodes a.links c.if-n-gt-LIST_LIMIT.false (list-is a.form a.res.now a.n a.nodes a.links (omega (arith, c.trailer.ensures)) (omega (arith, c.count.ensures))))
