use mathlib.Core.Path.{◌≡◌, sym, ap, ◌∙◌}
use Prim.Native.Nat.{suc, ◌-◌}
use native.Mathlib.Omega.{arith}
use Rattle.row_reader.specs.FinalRows.{most, on, falling, with_new}
use Rattle.row_reader.proofs.FinalRows.{final-new, final-stays, final-less}
use Rattle.row_reader.proofs.finals.Pass.meet.Goals as goal

pub returns-then-self-lt-KEPT-clause-after : goal.returns-then-self-lt-KEPT-clause-after
returns-then-self-lt-KEPT-clause-after c =
    let a = c.args.self.now in
    c.keep.ensures.after ∙ sym (final-new a.first c.args.node a.kept a.count a.limit (omega arith) (omega arith) c.if-self-lt-KEPT.true)

pub returns-then-greatest-node-clause-after : goal.returns-then-greatest-node-clause-after
returns-then-greatest-node-clause-after c =
    let a = c.args.self.now in
    let full : a.count ≡ suc (most - 1) = omega arith in
    ap (on (falling a.kept (most - 1))) c.from-self.ensures
    ∙ sym (final-stays a.first c.args.node a.kept a.count a.limit (omega arith) (omega arith) full (omega arith) c.if-greatest-node.true)

pub returns-clause-after : goal.returns-clause-after
returns-clause-after c =
    let a = c.args.self.now in
    let full : a.count ≡ suc (most - 1) = omega arith in
    c.keep-2.ensures.after ∙ ap (with_new c.args.node (falling a.kept (most - 1))) c.from-self.ensures
    ∙ sym (final-less a.first c.args.node a.kept a.count a.limit (omega arith) (omega arith) full (omega arith) c.if-greatest-node.false)
