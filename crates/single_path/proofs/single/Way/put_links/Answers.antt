use mathlib.Core.Path.{ap}
use Prim.Native.Nat.{◌+◌, ◌*◌}
use native.Mathlib.Omega.{arith}
use lib.ListN.{length}
use Rattle.sheet.specs.Sheet.{link_length}
use Rattle.list_answer.specs.ListAnswer.{link_to}
use Rattle.single_path.specs.SingleWords.{way_links}
use Rattle.single_path.proofs.WriteTurns.{stored-on, stored-all, links-on, links_end}
use Rattle.single_path.proofs.single.Way.put_links.Goals as goal

pub loop-parent-preserved : goal.loop-parent-preserved
loop-parent-preserved c =
    let turn = c.loop-parent in
    let p = c.in-Some.parent in
    let bytes = c.args.self.now.machine.sheet.bytes.now in
    let back = c.in-Some.ensures in record {
      fell = omega (arith, back.0, turn.invariant.fell);
      room = omega (arith, c.put_link.auto.res, ap length back.2, turn.invariant.room);
      as_all = stored-on turn.res _ _ _ (link_to bytes p.link turn.i) (way_links bytes (turn.i + 1) _) (link_length * turn.i) (link_length * (turn.i + 1)) (links-on bytes _ _ turn.i p.link back.2) (omega arith) c.put_link.ensures turn.invariant.as_all;
    }

pub returns : goal.returns
returns c =
    let turn = c.loop-parent in
    stored-all turn.res _ _ (link_length * turn.i) (links_end c.args.self.now.machine.sheet.bytes.now _ turn.i c.in_default.ensures) turn.invariant.as_all
