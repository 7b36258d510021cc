use mathlib.Core.Path.{sym, subst}
use Rattle.single_path.specs.SingleWords.{Back}
use Rattle.single_path.proofs.WayTurns.{back_is}
use Rattle.single_path.proofs.single.Way.parent.Goals as goal

pub returns : goal.returns
returns c =
    let self = c.args.self.now in
    let bytes = self.machine.sheet.bytes.now in
    subst (Back bytes self.work.now c.args.v) (sym c.parent_at.ensures) (back_is bytes self.work.now self.end self.traced c.args.v c.requires)
