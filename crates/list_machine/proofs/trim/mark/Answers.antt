use mathlib.Core.Path.{ap, ◌∙◌}
use Rattle.list_machine.specs.TrimWords.{mark_listed}
use Rattle.list_machine.proofs.Marks.{listed-ready, back-ready}
use Rattle.list_machine.proofs.trim.mark.Goals as goal

pub mark_listed-requires : goal.mark_listed-requires
mark_listed-requires c = listed-ready c.args.part.now c.args.entries c.args.listed c.requires c.clear_marks.new.part c.clear_marks.ensures

pub mark_back-requires : goal.mark_back-requires
mark_back-requires c =
    back-ready c.args.part.now c.args.entries c.args.listed c.requires c.mark_listed.new.part
    (c.mark_listed.ensures ∙ ap (mark_listed c.args.listed) c.clear_marks.ensures)
