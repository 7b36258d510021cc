use borrow.Author.Rules.{rules}
use Rattle.sheet.specs.Words.{bytes_of_all}
use Rattle.list_machine.proofs.Placing.{nothings-next}
use Rattle.list_machine.proofs.trim.put_nothings.Goals as goal

pub loop-k-init : goal.loop-k-init
unfolding bytes_of_all
loop-k-init c = search rules

pub loop-k-preserved : goal.loop-k-preserved
loop-k-preserved c = nothings-next c.args.res.now c.loop-k.res c.put_word.new.bytes c.args.at c.loop-k.k c.loop-k.invariant c.put_word.ensures
