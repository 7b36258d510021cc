use mathlib.Core.Path.{◌∙◌}
use Rattle.state_order_queue.proofs.Records.{flagged-enqueued}
use Rattle.state_order_queue.proofs.Queue.enqueue_untested.Goals as goal

pub returns : goal.returns
returns c = c.enqueue_flagged.ensures ∙ flagged-enqueued c.args.self c.args.state
