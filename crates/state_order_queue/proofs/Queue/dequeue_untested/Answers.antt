use mathlib.Core.Path.{◌∙◌}
use Rattle.state_order_queue.proofs.Records.{front-bound, filled-bound, valid-ends, cleared-dequeued}
use Rattle.state_order_queue.proofs.Queue.dequeue_untested.Goals as goal

-- its front is a node
pub bounds-queue-front : goal.bounds-queue-front
bounds-queue-front c = let q = c.args.self in front-bound q.front q.back (valid-ends q c.requires.0) c.requires.1

pub next_front-next-requires : goal.next_front-next-requires
next_front-next-requires c = let q = c.args.self in filled-bound q.front _ q.back c.in-Some.is (valid-ends q c.requires.0) c.requires.1

pub returns : goal.returns
returns c = c.dequeue_cleared.ensures ∙ cleared-dequeued c.args.self c.requires.1
