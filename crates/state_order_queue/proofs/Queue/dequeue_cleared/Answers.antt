use Rattle.state_order_queue.proofs.Records.{dequeued-cleared}
use Rattle.state_order_queue.proofs.Queue.dequeue_cleared.Goals as goal

pub returns : goal.returns
returns c = dequeued-cleared c.args.self c.requires.0 c.args.next c.requires.1
