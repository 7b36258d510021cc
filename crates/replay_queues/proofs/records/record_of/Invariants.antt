use Rattle.std.proofs.Common.{◌≡◌, length, drop, replicate, false}
use Rattle.tropical_weight.specs.Limits.{node_limit}
use Rattle.replay_queues.specs.Records.{flagged, fields}
use Rattle.replay_queues.proofs.records.record_of.Given as goal

abbrev pub invariant-loop-node : goal.invariant-loop-node
invariant-loop-node l = record {
  told : flagged l.flags (fields l.node-iterator.rest.now) ≡ flagged (replicate node_limit false) (fields (drop 12 l.words));
  size : l.node-iterator.size ≡ 4;
  count : length l.flags ≡ node_limit;
}
