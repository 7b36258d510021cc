use mathlib.Core.Path.{◌≡◌}
use lib.Seq.{sets}
use Rattle.sheet.specs.Words.{bytes_of_all}
use Rattle.product.specs.Joins.{join_below}
use Rattle.two_probes.specs.Held.{allowed_by, unit_by, node_record}
use Rattle.two_probes.proofs.both.Both.put_nodes.Given as goal

abbrev pub invariant-loop-v : goal.invariant-loop-v
invariant-loop-v l = l.res ≡ sets l.fn.res l.at (bytes_of_all (join_below l.v (node_record (unit_by l.self) (allowed_by l.self))))
