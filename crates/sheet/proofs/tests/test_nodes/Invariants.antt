use mathlib.Core.Path.{◌≡◌}
use Prim.Native.Nat.{◌+◌, ◌*◌, ◌≤◌}
use Rattle.tropical_weight.specs.Units.{places}
use Rattle.sheet.specs.Tests.{node_tests}
use Rattle.sheet.proofs.tests.test_nodes.Given as goal

abbrev pub invariant-loop-v : goal.invariant-loop-v
invariant-loop-v g l = (l.t ≡ node_tests (places l.fn.unit) l.v (λ v. g.F.Fields.value l.fields (3 * v)) (λ v. g.F.Fields.value l.fields (3 * v + 1)) (λ v. g.F.Fields.value l.fields (3 * v + 2))) × (l.t.links ≤ l.v * 4294967295)
