use mathlib.Core.Path.{◌≡◌}
use Prim.Native.Nat.{◌+◌, ◌*◌}
use Rattle.tropical_weight.specs.Units.{places}
use Rattle.sheet.specs.Tests.{link_tests}
use Rattle.sheet.proofs.tests.test_links.Given as goal

abbrev pub invariant-loop-l : goal.invariant-loop-l
invariant-loop-l g l = l.t ≡ link_tests (places l.fn.unit) l.l l.nodes (λ k. g.F.Fields.value l.fields (4 * k + 2)) (λ k. g.F.Fields.value l.fields (4 * k + 3))
