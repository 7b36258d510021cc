use mathlib.Core.Path.{◌≡◌}
use Rattle.sheet.specs.Records.{count_at}
use Rattle.reversed_machine.specs.ReverseWords.{links_put}
use Rattle.reversed_machine.proofs.reverse.Layout.reverse_node.Given as goal

abbrev pub invariant-loop-i : goal.invariant-loop-i
invariant-loop-i l =
    let s = l.source in
    let bytes = s.sheet.bytes.now in
    links_put bytes l.self.heads l.self.chains s.node s.first l.i l.part ≡ links_put bytes l.self.heads l.self.chains s.node s.first (count_at bytes s.sheet.links s.node) l.initial.part
