use mathlib.Core.Path.{◌≡◌}
use Rattle.sheet.specs.Records.{first_link}
use Rattle.reversed_machine.specs.ReverseWords.{links_reversed}
use Rattle.reversed_machine.proofs.reverse.Layout.reverse_links.Given as goal

abbrev pub invariant-loop-node : goal.invariant-loop-node
invariant-loop-node l =
    let at = l.self in
    let s = l.sheet in
    record {
      before : l.first ≡ first_link s.bytes.now s.links l.node;
      as_all : links_reversed s.bytes.now at.heads at.chains s.links l.node l.part ≡ links_reversed s.bytes.now at.heads at.chains s.links s.nodes l.initial.part;
    }
