use mathlib.Core.Path.{◌≡◌}
use Prim.Native.Nat.{◌+◌}
use Rattle.machine.specs.Finals.{final_count}
use Rattle.reversed_machine.specs.ReverseWords.{finals_reversed}
use Rattle.reversed_machine.proofs.reverse.Layout.reverse_finals.Given as goal

abbrev pub invariant-loop-v : goal.invariant-loop-v
invariant-loop-v l =
    let at = l.self in
    let s = l.sheet in
    record {
      number : l.k ≡ s.links + final_count s.bytes.now s.links l.v;
      as_all : finals_reversed s.bytes.now at.heads at.chains s.links l.v l.part ≡ finals_reversed s.bytes.now at.heads at.chains s.links s.nodes l.initial.part;
    }
