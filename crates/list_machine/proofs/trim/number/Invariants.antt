use mathlib.Core.Path.{◌≡◌}
use Prim.Native.Nat.{◌-◌}
use Rattle.list_machine.specs.TrimWords.{mark_count, numbered}
use Rattle.list_machine.proofs.trim.number.Given as goal

abbrev pub invariant-loop-i : goal.invariant-loop-i
invariant-loop-i l = record {
  counted : l.count ≡ mark_count l.initial.part (l.i - 1);
  so_far : l.part ≡ numbered (l.i - 1) l.initial.part;
}
