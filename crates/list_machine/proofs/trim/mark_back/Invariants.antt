use mathlib.Core.Path.{◌≡◌}
use Prim.Native.Nat.{ℕ, ◌+◌, ◌-◌, ◌*◌, ◌≤◌, ◌<◌}
use lib.ListN.{length}
use Rattle.search_slots.specs.Slots.{from_word}
use Rattle.list_machine.specs.TrimWords.{mark_back}
use Rattle.slots.specs.Slots.{slot_length}
use Rattle.list_machine.proofs.trim.mark_back.Given as goal

abbrev pub invariant-loop-i : goal.invariant-loop-i
invariant-loop-i l = record {
  inside : (j : ℕ) → 0 < j → j < l.entries → slot_length * from_word l.part j + 8 ≤ length l.initial.part;
  as_all : mark_back (l.i - 1) l.part ≡ mark_back (l.entries - 1) l.initial.part;
}
