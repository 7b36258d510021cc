use mathlib.Core.Path.{◌≡◌}
use Prim.Native.Nat.{◌^◌, ◌≤◌}
use lib.ListN.{drop}
use Rattle.decimals.specs.Decimal.{digits_onto, digits_of}
use Rattle.decimals.specs.Held.{digits_held}
use Rattle.decimals.proofs.read.digits_in.Given as goal

abbrev pub invariant-loop-c : goal.invariant-loop-c
invariant-loop-c l = record {
  held : l.value ≤ 2 ^ 32;
  rest : digits_held (digits_onto l.value (drop l.c-index l.field)) ≡ digits_held (digits_of l.field);
}
