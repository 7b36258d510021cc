-- Texts in a byte area: no text changes nothing. Assumes nothing.
use mathlib.Core.Path.{refl, sym}
use mathlib.Core.List.{List, []}
use Prim.Native.Nat.{ℕ}
use native.Mathlib.Nat.{add-zero}
use Rattle.decimals.specs.Stored.{Puts}

pub puts_none : (old : List ℕ) (at : ℕ) → Puts old at [] old at
puts_none old at = record { stored = refl; ends = sym (add-zero at) }
