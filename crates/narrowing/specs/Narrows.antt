-- Whether a machine narrows to a node: refusal 13. Definitions only.
use Rattle.std.specs.Prelude.{Bool, true, false, not, ◌&&◌, cond, ℕ, leb, ltb, length}
use Rattle.std.proofs.Math.Option.{Option, none, some}
use Rattle.tropical_weight.specs.Tropical.{Tropical}
use Rattle.sheet.specs.Below.{all_below}
use Rattle.sheet.specs.Machine.{Machine}
use Rattle.machine.specs.Readings.{link, final}

-- the start is present, and not above c
abbrev pub starts_by : ℕ → Option ℕ → Bool
starts_by c none = false
starts_by c (some s) = leb s c

-- a node has mark 0
abbrev pub unmarked : Option Tropical → Bool
unmarked none = true
unmarked (some w) = false

-- no node below c has mark 1
unfoldable pub unmarked_below : ℕ → Machine → Bool
unfolding all_below
unmarked_below c m = all_below c (λ v. unmarked (final m v))

-- no link leads from below c to above it, whether it is barred, or its source reached, or not
unfoldable pub none_past : ℕ → Machine → Bool
unfolding all_below
none_past c m = all_below (length m.links) (λ l. not (ltb (link m l).source c && ltb c (link m l).next))

-- c is a node, and none of these is amiss
unfoldable pub narrows : ℕ → Machine → Bool
unfolding unmarked_below none_past
narrows c m = ltb c (length m.finals) && starts_by c m.start && unmarked_below c m && none_past c m

-- 13 where it does not, else 0
abbrev pub narrow_number : ℕ → Machine → ℕ
narrow_number c m = cond (narrows c m) 0 13
