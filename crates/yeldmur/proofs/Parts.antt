-- The lists of two parts and of the whole, as the call for lists gives them. Assumes nothing.
use mathlib.Core.List.{List}
use Prim.Native.Nat.{ℕ}
use Rattle.preheat_bake.specs.declared.counts.Counts.{Counts}
use Rattle.preheat_bake.specs.Promise.{Parted}
use Rattle.yeldmur.specs.PartLists.{PartLists}

-- what the call for lists promises of each of its results has demand 3 in it
pub part-lists : (sheet : List ℕ) (c : ℕ) (counts : Counts) (area : List ℕ) → Parted sheet c counts area → PartLists sheet c counts area
part-lists sheet c counts area p n whole low high all below above of_whole of_first of_second = p.lists n _ _ _ of_whole.demand of_first.demand of_second.demand
