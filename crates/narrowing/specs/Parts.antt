-- The two parts of a machine at a node, in the words of request (g). Definitions only.
use Rattle.std.specs.Prelude.{Bool, ℕ, ◌-◌, List, [], ◌∷◌, ◌++◌, map, take, drop, leb, ltb, length}
use Rattle.std.proofs.Math.Option.{some}
use Rattle.tropical_weight.specs.Tropical.{one}
use Rattle.sheet.specs.Below.{list_below}
use Rattle.sheet.specs.Machine.{Link, Machine}
use Rattle.machine.specs.Readings.{link, keep}

-- a link leaves a node below c, or c or one above it
abbrev pub is_before : ℕ → Link → Bool
is_before c k = ltb k.source c

abbrev pub is_after : ℕ → Link → Bool
is_after c k = leb c k.source

-- nodes up to c, with c final at weight 0 and its links removed; in the machine's form, as the other part
unfoldable pub preheat : ℕ → Machine → Machine
unfolding keep
preheat c m = record { links = keep (is_before c) m.links; finals = take c m.finals ++ (some one ∷ []); start = m.start; form = m.form }

-- a link whose nodes count from c
abbrev pub from_node : ℕ → Link → Link
from_node c k = record { source = k.source - c; ilabel = k.ilabel; olabel = k.olabel; weight = k.weight; next = k.next - c }

-- nodes from c, starting there
unfoldable pub bake : ℕ → Machine → Machine
unfolding keep
bake c m = record { links = map (from_node c) (keep (is_after c) m.links); finals = drop c m.finals; start = some 0; form = m.form }

-- the numbers that those links have in the whole machine
unfoldable pub numbers : (Link → Bool) → Machine → List ℕ
unfolding keep list_below
numbers p m = keep (λ l. p (link m l)) (list_below (length m.links) (λ l. l))
