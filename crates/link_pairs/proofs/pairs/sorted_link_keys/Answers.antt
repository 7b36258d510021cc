use mathlib.Core.Path.{◌≡◌, sym}
use mathlib.Core.List.{List}
use Prim.Native.Nat.{ℕ, ◌≤◌}
use native.Mathlib.Omega.{arith}
use lib.ListN.{length, take}
use lib.Seq.{length-take-le}
use Rattle.tropical_weight.specs.Limits.{link_limit}
use Rattle.machine.specs.declared.climbing.Machine.{Machine}
use Rattle.machine.proofs.Machines.{machine-fields}
use Rattle.link_pairs.proofs.Sorting.{keys-sorted}
use Rattle.link_pairs.proofs.pairs.sorted_link_keys.Goals as goal

-- the area has room for the keys of a machine's links
room : (m : Machine) (area : List ℕ) → link_limit ≤ length area → length (take m.sheet.links area) ≡ m.sheet.links
room m area h = let f = machine-fields m in length-take-le m.sheet.links area (omega (arith, f.few-links, h))

pub slice_bounds-keys-end : goal.slice_bounds-keys-end
slice_bounds-keys-end c = sym (room c.args.machine.now c.args.keys.now c.requires)

pub put_link_keys-requires : goal.put_link_keys-requires
put_link_keys-requires c = omega (arith, room c.args.machine.now c.args.keys.now c.requires)

pub returns : goal.returns
returns c =
    let m = c.args.machine.now in
    let area = c.args.keys.now in
    keys-sorted (machine-fields m) (take m.sheet.links area) c.put_link_keys.new.keys c.sort.new.keys (room m area c.requires) c.put_link_keys.ensures c.sort.ensures
