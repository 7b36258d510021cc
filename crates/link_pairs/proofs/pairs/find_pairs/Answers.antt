use mathlib.Core.Path.{◌≡◌, sym, subst}
use borrow.Author.Rules.{rules}
use native.Mathlib.Omega.{arith}
use Rattle.std.specs.Prelude.{None}
use Rattle.sheet.specs.Machine.{machine}
use Rattle.machine.proofs.Machines.{machine-fields}
use Rattle.link_pairs.specs.Found.{PairsFound}
use Rattle.link_pairs.proofs.Sorting.{too-many, all-sorted}
use Rattle.link_pairs.proofs.pairs.find_pairs.Goals as goal

pub put_pairs-requires : goal.put_pairs-requires
put_pairs-requires c = let g = machine-fields c.args.second.now in record { nodes_le_node_limit = (omega (arith, c.from.ensures, g.few-nodes), c.requires.areas.2) }

pub returns-in_err-count : goal.returns-in_err-count
returns-in_err-count c =
    let a = c.args in
    let none : c.from_residual.result ≡ None = search rules in
    subst (PairsFound (machine a.first.now.sheet.bytes.now) (machine a.second.now.sheet.bytes.now) c.put_pairs.new.pairs) (sym none)
    (too-many (machine-fields a.first.now) (machine-fields a.second.now) _ _ c.sorted_link_keys-firsts.ensures c.sorted_link_keys-seconds.ensures c.from.result c.from.ensures a.pairs.now c.put_pairs.new.pairs c.in_err-count.ensures)

pub returns : goal.returns
returns c =
    let a = c.args in
    all-sorted (machine-fields a.first.now) (machine-fields a.second.now) _ _ c.sorted_link_keys-firsts.ensures c.sorted_link_keys-seconds.ensures c.from.result c.from.ensures a.pairs.now c.put_pairs.new.pairs c.sort.new.keys c.in_ok-count.count c.requires.areas.2 c.in_ok-count.ensures c.sort.ensures
