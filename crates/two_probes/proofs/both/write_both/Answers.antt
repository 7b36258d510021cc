use mathlib.Core.Path.{◌≡◌, sym, subst}
use mathlib.Core.List.{List}
use Prim.Native.Nat.{ℕ, ◌*◌, ◌<◌}
use native.Mathlib.Nat.{mul-le-mul}
use native.Mathlib.Omega.{arith}
use lib.ListN.{length, length-take}
use Rattle.tropical_weight.specs.Limits.{link_limit}
use Rattle.sheet.specs.declared.refusal.Refusal.{Refusal}
use Rattle.sheet.specs.Machine.{machine}
use Rattle.machine.specs.declared.climbing.Machine.{Machine}
use Rattle.machine.proofs.Machines.{machine-fields}
use Rattle.sorted_keys.specs.Sorted.{Rising}
use Rattle.product.specs.Product.{nodes, pairs}
use Rattle.product.proofs.Numbers.{number-nodes, number-links}
use Rattle.link_pairs.specs.Found.{PairsFound}
use Rattle.two_probes.proofs.Kept.{second-passes, pairs-rise}
use Rattle.two_probes.proofs.Outcomes.{number-product, refused-answer, refused-over}
use Rattle.two_probes.proofs.both.write_both.Goals as goal

many-nodes : (m n : Machine) → nodes (machine m.sheet.bytes.now) * nodes (machine n.sheet.bytes.now) ≡ m.sheet.nodes * n.sheet.nodes
many-nodes m n = λ i. (machine-fields m).nodes-are i * (machine-fields n).nodes-are i

pub overflow_mul-nodes : goal.overflow_mul-nodes
overflow_mul-nodes c =
    let few = mul-le-mul (machine-fields c.args.first.now).few-nodes (machine-fields c.args.second.now).few-nodes in
    omega (arith, few)

pub returns-then-nodes-gt-NODE_LIMIT : goal.returns-then-nodes-gt-NODE_LIMIT
returns-then-nodes-gt-NODE_LIMIT c =
    let m = c.args.first.now in
    let n = c.args.second.now in
    let first = m.sheet.bytes.now in
    let second = n.sheet.bytes.now in
    let old = c.args.res.now in
    let k = number-product first second (length old) m.climbs (second-passes m n c.requires.units) Refusal.Product (number-nodes (machine first) (machine second) c.requires.labels (omega (arith, many-nodes m n, c.if-nodes-gt-NODE_LIMIT.true))) in
    record { value = refused-answer first second old Refusal.Product k; res_after = refused-over first second old Refusal.Product k }

pub returns-in_default : goal.returns-in_default
returns-in_default c =
    let m = c.args.first.now in
    let n = c.args.second.now in
    let first = m.sheet.bytes.now in
    let second = n.sheet.bytes.now in
    let old = c.args.res.now in
    let many : link_limit < length (pairs (machine first) (machine second)) = (subst (PairsFound (machine first) (machine second) c.find_pairs.new.pairs) c.in_default.is c.find_pairs.ensures).placed in
    let k = number-product first second (length old) m.climbs (second-passes m n c.requires.units) Refusal.Product (number-links (machine first) (machine second) c.requires.labels (omega (arith, many-nodes m n, c.if-nodes-gt-NODE_LIMIT.false)) many) in
    record { value = refused-answer first second old Refusal.Product k; res_after = refused-over first second old Refusal.Product k }

pub invariant_of-found : goal.invariant_of-found
invariant_of-found c =
    let m = c.args.first.now in
    let n = c.args.second.now in
    let a = machine m.sheet.bytes.now in
    let b = machine n.sheet.bytes.now in
    let found = (subst (PairsFound a b c.find_pairs.new.pairs) c.in-Some.is c.find_pairs.ensures).placed in
    record { rising = subst (λ (l : List ℕ). Rising (length l) l) (sym found.2) (pairs-rise m n) }

pub invariant_of-both : goal.invariant_of-both
invariant_of-both c =
    let m = c.args.first.now in
    let n = c.args.second.now in
    let a = machine m.sheet.bytes.now in
    let b = machine n.sheet.bytes.now in
    let found = (subst (PairsFound a b c.find_pairs.new.pairs) c.in-Some.is c.find_pairs.ensures).placed in
    record {
      one_unit = c.requires.units;
      labels = c.requires.labels;
      few_nodes = omega (arith, c.if-nodes-gt-NODE_LIMIT.false);
      few_links = omega (arith, found.0, length-take c.in-Some.count c.find_pairs.new.pairs);
      found = found.2;
    }
