use mathlib.Core.Path.{◌≡◌, refl, sym, ap, ◌∙◌}
use Prim.Native.Nat.{ℕ, ◌+◌}
use native.Mathlib.Omega.{arith}
use native.Mathlib.Numerals.{add-one}
use Rattle.sheet.specs.Below.{sum_below}
use Rattle.sheet.specs.Records.{count_at, first_link}
use Rattle.sheet.proofs.NodeSources.{next-first}
use Rattle.machine.specs.declared.climbing.Machine.{Machine}
use Rattle.machine.proofs.Machines.{machine-fields}
use Rattle.machine.proofs.SheetFields.{first-in}
use Rattle.narrowing.proofs.links_before.Goals as goal

-- with the links of one node more
next : (m : Machine) (links count v : ℕ) → links ≡ first_link m.sheet.bytes.now m.sheet.links v → count ≡ count_at m.sheet.bytes.now m.sheet.links v → links + count ≡ first_link m.sheet.bytes.now m.sheet.links (v + 1)
next m links count v e h = (λ i. e i + h i) ∙ sym (ap (λ (n : ℕ). first_link m.sheet.bytes.now m.sheet.links n) (add-one v) ∙ next-first m.sheet.bytes.now m.sheet.links v)

pub loop-v-init : goal.loop-v-init
unfolding sum_below
loop-v-init c = refl

pub overflow_add-links : goal.overflow_add-links
overflow_add-links c =
    let m = c.args.machine.now in
    let f = machine-fields m in
    let upto = first-in f (c.loop-v.v + 1) (omega (arith, c.requires, c.loop-v-test.true)) in
    let sum = next m c.loop-v.links c.count-links.result c.loop-v.v c.loop-v.invariant c.count-links.ensures.word in
    omega (arith, sum, upto, f.few-links)

pub loop-v-preserved : goal.loop-v-preserved
loop-v-preserved c = next c.args.machine.now c.loop-v.links c.count-links.result c.loop-v.v c.loop-v.invariant c.count-links.ensures.word

pub returns-clause-within : goal.returns-clause-within
returns-clause-within c = omega (arith, c.loop-v.invariant, first-in (machine-fields c.args.machine.now) c.loop-v.v (omega (arith, c.requires)))
