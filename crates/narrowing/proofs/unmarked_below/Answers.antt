use mathlib.Core.Path.{◌≡◌, refl, sym, ap, ◌∙◌}
use mathlib.Core.Bool.{Bool, not}
use Prim.Native.Nat.{ℕ, ◌<◌}
use native.Mathlib.Omega.{arith}
use Rattle.std.specs.Prelude.{Option, None, Some}
use Rattle.std.specs.Option.{is_some}
use Rattle.sheet.specs.Below.{all_below}
use Rattle.sheet.specs.Sheet.{parts_of}
use Rattle.sheet.specs.Accepted.{ending}
use Rattle.sheet.specs.Machine.{machine}
use Rattle.sheet.proofs.Below.{all_below-more, all_below-fails}
use Rattle.machine.specs.declared.climbing.Machine.{Machine}
use Rattle.machine.proofs.Values.{ending-none, ending-some}
use Rattle.narrowing.specs.Narrows.{unmarked, unmarked_below}
use Rattle.narrowing.proofs.unmarked_below.Invariants.{plain}
use Rattle.narrowing.proofs.unmarked_below.Goals as goal

-- a node has mark 0 where the sheet gives it no final weight
plain-at : (m : Machine) (v : ℕ) → v < m.sheet.nodes → plain (machine m.sheet.bytes.now) v ≡ not (is_some (ending (parts_of m.sheet.bytes.now) v))
plain-at m v h = go (ending (parts_of m.sheet.bytes.now) v) refl
  where
    go : (o : Option ℕ) → ending (parts_of m.sheet.bytes.now) v ≡ o → plain (machine m.sheet.bytes.now) v ≡ not (is_some o)
    go None e = ap unmarked (ending-none m v h e)
    go (Some k) e = ap unmarked (ending-some m v k h e).1

-- by what is asked of it
plain-told : (m : Machine) (v : ℕ) → v < m.sheet.nodes → (given : Option ℕ) (some : Bool) → given ≡ ending (parts_of m.sheet.bytes.now) v → some ≡ is_some given → plain (machine m.sheet.bytes.now) v ≡ not some
plain-told m v h given some e f = plain-at m v h ∙ sym (ap (λ (b : Bool). not b) (f ∙ ap is_some e))

pub loop-v-init : goal.loop-v-init
unfolding all_below
loop-v-init c = refl

pub returns-then-is_some : goal.returns-then-is_some
unfolding unmarked_below
returns-then-is_some c =
    let m = c.args.machine.now in
    let v = c.loop-v.v in
    let told = plain-told m v (omega (arith, c.requires, c.loop-v-test.true)) _ c.is_some.result c.final_bits.ensures.part c.is_some.ensures in
    sym (all_below-fails c.args.c (plain (machine m.sheet.bytes.now)) v c.loop-v-test.true (told ∙ ap (λ (b : Bool). not b) c.if-is_some.true))

pub loop-v-preserved : goal.loop-v-preserved
loop-v-preserved c =
    let m = c.args.machine.now in
    let v = c.loop-v.v in
    let told = plain-told m v (omega (arith, c.requires, c.loop-v-test.true)) _ c.is_some.result c.final_bits.ensures.part c.is_some.ensures in
    all_below-more v (plain (machine m.sheet.bytes.now)) c.loop-v.invariant (told ∙ ap (λ (b : Bool). not b) c.if-is_some.false)

pub returns : goal.returns
unfolding unmarked_below
returns c =
    let m = machine c.args.machine.now.sheet.bytes.now in
    let all : c.loop-v.v ≡ c.args.c = omega (arith, c.requires) in
    sym c.loop-v.invariant ∙ ap (λ (n : ℕ). all_below n (plain m)) all
