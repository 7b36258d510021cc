use mathlib.Core.Path.{sym, ap, ◌∙◌}
use mathlib.Core.Option.{some}
use Prim.Native.Nat.{ℕ, ◌+◌}
use native.Mathlib.Omega.{arith}
use Rattle.sheet.specs.Machine.{machine}
use Rattle.read_back.proofs.Follow.{leaves-here, on-by, goes-here, goes_none, goes-barred, goes-off, goes-on}
use Rattle.read_back.proofs.walk.Walk.goes_on.Goals as goal

pub returns-then-l-self : goal.returns-then-l-self
returns-then-l-self c =
    let w = c.args.self.now in
    goes-off (machine w.at.sheet.bytes.now) w.at.node w.count c.in-Some.l _ c.in-Some.is (goes_none w c.in-Some.l (λ a b. omega (arith, a, c.if-l-self.true)))

pub returns-then-self-count : goal.returns-then-self-count
returns-then-self-count c =
    let w = c.args.self.now in
    goes-off (machine w.at.sheet.bytes.now) w.at.node w.count c.in-Some.l _ c.in-Some.is (goes_none w c.in-Some.l (λ a b. omega (arith, b, c.count.ensures.word, c.if-self-count.true)))

pub returns-then-link_bits-eq-BARRED : goal.returns-then-link_bits-eq-BARRED
returns-then-link_bits-eq-BARRED c =
    let w = c.args.self.now in
    goes-off (machine w.at.sheet.bytes.now) w.at.node w.count c.in-Some.l _ c.in-Some.is
    (goes-barred w c.in-Some.l c.if-l-self.false (omega (arith, c.count.ensures.word, c.if-self-count.false)) (sym c.link_bits.ensures.word ∙ c.if-link_bits-eq-BARRED.true))

pub moved-requires : goal.moved-requires
moved-requires c =
    let w = c.args.self.now in
    let on = on-by w c.in-Some.l (leaves-here w c.in-Some.l c.if-l-self.false (omega (arith, c.count.ensures.word, c.if-self-count.false))) in
    let next = c.next.ensures.word ∙ on.next-is in
    (omega (arith, next, on.rises), omega (arith, next, on.inside), omega (arith, next, on.rises, w.few))

pub returns : goal.returns
returns c =
    let w = c.args.self.now in
    let on = on-by w c.in-Some.l (leaves-here w c.in-Some.l c.if-l-self.false (omega (arith, c.count.ensures.word, c.if-self-count.false))) in (
      c.moved.ensures.0,
      goes-on (machine w.at.sheet.bytes.now) w.at.node w.count c.in-Some.l _ c.in-Some.is
          (goes-here w c.in-Some.l c.if-l-self.false (omega (arith, c.count.ensures.word, c.if-self-count.false)) (λ z. c.if-link_bits-eq-BARRED.false (c.link_bits.ensures.word ∙ z)))
          ∙ ap (λ (v : ℕ). some (w.count + 1, v)) (sym (c.next.ensures.word ∙ on.next-is)) ∙ c.moved.ensures.1,
    )
