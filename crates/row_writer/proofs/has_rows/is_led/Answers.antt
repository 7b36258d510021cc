use mathlib.Core.Path.{◌≡◌, refl, sym, ap, ◌∙◌}
use mathlib.Core.Bool.{not}
use Prim.Native.Nat.{ℕ}
use native.Mathlib.Omega.{arith}
use lib.Dec.{eqb}
use borrow.Author.Tests.{eq-eqb, ne_eqb}
use Rattle.sheet.specs.Below.{all_below}
use Rattle.sheet.specs.Sheet.{link_count, next, parts_of}
use Rattle.sheet.proofs.Below.{all_below-more, all_below-fails}
use Rattle.text_rows.specs.Written.{is_led}
use Rattle.row_writer.proofs.Accepted.{links-are}
use Rattle.row_writer.proofs.has_rows.is_led.Goals as goal

pub loop-l-init : goal.loop-l-init
unfolding all_below
loop-l-init c = refl

pub returns-then-next-v : goal.returns-then-next-v
unfolding is_led
returns-then-next-v c =
    let p = parts_of c.args.sheet.now.bytes.now in
    let v = c.args.v in
    let l = c.loop-l.l in
    sym (ap not (all_below-fails (link_count p) (λ k. not (eqb (next p k) v)) l (omega (arith, links-are c.args.sheet.now)) (ap not (eq-eqb (next p l) v (sym c.next.ensures.part ∙ c.if-next-v.true)))))

pub loop-l-preserved : goal.loop-l-preserved
loop-l-preserved c =
    let p = parts_of c.args.sheet.now.bytes.now in
    let v = c.args.v in
    let l = c.loop-l.l in
    all_below-more l (λ k. not (eqb (next p k) v)) c.loop-l.invariant (ap not (ne_eqb (next p l) v (λ e. c.if-next-v.false (c.next.ensures.part ∙ e))))

pub returns : goal.returns
unfolding is_led
returns c =
    let p = parts_of c.args.sheet.now.bytes.now in
    let all : c.loop-l.l ≡ link_count p = omega (arith, links-are c.args.sheet.now) in
    sym (ap not (ap (λ (k : ℕ). all_below k (λ l. not (eqb (next p l) c.args.v))) (sym all) ∙ c.loop-l.invariant))
