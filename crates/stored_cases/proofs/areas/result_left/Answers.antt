use mathlib.Core.Path.{◌≡◌, sym, ap, ◌∙◌}
use native.Mathlib.Omega.{arith}
use borrow.Author.Count.{below_more}
use borrow.Author.Tests.{lt-ltb, le-ltb, leb-true}
use mathlib.Core.Bool.{Bool, cond}
use Prim.Native.Nat.{ℕ}
use lib.Dec.{ltb}
use lib.ListN.{length, get_or}
use Rattle.stored_cases.specs.Left.{result_mark}
use Rattle.stored_cases.proofs.areas.result_left.Goals as goal
use Rattle.stored_cases.proofs.areas.result_left.Goals.{then-at-bytes, else-at-bytes}

pub loop-at-preserved : goal.loop-at-preserved
loop-at-preserved c =
    let a = c.args in
    let turn = c.loop-at in
    let joined : c.if-at-bytes.byte ≡ cond {A = ℕ} (ltb turn.at (length a.bytes.now)) (get_or a.bytes.now turn.at 0) result_mark =
    elim c.if-at-bytes.branch [
      | then-at-bytes w ↦ w.byte-is ∙ sym (ap {B = ℕ} (λ (b : Bool). cond b (get_or a.bytes.now turn.at 0) result_mark) (lt-ltb turn.at (length a.bytes.now) w.if-at-bytes.true))
      | else-at-bytes w ↦ w.byte-is ∙ sym (ap {B = ℕ} (λ (b : Bool). cond b (get_or a.bytes.now turn.at 0) result_mark) (le-ltb turn.at (length a.bytes.now) w.if-at-bytes.false))
    ] in
    below_more (λ i. get_or a.res.now i 0 ≡ cond (ltb i (length a.bytes.now)) (get_or a.bytes.now i 0) result_mark) turn.at turn.invariant (c.if-res-at.false ∙ joined)

pub returns : goal.returns
returns c z =
    let a = c.args in
    let turn = c.loop-at in
    let all : turn.at ≡ length a.res.now = omega arith in
    (leb-true (length a.bytes.now) (length a.res.now) z, λ i b. turn.invariant i (omega (arith, all, b)))
