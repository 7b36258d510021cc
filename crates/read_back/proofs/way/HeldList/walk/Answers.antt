use mathlib.Core.Path.{refl, sym, ap, ◌∙◌}
use mathlib.Core.List.{List}
use mathlib.Core.Option.{some, none}
use Prim.Native.Nat.{ℕ}
use native.Mathlib.Omega.{arith}
use Rattle.sheet.specs.Machine.{machine}
use Rattle.machine.specs.Readings.{final}
use Rattle.read_back.specs.Way.{next_at}
use Rattle.read_back.specs.Follows.{is_ending}
use Rattle.read_back.specs.Walks.{goes_to}
use Rattle.read_back.proofs.Follow.{ends-here, ends-not}
use Rattle.read_back.proofs.Stepping.{stops-here, goes_on, stops-below, ends_there}
use Rattle.read_back.proofs.way.HeldList.walk.Goals as goal

pub returns-in_err-only : goal.returns-in_err-only
returns-in_err-only c =
    let w = c.loop-q.w in
    rw c.from_residual-in_err-only.ensures (stops-here (machine c.args.begun.now.at.sheet.bytes.now) w.at.node w.count _ c.args.self.now c.loop-q.q c.loop-q.invariant.rest (omega arith) c.in_err-only.ensures)

pub returns-in_err-w : goal.returns-in_err-w
returns-in_err-w c =
    let w = c.loop-q.w in
    let l = c.args.self.now in
    let goes = ap (λ (s : List ℕ). goes_to (machine s) w.at.node w.count c.number.result) (sym c.loop-q.invariant.sheet) ∙ c.in_err-w.ensures in
    rw c.from_residual-in_err-w.ensures
    (sym (goes_on (machine c.args.begun.now.at.sheet.bytes.now) w.at.node w.count _ l c.loop-q.q c.loop-q.invariant.rest (omega arith) c.in_ok-only.ensures.0 c.in_ok-only.only c.in_ok-only.ensures.1 c.number.result c.number.ensures (next_at l.res.now c.in_ok-only.only) refl none goes))

pub loop-q-preserved : goal.loop-q-preserved
loop-q-preserved c =
    let w = c.loop-q.w in
    let l = c.args.self.now in
    let goes = ap (λ (s : List ℕ). goes_to (machine s) w.at.node w.count c.number.result) (sym c.loop-q.invariant.sheet) ∙ c.in_ok-w.ensures.1 in record {
      sheet = c.in_ok-w.ensures.0 ∙ c.loop-q.invariant.sheet;
      rest =
          goes_on (machine c.args.begun.now.at.sheet.bytes.now) w.at.node w.count _ l c.loop-q.q c.loop-q.invariant.rest (omega arith) c.in_ok-only.ensures.0 c.in_ok-only.only c.in_ok-only.ensures.1 c.number.result c.number.ensures c.next-q.result c.next-q.ensures (some (c.in_ok-w.w.count, c.in_ok-w.w.at.node)) goes;
    }

pub returns-then-q-last : goal.returns-then-q-last
returns-then-q-last c = let w = c.loop-q.w in stops-below (machine c.args.begun.now.at.sheet.bytes.now) w.at.node w.count _ c.args.self.now c.loop-q.q c.loop-q.invariant.rest (omega arith)

pub returns-then-at_final : goal.returns-then-at_final
returns-then-at_final c =
    let w = c.loop-q.w in
    let m = machine c.args.begun.now.at.sheet.bytes.now in
    let ends = ap (λ (s : List ℕ). is_ending (final (machine s) w.at.node)) (sym c.loop-q.invariant.sheet) ∙ sym c.at_final.ensures ∙ c.if-at_final.true in
    (c.loop-q.invariant.sheet, ends_there m w.at.node w.count _ c.args.self.now c.loop-q.q c.loop-q.invariant.rest (omega arith) ∙ ends-here m w.at.node w.count ends)

pub returns-else-at_final : goal.returns-else-at_final
returns-else-at_final c =
    let w = c.loop-q.w in
    let m = machine c.args.begun.now.at.sheet.bytes.now in
    let ends = ap (λ (s : List ℕ). is_ending (final (machine s) w.at.node)) (sym c.loop-q.invariant.sheet) ∙ sym c.at_final.ensures ∙ c.if-at_final.false in
    ends_there m w.at.node w.count _ c.args.self.now c.loop-q.q c.loop-q.invariant.rest (omega arith) ∙ ends-not m w.at.node w.count ends
