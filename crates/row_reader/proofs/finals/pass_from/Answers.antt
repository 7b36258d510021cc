use mathlib.Core.Path.{◌≡◌, sym, ap, ◌∙◌}
use mathlib.Core.List.{List}
use Prim.Native.Nat.{ℕ}
use borrow.Author.Rules.{rules}
use Rattle.std.proofs.Common.{Bor, None}
use Rattle.row_reader.specs.Places.{rows_left}
use Rattle.row_reader.specs.FinalRows.{on, twice, falling, with_read, pass_from}
use Rattle.row_reader.proofs.Steps.{given-row, given-unread, given-end}
use Rattle.row_reader.proofs.FinalRows.{pass-begin, pass_step, pass-end}
use Rattle.row_reader.proofs.finals.pass_from.Goals as goal

pub loop-row-init : goal.loop-row-init
loop-row-init c =
    let pass = c.new-pass.result in
    let text = c.args.text.now in
    let same : rows_left c.into_iter-row-iterator.result.text.now c.into_iter-row-iterator.result.at ≡ rows_left text 0 = search rules in record {
      first = c.new-pass.ensures.0;
      rest = ap (pass_from c.args.first (falling pass.kept pass.count) pass.limit) same ∙ pass-begin c.args.first pass.kept pass.count pass.limit (rows_left text 0) c.new-pass.ensures.1 c.new-pass.ensures.2;
    }

pub loop-row-preserved : goal.loop-row-preserved
loop-row-preserved c =
    let it = c.loop-row.row-iterator in
    let pass = c.loop-row.pass in
    let made = c.add.new.self in
    let kept = falling pass.kept pass.count in
    let next = c.next.new.self.at in
    let step = given-row it.text.now it.at next c.in-Some.row c.in_ok-row.field-0 c.in_ok-row.was c.in-Some.ensures.steps.1 in
    let first = c.loop-row.invariant.first in
    let went = c.in_ok-add.ensures.after ∙ ap (λ (f : ℕ). with_read f kept pass.limit c.in_ok-row.field-0) first in record {
      first = c.add.ensures.first ∙ first;
      rest =
          ap (λ (t : Bor (List ℕ)). pass_from c.args.first (falling made.kept made.count) made.limit (rows_left t.now next)) c.in-Some.ensures.steps.0
          ∙ sym (pass_step c.args.first kept pass.limit it.text.now it.at c.in_ok-row.field-0 next step (on (falling made.kept made.count) made.limit) went)
          ∙ c.loop-row.invariant.rest;
    }

pub returns-in_err-row : goal.returns-in_err-row
returns-in_err-row c =
    let it = c.loop-row.row-iterator in
    let pass = c.loop-row.pass in
    let made : c.from_residual.result ≡ None = search rules in
    let unread = given-unread it.text.now it.at c.next.new.self.at c.in-Some.row c.in_err-row.was c.in-Some.ensures.steps.1 in
    made ∙ sym (ap (pass_from c.args.first (falling pass.kept pass.count) pass.limit) unread) ∙ c.loop-row.invariant.rest

pub returns-in_err-add : goal.returns-in_err-add
returns-in_err-add c =
    let it = c.loop-row.row-iterator in
    let pass = c.loop-row.pass in
    let kept = falling pass.kept pass.count in
    let made : c.from_residual-in_err-add.result ≡ None = search rules in
    let step = given-row it.text.now it.at c.next.new.self.at c.in-Some.row c.in_ok-row.field-0 c.in_ok-row.was c.in-Some.ensures.steps.1 in
    let went = c.in_err-add.ensures.after ∙ ap (λ (f : ℕ). with_read f kept pass.limit c.in_ok-row.field-0) c.loop-row.invariant.first in
    made ∙ sym (pass_step c.args.first kept pass.limit it.text.now it.at c.in_ok-row.field-0 c.next.new.self.at step twice went) ∙ c.loop-row.invariant.rest

pub returns : goal.returns
returns c =
    let it = c.loop-row.row-iterator in
    let pass = c.loop-row.pass in
    let ended = given-end it.text.now it.at c.next.new.self.at c.in-None.ensures.steps.1 in
    sym (pass-end c.args.first (falling pass.kept pass.count) pass.limit (rows_left it.text.now it.at) ended) ∙ c.loop-row.invariant.rest
