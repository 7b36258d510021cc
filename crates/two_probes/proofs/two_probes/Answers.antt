use mathlib.Core.Path.{◌≡◌, refl, sym, ap, ◌∙◌}
use mathlib.Core.Bool.{◌&&◌}
use mathlib.Core.List.{List}
use Prim.Native.Nat.{ℕ}
use lib.ListN.{length}
use native.Mathlib.Omega.{arith}
use borrow.Author.Rules.{rules}
use Rattle.std.specs.Prelude.{Result, Err}
use Rattle.sheet.specs.declared.refusal.Refusal.{Refusal}
use Rattle.sheet.specs.Refusals.{number_of}
use Rattle.sheet.specs.Sheet.{unit_of, form_of}
use Rattle.sheet.specs.Machine.{machine}
use Rattle.sheet.proofs.Round.{Below}
use Rattle.machine.specs.Input.{input_number}
use Rattle.product.specs.Refusals.{labelled}
use Rattle.product.proofs.Numbers.{number-labels}
use Rattle.two_probes.specs.Outcome.{second_number, both_number, both_answer, both_over}
use Rattle.two_probes.specs.Promise.{Promised}
use Rattle.sheet.proofs.AcceptedSheet.{form-of-bytes}
use Rattle.two_probes.proofs.Outcomes.{second-zero, number-first, number-second, number-product, refused-answer, refused-over}
use Rattle.two_probes.proofs.Promises.{promised}
use Rattle.two_probes.proofs.two_probes.Goals as goal

-- the three clauses of a refusal
record Told (first second old : List ℕ) (r : Result ℕ Refusal) : Type 0 where
  value : r ≡ both_answer first second (length old)
  res_after : old ≡ both_over first second old
  promised : Promised first second (length old) r old

told : (first second old : List ℕ) → Below 256 first → (e : Refusal) → both_number first second (length old) ≡ number_of e → (r : Result ℕ Refusal) → r ≡ Err e → Told first second old r
told first second old bytes e n r made =
    let value = made ∙ refused-answer first second old e n in
    let over = refused-over first second old e n in
    record { value = value; res_after = over; promised = promised first second old bytes r old value over }

pub returns-in_err-a : goal.returns-in_err-a
returns-in_err-a c =
    let first = c.args.first.now in
    let second = c.args.second.now in
    let old = c.args.res.now in
    let e = c.in_err-a.field-0.0 in
    let number : number_of e ≡ input_number first = search rules in
    let made : c.from_residual.result ≡ Err e = search rules in
    let t = told first second old (λ i. omega (arith, c.type_inv.first i)) e (number-first first second (length old) e (sym number)) c.from_residual.result made in
    record { value = t.value; res_after = t.res_after; promised = t.promised }

pub returns-in_err-b : goal.returns-in_err-b
returns-in_err-b c =
    let first = c.args.first.now in
    let second = c.args.second.now in
    let old = c.args.res.now in
    let m = c.in_ok-a.a in
    let e = c.in_err-b.field-0.0 in
    let same : m.sheet.bytes.now ≡ first = search rules in
    let number : number_of e ≡ second_number m.sheet.bytes.now second = search rules in
    let made : c.from_residual-in_err-b.result ≡ Err e = search rules in
    let t = told first second old (λ i. omega (arith, c.type_inv.first i)) e (number-second first second (length old) (sym (ap input_number same) ∙ m.climbs) e (ap (λ (l : List ℕ). second_number l second) (sym same) ∙ sym number)) c.from_residual-in_err-b.result made in
    record { value = t.value; res_after = t.res_after; promised = t.promised }

pub returns-then-not-both_labelled : goal.returns-then-not-both_labelled
returns-then-not-both_labelled c =
    let first = c.args.first.now in
    let second = c.args.second.now in
    let m = c.in_ok-a.a in
    let n = c.in_ok-b.b in
    let old = c.args.res.now in
    let same : m.sheet.bytes.now ≡ first = search rules in
    let also : n.sheet.bytes.now ≡ second = search rules in
    let passed : second_number m.sheet.bytes.now second ≡ 0 = search rules in
    let failed = (λ i. labelled (machine (sym same i)) && labelled (machine (sym also i))) ∙ sym c.both_labelled.ensures ∙ c.if-not-both_labelled.true in
    let number = number-product first second (length old) (sym (ap input_number same) ∙ m.climbs) (ap (λ (l : List ℕ). second_number l second) (sym same) ∙ passed) Refusal.Labels (number-labels (machine first) (machine second) failed) in
    let t = told first second old (λ i. omega (arith, c.type_inv.first i)) Refusal.Labels number (Err Refusal.Labels) refl in
    record { value = t.value; res_after = t.res_after; promised = t.promised }

pub write_both-requires-clause-units : goal.write_both-requires-clause-units
write_both-requires-clause-units c =
    let m = c.in_ok-a.a in
    let n = c.in_ok-b.b in
    let second = c.args.second.now in
    let also : n.sheet.bytes.now ≡ second = search rules in
    let passed : second_number m.sheet.bytes.now second ≡ 0 = search rules in
    ap unit_of (form-of-bytes m.sheet) ∙ (second-zero m.sheet.bytes.now second passed).1 ∙ ap unit_of (ap form_of (sym also) ∙ sym (form-of-bytes n.sheet))

pub returns : goal.returns
returns c =
    let first = c.args.first.now in
    let second = c.args.second.now in
    let old = c.args.res.now in
    let same : c.in_ok-a.a.sheet.bytes.now ≡ first = search rules in
    let also : c.in_ok-b.b.sheet.bytes.now ≡ second = search rules in
    let value = c.write_both.ensures.value ∙ λ i. both_answer (same i) (also i) (length old) in
    let over = c.write_both.ensures.res_after ∙ λ i. both_over (same i) (also i) old in
    record { value = value; res_after = over; promised = promised first second old (λ i. omega (arith, c.type_inv.first i)) c.write_both.result c.write_both.new.res value over }
