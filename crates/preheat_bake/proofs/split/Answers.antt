use mathlib.Core.Path.{◌≡◌, sym, ap, ◌∙◌}
use mathlib.Core.List.{List}
use Prim.Native.Nat.{ℕ}
use lib.ListN.{length}
use native.Mathlib.Omega.{arith}
use borrow.Author.Rules.{rules}
use Rattle.std.specs.Prelude.{Result, Err}
use Rattle.sheet.specs.declared.refusal.Refusal.{Refusal}
use Rattle.sheet.specs.Refusals.{number_of}
use Rattle.sheet.specs.Machine.{machine}
use Rattle.sheet.proofs.Round.{Below}
use Rattle.machine.specs.Input.{input_number}
use Rattle.narrowing.specs.Narrows.{narrow_number}
use Rattle.preheat_bake.specs.declared.counts.Counts.{Counts}
use Rattle.preheat_bake.specs.Outcome.{split_number, split_answer, split_over}
use Rattle.preheat_bake.specs.Promise.{Promised}
use Rattle.preheat_bake.proofs.Outcomes.{number-input, number-refused, refused-answer, refused-over}
use Rattle.preheat_bake.proofs.Promises.{promised}
use Rattle.preheat_bake.proofs.split.Goals as goal

-- the three clauses of a refusal
record Told (bytes : List ℕ) (at : ℕ) (old : List ℕ) (r : Result Counts Refusal) : Type 0 where
  value : r ≡ split_answer bytes at (length old)
  res_after : old ≡ split_over bytes at old
  promised : Promised bytes at (length old) r old

told : (bytes : List ℕ) (at : ℕ) (old : List ℕ) → Below 256 bytes → (e : Refusal) → split_number bytes at (length old) ≡ number_of e → (r : Result Counts Refusal) → r ≡ Err e → Told bytes at old r
told bytes at old whole e n r made =
    let value = made ∙ refused-answer bytes at old e n in
    let over = refused-over bytes at old e n in
    record { value = value; res_after = over; promised = promised bytes at old whole r old value over }

pub returns-in_err-machine : goal.returns-in_err-machine
returns-in_err-machine c =
    let bytes = c.args.sheet.now in
    let old = c.args.res.now in
    let e = c.in_err-machine.field-0.0 in
    let number : number_of e ≡ input_number bytes = search rules in
    let made : c.from_residual.result ≡ Err e = search rules in
    let t = told bytes c.args.c old (λ i. omega (arith, c.type_inv.sheet i)) e (number-input bytes c.args.c (length old) e (sym number)) c.from_residual.result made in
    record { value = t.value; res_after = t.res_after; promised = t.promised }

pub returns-in_err-narrowing : goal.returns-in_err-narrowing
returns-in_err-narrowing c =
    let bytes = c.args.sheet.now in
    let old = c.args.res.now in
    let m = c.in_ok-machine.machine in
    let e = c.in_err-narrowing.field-0.0 in
    let same : m.sheet.bytes.now ≡ bytes = search rules in
    let number = c.in_err-narrowing.ensures.number ∙ λ i. narrow_number c.args.c (machine (same i)) in
    let made : c.from_residual-in_err-narrowing.result ≡ Err e = search rules in
    let t = told bytes c.args.c old (λ i. omega (arith, c.type_inv.sheet i)) e (number-refused bytes c.args.c (length old) (sym (ap input_number same) ∙ m.climbs) e (sym number)) c.from_residual-in_err-narrowing.result made in
    record { value = t.value; res_after = t.res_after; promised = t.promised }

pub returns : goal.returns
returns c =
    let bytes = c.args.sheet.now in
    let old = c.args.res.now in
    let x = c.in_ok-narrowing.narrowing in
    let same : x.machine.sheet.bytes.now ≡ bytes = search rules in
    let node : x.node ≡ c.args.c = search rules in
    let value = c.write.ensures.value ∙ λ i. split_answer (same i) (node i) (length old) in
    let over = c.write.ensures.res_after ∙ λ i. split_over (same i) (node i) old in
    record { value = value; res_after = over; promised = promised bytes c.args.c old (λ i. omega (arith, c.type_inv.sheet i)) c.write.result c.write.new.res value over }
