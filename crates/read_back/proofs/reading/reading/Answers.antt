use mathlib.Core.Path.{◌≡◌, sym, ap, ◌∙◌}
use mathlib.Core.List.{List}
use Prim.Native.Nat.{ℕ}
use native.Mathlib.Omega.{arith}
use lib.ListN.{length}
use Rattle.std.proofs.Common.{Err, rules}
use Rattle.sheet.specs.declared.form.Form.{Form}
use Rattle.sheet.specs.declared.refusal.Refusal.TheVariants as Refusal
use Rattle.sheet.specs.Machine.{machine}
use Rattle.sheet.proofs.Refusals.{number-positive}
use Rattle.machine.specs.declared.climbing.Machine.{Machine as Climbing}
use Rattle.machine.specs.Input.{input_number}
use Rattle.machine.proofs.Machines.{form-of}
use Rattle.read_back.specs.Way.{count_in, way_of}
use Rattle.read_back.specs.Follows.{if_reading}
use Rattle.read_back.specs.Answers.{count_number, held_told, held_after}
use Rattle.read_back.proofs.Answering.{count-zero, answer-input, number_counts, number-absent, answered, answered-held}
use Rattle.read_back.proofs.reading.reading.Goals as goal

-- the form of a machine's sheet is that of the machine of its bytes
own-form : (m : Climbing) (sheet : List ℕ) → m.sheet.bytes.now ≡ sheet → m.sheet.form ≡ (machine sheet).form
own-form m sheet e = sym (form-of m.sheet) ∙ ap (λ (s : List ℕ). (machine s).form) e

pub returns-in_err-machine : goal.returns-in_err-machine
returns-in_err-machine c =
    let a = c.args in
    let r = c.in_err-machine.field-0.0 in
    let made : c.from_residual.result ≡ Err r = search rules in
    let number = answer-input a.sheet.now a.n a.res.now a.nodes a.links a.k (length a.run.now) _ (number-positive r) (sym c.in_err-machine.ensures.number) in
    rw made (answered a.sheet.now (λ i. omega (arith, c.type_inv.sheet i)) a.n a.res.now a.nodes a.links a.k a.run.now r number)

pub returns-in_err-list : goal.returns-in_err-list
returns-in_err-list c =
    let a = c.args in
    let accepted : input_number a.sheet.now ≡ 0 = sym c.in_ok-machine.ensures.number in
    let r = c.in_err-list.field-0.0 in
    let listed = c.in_err-list.ensures.number ∙ ap (λ (f : Form). count_number f a.res.now a.n a.nodes a.links) (own-form c.in_ok-machine.machine a.sheet.now (λ i. (c.in_ok-machine.ensures.same i).now)) in
    let made : c.from_residual-in_err-list.result ≡ Err r = search rules in
    let number = number_counts a.sheet.now a.n a.res.now a.nodes a.links a.k (length a.run.now) accepted (λ z. number-positive r (listed ∙ z)) ∙ sym listed in
    rw made (answered a.sheet.now (λ i. omega (arith, c.type_inv.sheet i)) a.n a.res.now a.nodes a.links a.k a.run.now r number)

pub returns-then-count-k : goal.returns-then-count-k
returns-then-count-k c =
    let a = c.args in
    let accepted : input_number a.sheet.now ≡ 0 = sym c.in_ok-machine.ensures.number in
    let s = c.in_ok-list.ensures.same in
    let own = own-form c.in_ok-machine.machine a.sheet.now (λ i. (c.in_ok-machine.ensures.same i).now) in
    let z = count-zero (machine a.sheet.now).form a.res.now a.n a.nodes a.links (sym (ap (λ (f : Form). count_number f a.res.now a.n a.nodes a.links) own) ∙ sym c.in_ok-list.ensures.number) in
    let count : c.count.result ≡ count_in a.res.now a.nodes a.links a.n = c.count.ensures ∙ λ i. count_in (s.0 i).now (s.2 i) (s.3 i) (s.1 i) in
    let number = number-absent a.sheet.now a.n a.res.now a.nodes a.links a.k (length a.run.now) accepted z.0 z.1 (omega (arith, count, c.if-count-k.true)) in
    answered a.sheet.now (λ i. omega (arith, c.type_inv.sheet i)) a.n a.res.now a.nodes a.links a.k a.run.now Refusal.Absent number

pub returns : goal.returns
returns c =
    let a = c.args in
    let accepted : input_number a.sheet.now ≡ 0 = sym c.in_ok-machine.ensures.number in
    let s = c.in_ok-list.ensures.same in
    let m = c.in_ok-machine.ensures.same in
    let own = own-form c.in_ok-machine.machine a.sheet.now (λ i. (c.in_ok-machine.ensures.same i).now) in
    let z = count-zero (machine a.sheet.now).form a.res.now a.n a.nodes a.links (sym (ap (λ (f : Form). count_number f a.res.now a.n a.nodes a.links) own) ∙ sym c.in_ok-list.ensures.number) in
    let count : c.count.result ≡ count_in a.res.now a.nodes a.links a.n = c.count.ensures ∙ λ i. count_in (s.0 i).now (s.2 i) (s.3 i) (s.1 i) in
    let value = c.held.ensures.value ∙ λ i. held_told (machine (m i).now) (if_reading (machine (m i).now) (way_of ((s.4 ∙ own) i) (s.0 i).now (s.2 i) (s.3 i) (s.1 i) a.k)) (length a.run.now) in
    let run_new = c.held.ensures.run_new ∙ λ i. held_after (if_reading (machine (m i).now) (way_of ((s.4 ∙ own) i) (s.0 i).now (s.2 i) (s.3 i) (s.1 i) a.k)) a.run.now in
    answered-held a.sheet.now (λ i. omega (arith, c.type_inv.sheet i)) a.n a.res.now a.nodes a.links a.k a.run.now accepted z.0 z.1 (omega (arith, count, c.if-count-k.false)) c.held.result c.held.new.run value run_new
