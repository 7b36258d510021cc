use mathlib.Core.Path.{◌≡◌, sym, ap, ◌∙◌}
use mathlib.Core.Bool.{Bool, cond}
use mathlib.Core.List.{List}
use Prim.Native.Nat.{ℕ}
use lib.Dec.{eqb}
use Rattle.sheet.specs.Refusals.{number_in}
use Rattle.sheet.specs.Sheet.{unit_of, form_of}
use Rattle.machine.specs.declared.climbing.Machine.{Machine}
use Rattle.sheet.specs.declared.form.Form.{Form}
use Rattle.two_probes.specs.Outcome.{one_unit}
use Rattle.sheet.proofs.AcceptedSheet.{form-of-bytes}
use Rattle.two_probes.proofs.Outcomes.{second-own, second-other}
use Rattle.two_probes.proofs.second_machine.Goals as goal

-- what is tested of the two forms is said of the two sheets
tested : (m : Machine) (bytes : List ℕ) (f : Form) (t : Bool) → f ≡ form_of bytes → t ≡ eqb (unit_of m.sheet.form) (unit_of f) → one_unit m.sheet.bytes.now bytes ≡ t
tested m bytes f t e h = (λ i. eqb (unit_of (sym (form-of-bytes m.sheet) i)) (unit_of (sym e i))) ∙ sym h

-- 1 or 14, by the number of the second sheet itself
abbrev by_own : ℕ → ℕ
by_own k = cond (eqb k 1) 1 14

pub returns-then-one_unit-clause-number : goal.returns-then-one_unit-clause-number
returns-then-one_unit-clause-number c =
    let m = c.args.first.now in
    let bytes = c.args.bytes.now in
    c.new-second.ensures.number ∙ sym (second-own m.sheet.bytes.now bytes (tested m bytes c.form_of.result c.one_unit.result c.form_of.ensures c.one_unit.ensures ∙ c.if-one_unit.true))

pub returns-in-Ok-clause-number : goal.returns-in-Ok-clause-number
returns-in-Ok-clause-number c =
    let m = c.args.first.now in
    let bytes = c.args.bytes.now in
    ap by_own (sym (ap number_in c.in-Ok.is) ∙ c.new-second.ensures.number)
    ∙ sym (second-other m.sheet.bytes.now bytes (tested m bytes c.form_of.result c.one_unit.result c.form_of.ensures c.one_unit.ensures ∙ c.if-one_unit.false))

pub returns-in-Err-clause-number : goal.returns-in-Err-clause-number
returns-in-Err-clause-number c =
    let m = c.args.first.now in
    let bytes = c.args.bytes.now in
    c.other_unit.ensures ∙ ap by_own (sym (ap number_in c.in-Err.is) ∙ c.new-second.ensures.number)
    ∙ sym (second-other m.sheet.bytes.now bytes (tested m bytes c.form_of.result c.one_unit.result c.form_of.ensures c.one_unit.ensures ∙ c.if-one_unit.false))
