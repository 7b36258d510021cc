use mathlib.Core.Path.{ap, ◌∙◌}
use Prim.Native.Nat.{ℕ, ◌^◌}
use Rattle.std.specs.Prelude.{Result}
use Rattle.sheet.specs.declared.refusal.Refusal.{Refusal}
use Rattle.sheet.specs.Sheet.{read_number}
use Rattle.sheet.specs.Machine.{machine, unit_in}
use Rattle.sheet.proofs.AcceptedSheet.{read-known}
use Rattle.yeldmur.specs.Told.{value_told}
use Rattle.yeldmur.proofs.Telling.{value-number}
use Rattle.yeldmur.proofs.yeldmur_unit.Goals as goal

pub returns : goal.returns
returns c =
    let sheet = c.args.sheet.now in
    let old = c.args.unit.now in
    let told = c.tell.ensures ∙ ap (λ (x : Result ℕ Refusal). value_told x old) c.unit.ensures in
    record { value = value-number (2 ^ unit_in (machine sheet)) (read_number sheet) old (read-known sheet) told; unit_after = told }
