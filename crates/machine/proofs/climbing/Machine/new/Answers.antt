use mathlib.Core.Path.{◌≡◌, sym, ap, ◌∙◌}
use Prim.Native.Nat.{◌≤◌}
use borrow.Author.Rules.{rules}
use Rattle.std.specs.Prelude.{Err}
use Rattle.tropical_weight.specs.Limits.{node_limit, link_limit}
use Rattle.sheet.specs.Refusals.{number_of, number_in}
use Rattle.sheet.specs.Sheet.{read_number}
use Rattle.machine.specs.Input.{input_number}
use Rattle.machine.proofs.Testing.{read-refused}
use Rattle.machine.proofs.Machines.{past-refused, climbs-not, climbs-all}
use Rattle.machine.proofs.climbing.Machine.new.Goals as goal

pub returns-in_err-sheet-clause-number : goal.returns-in_err-sheet-clause-number
returns-in_err-sheet-clause-number c =
    let e = c.in_err-sheet.field-0.0 in
    let told : number_of e ≡ read_number c.args.bytes.now = search rules in
    let made : c.from_residual.result ≡ Err e = search rules in
    ap number_in made ∙ sym (read-refused c.args.bytes.now e (sym told))

pub returns-in_err-within_limits-clause-number : goal.returns-in_err-within_limits-clause-number
returns-in_err-within_limits-clause-number c =
    let s = c.in_ok-sheet.sheet in
    let e = c.in_err-within_limits.field-0.0 in
    let same : s.bytes.now ≡ c.args.bytes.now = search rules in
    let made : c.from_residual-in_err-within_limits.result ≡ Err e = search rules in
    ap number_in made ∙ sym (past-refused s.bytes.now s.links s.nodes s.start s.form s.accepted s.stated e (sym c.within_limits.ensures.number ∙ c.in_err-within_limits.was)) ∙ ap input_number same

pub returns-then-not-links_climb-clause-number : goal.returns-then-not-links_climb-clause-number
returns-then-not-links_climb-clause-number c =
    let s = c.in_ok-sheet.sheet in
    let same : s.bytes.now ≡ c.args.bytes.now = search rules in
    let few : (s.nodes ≤ node_limit) × (s.links ≤ link_limit) = search rules in
    sym (climbs-not s.bytes.now s.links s.nodes s.start s.form s.accepted s.stated few.0 few.1 (sym c.links_climb.ensures ∙ c.if-not-links_climb.true)) ∙ ap input_number same

pub invariant_of-result : goal.invariant_of-result
invariant_of-result c =
    let s = c.in_ok-sheet.sheet in
    let few : (s.nodes ≤ node_limit) × (s.links ≤ link_limit) = search rules in
    record { climbs = climbs-all s.bytes.now s.links s.nodes s.start s.form s.accepted s.stated few.0 few.1 (sym c.links_climb.ensures ∙ c.if-not-links_climb.false) }
