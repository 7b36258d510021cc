use mathlib.Core.Path.{sym, ap, ◌∙◌, subst}
use Prim.Native.Nat.{ℕ}
use lib.Ieee.{binary32, of_bits}
use mir.Syntax.{w32}
use mir.ValLaws.{to_z-of_z}
use borrow.Author.Rules.{sfits_of}
use Rattle.tropical_weight.specs.Tropical.{fin}
use Rattle.tropical_weight.specs.Single.{Costs}
use Rattle.sheet.specs.Records.{final_at}
use Rattle.machine.specs.declared.climbing.Machine.{Machine}
use Rattle.machine.proofs.Machines.{unit-of}
use Rattle.read_back.proofs.RunCosts.{link-in-sheet, cost-answers}
use Rattle.read_back.proofs.cost.cost_of.Goals as goal

pub run_sum-sum-requires : goal.run_sum-sum-requires
run_sum-sum-requires c = let w = c.args.w.now in link-in-sheet (record { sheet = w.at.sheet; climbs = w.climbs }) c.args.run.now c.requires.reading

pub returns : goal.returns
returns c =
    let w = c.args.w.now in
    let m : Machine = record { sheet = w.at.sheet; climbs = w.climbs } in
    let weight = c.from_bits-last.ensures ∙ ap (of_bits binary32) (c.unwrap_or.ensures ∙ c.final_bits.ensures.bits ∙ ap (final_at w.at.sheet.bytes.now w.at.sheet.links) c.requires.end_value) in
    ap fin (to_z-of_z w32 c.cost.result (sfits_of c.cost.type_inv)) ∙ cost-answers m c.args.run.now c.requires.reading _ _ _ _ c.run_sum-sum.ensures weight c.times.ensures (subst (λ (j : ℕ). Costs j c.times.result c.cost.result) (c.unit.ensures ∙ sym (unit-of w.at.sheet)) c.cost.ensures)
