use mathlib.Core.Path.{◌≡◌, ap, ◌∙◌}
use mathlib.Core.List.{List}
use native.Mathlib.Omega.{arith}
use lib.IntN.{ℤ}
use mir.Syntax.{w32}
use mir.ValLaws.{to_z-of_z}
use borrow.Author.Rules.{sfits_of}
use Rattle.std.proofs.Common.{ℕ, Some, Ok}
use Rattle.sheet.specs.Machine.{machine}
use Rattle.read_back.specs.Follows.{if_reading}
use Rattle.read_back.specs.Answers.{run_in, reading_told}
use Rattle.read_back.specs.Walks.{way_to}
use Rattle.read_back.proofs.Holding.{own, cost-asked, told_is}
use Rattle.read_back.proofs.Answering.{told-there}
use Rattle.read_back.proofs.reading.held.Goals as goal

pub cost_of-requires : goal.cost_of-requires
cost_of-requires c =
    let w = c.in_ok-w.w in
    let o = way_to c.args.list.now c.args.k in
    let is : c.walked.result ≡ Some w = grind arith in
    let f = own c.args.machine.now.sheet.bytes.now o w (rw is at c.walked.ensures) in
    cost-asked (machine w.at.sheet.bytes.now) o w f c.args.run.now c.if-run-count.false c.store_way.new.run c.store_way.ensures

pub returns-clause-value : goal.returns-clause-value
returns-clause-value c =
    let w = c.in_ok-w.w in
    let m = machine c.args.machine.now.sheet.bytes.now in
    let o = way_to c.args.list.now c.args.k in
    let is : c.walked.result ≡ Some w = grind arith in
    let h = rw is at c.walked.ensures in
    let f = own c.args.machine.now.sheet.bytes.now o w h in
    let there = told-there m (if_reading m o) c.args.run.now (run_in o) h.1.held (omega (arith, h.1.counts)) in
    let cost = told_is (machine w.at.sheet.bytes.now) o w f c.args.run.now c.if-run-count.false c.store_way.new.run c.store_way.ensures c.cost_of.result c.cost_of.ensures in
    let same = ap (λ (s : List ℕ). reading_told (machine s) (run_in o)) h.0 in
    let units = ap (λ (z : ℤ). record { links = w.count; cost = z; end = w.at.node }) (to_z-of_z w32 c.cost_of.result (sfits_of c.cost_of.type_inv)) in
    ap Ok (units ∙ cost ∙ same) ∙ there.0
