use Rattle.std.proofs.Common.{rules, arith, ◌≡◌, ◌↔◌, get_or}
use Rattle.std.specs.Prelude.{EachIndex, IsTrue}
use Rattle.stored_cases.specs.Left.{work_mark}
use Rattle.stored_cases.proofs.Parts.{each-place}
use Rattle.stored_cases.proofs.areas.work_left.Goals as goal

pub returns-then-all : goal.returns-then-all
returns-then-all c z =
    let used = c.in-Some.used.now in
    let rest = c.in-Some.rest.now in
    let cut = c.in-Some.ensures.cases in
    let zero : IsTrue c.all.result ↔ EachIndex used (λ k. get_or used k 0 ≡ 0) = search rules in
    let marked : IsTrue c.all-then-all.result ↔ EachIndex rest (λ k. get_or rest k 0 ≡ work_mark) = search rules in
    (cut.0, each-place c.args.work.now used rest c.args.zeros work_mark cut (marked.0 z) (λ i. 0) (λ i l. zero.0 c.if-all.true i (omega (arith, cut.3, l))))
