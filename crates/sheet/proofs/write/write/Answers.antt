use mathlib.Core.Path.{◌≡◌, refl, sym, ap, ◌∙◌}
use mathlib.Core.Bool.{Bool, not, cond}
use Prim.Native.Nat.{ℕ, ◌+◌, ◌*◌, ◌/◌, ◌^◌, ◌≤◌}
use native.Mathlib.Omega.{arith}
use lib.Dec.{ltb, eqb}
use lib.ListN.{length}
use borrow.Author.Rules.{rules}
use borrow.Author.Tests.{eq-eqb, ne_eqb, lt-ltb, le-ltb}
use Rattle.std.specs.Prelude.{Ok, Err}
use Rattle.sheet.specs.declared.refusal.Refusal.{Refusal}
use Rattle.sheet.specs.Refusals.{number_of}
use Rattle.sheet.specs.Sheet.{link_length, node_length, link_count, node_count, count, mark, final_bits, link_bits, next, records_fit, write_number, sheet_length}
use Rattle.sheet.specs.Tests.{node_tests, link_tests, judged}
use Rattle.sheet.specs.Answers.{parts}
use Rattle.sheet.proofs.Forms.{unit-word}
use Rattle.sheet.proofs.AcceptedSheet.{unit-passes}
use Rattle.sheet.proofs.Refusals.{answer-some, first-zero, refusal-told, number-positive}
use Rattle.sheet.proofs.Passes.{first-known}
use Rattle.sheet.proofs.Writing.{write-unfit, write-judged, refused}
use Rattle.sheet.proofs.Round.{Below, stored_back}
use Rattle.sheet.proofs.write.write.Goals as goal
use Rattle.sheet.proofs.write.write.Lts
use Rattle.sheet.proofs.write.write.Reads
use Rattle.sheet.proofs.write.write.Tie

abbrev After-judge : Type 0
After-judge = Lts.After-judge Tie.the-claims Reads.Pre Reads.Post Tie.handed_clauses

-- the number of the first test that fails, by the passes
abbrev judged_in : After-judge → ℕ
judged_in c = judged c.test_nodes-node_tests.result c.test_links-link_tests.result (length c.args.links.now / 4) (length c.args.nodes.now / 3) c.args.start c.args.form

number : (c : After-judge) (room : ℕ)
    → write_number (parts c.args.links.now c.args.nodes.now c.args.start c.args.form) room
    ≡ cond (not (eqb (judged_in c) 0)) (judged_in c) (cond (ltb room (sheet_length (parts c.args.links.now c.args.nodes.now c.args.start c.args.form))) 21 0)
number c room =
    let p = parts c.args.links.now c.args.nodes.now c.args.start c.args.form in
    write-judged (parts c.args.links.now c.args.nodes.now c.args.start c.args.form) room (sym c.records_fit.ensures ∙ c.if-not-records_fit.false) c.test_nodes-node_tests.result c.test_links-link_tests.result (judged_in c)
    (c.test_nodes-node_tests.ensures ∙ λ i. node_tests (c.unit-unit.ensures i) (node_count p) (count p) (mark p) (final_bits p))
    (c.test_links-link_tests.ensures ∙ λ i. link_tests (c.unit-unit.ensures i) (link_count p) (node_count p) (link_bits p) (next p)) refl

-- where a test fails, its number
told : (c : After-judge) (e : Refusal) → c.judge.result ≡ Err e → write_number (parts c.args.links.now c.args.nodes.now c.args.start c.args.form) (length c.args.res.now) ≡ number_of e
told c e was =
    let p = parts c.args.links.now c.args.nodes.now c.args.start c.args.form in
    let room = length c.args.res.now in
    let k = judged_in c in
    let failed : k ≡ number_of e = refusal-told tt k (first-known _ _ _ _ _) e (sym was ∙ c.judge.ensures) in
    number c room ∙ ap (λ (t : Bool). cond (not t) k (cond (ltb room (sheet_length p)) 21 0)) (ne_eqb k 0 (λ z. number-positive e (sym failed ∙ z))) ∙ failed

-- where none fails, the number by the room
passed : (c : After-judge) → c.judge.result ≡ Ok tt → write_number (parts c.args.links.now c.args.nodes.now c.args.start c.args.form) (length c.args.res.now) ≡ cond (ltb (length c.args.res.now) (sheet_length (parts c.args.links.now c.args.nodes.now c.args.start c.args.form))) 21 0
passed c was =
    let p = parts c.args.links.now c.args.nodes.now c.args.start c.args.form in
    let room = length c.args.res.now in
    let k = judged_in c in
    number c room ∙ ap (λ (t : Bool). cond (not t) k (cond (ltb room (sheet_length p)) 21 0)) (eq-eqb k 0 (answer-some tt k tt (sym was ∙ c.judge.ensures)).0)

-- the three clauses of a refusal
pub returns-then-not-records_fit : goal.returns-then-not-records_fit
returns-then-not-records_fit c =
    let p = parts c.args.links.now c.args.nodes.now c.args.start c.args.form in
    let r = refused p c.args.res.now Refusal.Layout (write-unfit p (length c.args.res.now) (sym c.records_fit.ensures ∙ c.if-not-records_fit.true)) in
    record { value = r.0; res_after = r.1.0; by_index = r.1.1 }

pub returns-in_err-judge : goal.returns-in_err-judge
returns-in_err-judge c =
    let p = parts c.args.links.now c.args.nodes.now c.args.start c.args.form in
    let e = c.in_err-judge.field-0.0 in
    let made : c.from_residual.result ≡ Err e = search rules in
    let r = refused p c.args.res.now e (told c.before.before.before.before e c.in_err-judge.was) in
    record { value = made ∙ r.0; res_after = r.1.0; by_index = λ size z. r.1.1 size (sym made ∙ z) }

pub returns-then-res-size : goal.returns-then-res-size
returns-then-res-size c =
    let p = parts c.args.links.now c.args.nodes.now c.args.start c.args.form in
    let old = c.args.res.now in
    let r = refused p old Refusal.Room (passed c.before.before.before.before.before.before c.in_ok-judge.was ∙ ap (λ (t : Bool). cond t 21 0) (lt-ltb (length old) (sheet_length p) (omega (arith, c.trailer.ensures, c.if-res-size.true)))) in
    record { value = r.0; res_after = r.1.0; by_index = r.1.1 }

pub returns : goal.returns
unfolding write_number
returns c =
    let p = parts c.args.links.now c.args.nodes.now c.args.start c.args.form in
    let old = c.args.res.now in
    let room : sheet_length p ≤ length old = omega (arith, c.trailer.ensures, c.if-res-size.false) in
    let zero : write_number p (length old) ≡ 0 =
    passed c.before.before.before.before.before.before.before.before.before.before c.in_ok-judge.was ∙ ap (λ (t : Bool). cond t 21 0) (le-ltb (length old) (sheet_length p) room) in
    let links : Below (2 ^ 32) p.links = λ i. omega (arith, c.type_inv.links i) in
    let nodes : Below (2 ^ 32) p.nodes = λ i. omega (arith, c.type_inv.nodes i) in
    let told = stored_back p (sym c.records_fit.ensures ∙ c.if-not-records_fit.false) links nodes c.ranges.start.fits (unit-word p.form (unit-passes (records_fit p) p (first-zero _ _ zero).0)) old _ room zero c.put_sheet.ensures in
    let size : link_length * (length p.links / 4) + node_length * (length p.nodes / 3) + c.trailer.result ≡ sheet_length p = ap (λ (k : ℕ). link_length * (length p.links / 4) + node_length * (length p.nodes / 3) + k) c.trailer.ensures in
    record { value = ap Ok size ∙ told.0; res_after = told.1.0; by_index = λ n z. told.1.1 n (sym (ap Ok size) ∙ z) }
