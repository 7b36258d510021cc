use mathlib.Core.Path.{◌≡◌, refl, sym, ap, ◌∙◌}
use mathlib.Core.Bool.{◌&&◌}
use mathlib.Core.List.{List}
use Prim.Native.Nat.{ℕ, ◌+◌, ◌-◌, ◌*◌, ◌≤◌}
use native.Mathlib.Omega.{arith}
use lib.Dec.{eqb}
use lib.ListN.{length, take, drop}
use Rattle.std.proofs.lemmas.List.{take_rest}
use borrow.Author.Rules.{rules}
use Rattle.std.specs.Prelude.{Ok, Err}
use Rattle.sheet.specs.declared.refusal.Refusal.TheVariants as Refusal
use Rattle.sheet.specs.Refusals.{answer}
use Rattle.sheet.specs.Words.{word}
use Rattle.sheet.specs.Sheet.{link_length, node_length, short_trailer, trailer_length, sizes_fit, read_number}
use Rattle.sheet.specs.Records.{trailer_at}
use Rattle.sheet.specs.Tests.{node_tests, link_tests, judged}
use Rattle.sheet.proofs.AcceptedSheet.{stated-some, stated-none}
use Rattle.sheet.proofs.Round.{word-behind}
use Rattle.sheet.proofs.Refusals.{answer-ok, answer-err, answer-some, passed-on}
use Rattle.sheet.proofs.Fields.{read-judged, read-unfit, sizes-short, sizes-long}
use Rattle.sheet.proofs.read.read.Goals as goal
use Rattle.sheet.proofs.read.read.Lts
use Rattle.sheet.proofs.read.read.Reads
use Rattle.sheet.proofs.read.read.Tie

abbrev After-judge : Type 0
After-judge = Lts.After-judge Tie.the-claims Reads.Pre Reads.Post Tie.handed_clauses

abbrev After-sizes_fit : Type 0
After-sizes_fit = Lts.After-sizes_fit Tie.the-claims Reads.Pre Reads.Post Tie.handed_clauses

-- the trailer that was read
read_trailer : (c : After-sizes_fit) → (short_trailer ≤ length c.args.sheet.now) × (c.in-Some.t ≡ trailer_at c.args.sheet.now)
read_trailer c = stated-some c.args.sheet.now c.in-Some.t (search rules)

-- the tests of sizes, on it
sizes : (c : After-sizes_fit) → sizes_fit c.args.sheet.now ≡ c.sizes_fit.result
sizes c =
    let bytes = c.args.sheet.now in
    let trailer = read_trailer c in
    sizes-long bytes trailer.0
    ∙ sym (c.sizes_fit.ensures ∙ λ i. eqb (trailer.1 i).link_offset 0 && eqb (trailer.1 i).node_offset (link_length * (trailer.1 i).links) && eqb (length bytes) (link_length * (trailer.1 i).links + node_length * (trailer.1 i).nodes + trailer_length (trailer.1 i).form))

-- the number that the passes come to
number : (c : After-judge) → read_number c.args.sheet.now ≡ judged c.test_nodes-n.result c.test_links-l.result c.in-Some.t.links c.in-Some.t.nodes c.in-Some.t.start c.in-Some.t.form
number c =
    let bytes = c.args.sheet.now in
    let t = c.in-Some.t in
    let at = link_length * t.links in
    let nodes : List ℕ = take (length bytes - at) (drop at bytes) in
    let rest : nodes ≡ drop at bytes = take_rest bytes at in
    let field : (i place : ℕ) → at + 4 * i ≡ place → word nodes (4 * i) ≡ word bytes place = λ i place e. ap (λ (b : List ℕ). word b (4 * i)) rest ∙ word-behind at bytes (4 * i) ∙ ap (word bytes) e in
    let count : (v : ℕ) → word nodes (4 * (3 * v)) ≡ word bytes (at + node_length * v) = λ v. field (3 * v) (at + node_length * v) (omega arith) in
    let mark : (v : ℕ) → word nodes (4 * (3 * v + 1)) ≡ word bytes (at + node_length * v + 4) = λ v. field (3 * v + 1) (at + node_length * v + 4) (omega arith) in
    let final : (v : ℕ) → word nodes (4 * (3 * v + 2)) ≡ word bytes (at + node_length * v + 8) = λ v. field (3 * v + 2) (at + node_length * v + 8) (omega arith) in
    let bits : (l : ℕ) → 4 * (4 * l + 2) ≡ link_length * l + 8 = λ l. omega arith in
    let next : (l : ℕ) → 4 * (4 * l + 3) ≡ link_length * l + 12 = λ l. omega arith in
    read-judged bytes (sizes c.before.before.before.before.before.before.before.before.before ∙ c.if-not-sizes_fit.false) t (read_trailer c.before.before.before.before.before.before.before.before.before).1 c.test_nodes-n.result c.test_links-l.result _
    (c.test_nodes-n.ensures ∙ λ i. node_tests (c.unit-unit.ensures i) t.nodes (λ v. count v i) (λ v. mark v i) (λ v. final v i))
    (c.test_links-l.ensures ∙ λ i. link_tests (c.unit-unit.ensures i) t.links t.nodes (λ l. word bytes (bits l i)) (λ l. word bytes (next l i)))
    refl

pub returns-in_default : goal.returns-in_default
returns-in_default c =
    let bytes = c.args.sheet.now in
    let short = stated-none bytes (search rules) in
    sym (answer-err (trailer_at bytes) (read_number bytes) Refusal.Layout (read-unfit bytes (sizes-short bytes short)))

pub returns-then-not-sizes_fit : goal.returns-then-not-sizes_fit
returns-then-not-sizes_fit c =
    let bytes = c.args.sheet.now in
    sym (answer-err (trailer_at bytes) (read_number bytes) Refusal.Layout (read-unfit bytes (sizes c.before.before ∙ c.if-not-sizes_fit.true)))

pub returns-in_err-judge : goal.returns-in_err-judge
returns-in_err-judge c =
    let bytes = c.args.sheet.now in
    let e = c.in_err-judge.field-0.0 in
    let made : c.from_residual.result ≡ Err e = search rules in
    made ∙ passed-on tt (trailer_at bytes) _ e (sym c.in_err-judge.was ∙ c.judge.ensures) ∙ ap (answer (trailer_at bytes)) (sym (number c.before.before.before.before))

pub returns : goal.returns
returns c =
    let bytes = c.args.sheet.now in
    let passed = (answer-some tt _ c.in_ok-judge.field-0 (sym c.in_ok-judge.was ∙ c.judge.ensures)).0 in
    ap Ok (read_trailer c.before.before.before.before.before.before.before.before.before.before.before.before).1 ∙ sym (answer-ok (trailer_at bytes) (read_number bytes) (number c.before.before.before ∙ passed))
