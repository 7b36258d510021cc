use mathlib.Core.Path.{◌≡◌, sym, ap, ◌∙◌}
use mathlib.Core.Bool.{Bool, true, cond}
use mathlib.Core.List.{List, [], ◌++◌}
use Prim.Native.Nat.{ℕ, ◌+◌, ◌<◌}
use native.Mathlib.Omega.{arith}
use lib.ListN.{length}
use borrow.Author.Tests.{eq-eqb, ne_eqb}
use Rattle.sheet.specs.declared.accepted.Sheet.{Sheet}
use Rattle.sheet.specs.declared.source.Source.{Source}
use Rattle.sheet.specs.declared.source.Sources.{Sources}
use Rattle.sheet.specs.Sheet.{node_count, parts_of}
use Rattle.decimals.specs.Stored.{Puts}
use Rattle.decimals.proofs.Storing.{puts-same, puts_then}
use Rattle.text_rows.specs.Written.{has_rows, node_rows}
use Rattle.text_rows.proofs.HasRows.{start-below}
use Rattle.row_writer.specs.OtherRows.{other_rows}
use Rattle.row_writer.proofs.Stored.{puts_none}
use Rattle.row_writer.proofs.Accepted.{nodes-are, start_is, short-of}
use Rattle.row_writer.proofs.Measured.{rows-same, texts, texts-none, texts-more, text-is, start_fits_lem, other_fits}
use Rattle.row_writer.proofs.sheet_text.put_rows.Goals as goal

start-in : (s : Sheet) → has_rows (parts_of s.bytes.now) ≡ true → s.start < s.nodes
start-in s rows = omega (arith, start_is s, nodes-are s, start-below (parts_of s.bytes.now) rows)

-- a node's own rows, where it is not the start, and none for the start
own : (s : Sheet) (r : Source) (v : ℕ) → r.sheet ≡ s → r.node ≡ v → (v ≡ s.start → ⊥) → node_rows (parts_of r.sheet.bytes.now) r.node ≡ other_rows (parts_of s.bytes.now) v
own s r v e h n =
    let p = parts_of s.bytes.now in
    rows-same r.sheet s r.node v e h ∙ sym (ap (λ (b : Bool). cond b [] (node_rows p v)) (ne_eqb v p.start (λ z. n (z ∙ sym (start_is s)))))

none : (s : Sheet) (v : ℕ) → v ≡ s.start → [] ≡ other_rows (parts_of s.bytes.now) v
none s v e =
    let p = parts_of s.bytes.now in
    sym (ap (λ (b : Bool). cond b [] (node_rows p v)) (eq-eqb v p.start (e ∙ start_is s)))

-- the texts of the nodes before, and of one more
next-puts : (s : Sheet) (v : ℕ) {next : ℕ} {old res new : List ℕ} {at middle end : ℕ} → next ≡ v + 1 → Puts old at (texts (other_rows (parts_of s.bytes.now)) v) res middle → Puts res middle (other_rows (parts_of s.bytes.now) v) new end
    → Puts old at (texts (other_rows (parts_of s.bytes.now)) next) new end
next-puts s v e before puts = puts-same (sym (ap (texts (other_rows (parts_of s.bytes.now))) e ∙ texts-more (other_rows (parts_of s.bytes.now)) v)) (puts_then before puts)

pub returns-in_default : goal.returns-in_default
returns-in_default c = absurd (omega (arith, start-in c.args.sheet.now c.requires.rows, c.start_of.ensures.none c.in_default.is))

-- the start's rows, as its source has them
start-rows : (s : Sheet) (r : Source) → (r.sheet ≡ s) × (r.node ≡ s.start) → node_rows (parts_of r.sheet.bytes.now) r.node ≡ node_rows (parts_of s.bytes.now) (parts_of s.bytes.now).start
start-rows s r e = rows-same r.sheet s r.node (parts_of s.bytes.now).start e.0 (e.1 ∙ start_is s)

pub put-next-requires-clause-short : goal.put-next-requires-clause-short
put-next-requires-clause-short c = short-of c.args.sheet.now c.in-Some.start.sheet c.requires.rows c.in-Some.ensures.same.0

pub put-next-requires-clause-text_in_bounds : goal.put-next-requires-clause-text_in_bounds
put-next-requires-clause-text_in_bounds c =
    let s = c.args.sheet.now in
    omega (arith, ap length (start-rows s c.in-Some.start c.in-Some.ensures.same), start_fits_lem (parts_of s.bytes.now), c.requires.text_in_bounds)

pub loop-source-init : goal.loop-source-init
loop-source-init c =
    let same = c.into_iter-source-iterator.ensures.into_iter_gives in
    let made = c.new-source-items.ensures in
    let other = other_rows (parts_of c.args.sheet.now.bytes.now) in record {
      same = ap (λ (t : Sources). t.sheet) same ∙ made.0;
      puts = puts-same (sym (ap (texts other) (ap (λ (t : Sources). t.node) same ∙ made.1) ∙ texts-none other)) (puts_none _ c.put-next.result);
    }

pub put-next-requires-then-source-start-clause-short : goal.put-next-requires-then-source-start-clause-short
put-next-requires-then-source-start-clause-short c = short-of c.args.sheet.now c.in-Some-source.source.sheet c.requires.rows (c.in-Some-source.ensures.steps.1 ∙ c.loop-source.invariant.same)

pub put-next-requires-then-source-start-clause-text_in_bounds : goal.put-next-requires-then-source-start-clause-text_in_bounds
put-next-requires-then-source-start-clause-text_in_bounds c =
    let s = c.args.sheet.now in
    let p = parts_of s.bytes.now in
    let it = c.loop-source.source-iterator in
    let steps = c.in-Some-source.ensures.steps in
    let same = c.loop-source.invariant.same in
    let rows = own s c.in-Some-source.source it.node (steps.1 ∙ same) steps.2 (λ e. c.if-source-start.true (steps.2 ∙ e ∙ sym c.in-Some.ensures.same.1)) in
    omega (arith, ap length (start-rows s c.in-Some.start c.in-Some.ensures.same), c.loop-source.invariant.puts.ends, c.put-next.ensures.ends, ap length rows, other_fits p it.node (omega (arith, steps.0, nodes-are s, ap (λ (t : Sheet). t.nodes) same)), c.requires.text_in_bounds)

pub loop-source-preserved-then-source-start : goal.loop-source-preserved-then-source-start
loop-source-preserved-then-source-start c =
    let s = c.args.sheet.now in
    let it = c.loop-source.source-iterator in
    let steps = c.in-Some-source.ensures.steps in
    let same = c.loop-source.invariant.same in
    let rows = own s c.in-Some-source.source it.node (steps.1 ∙ same) steps.2 (λ e. c.if-source-start.true (steps.2 ∙ e ∙ sym c.in-Some.ensures.same.1)) in
    record { same = steps.4 ∙ same; puts = next-puts s it.node steps.5 c.loop-source.invariant.puts (puts-same rows c.put-next-then-source-start.ensures) }

pub loop-source-preserved : goal.loop-source-preserved
loop-source-preserved c =
    let s = c.args.sheet.now in
    let turn = c.loop-source in
    let it = turn.source-iterator in
    let steps = c.in-Some-source.ensures.steps in
    record { same = steps.4 ∙ turn.invariant.same; puts = next-puts s it.node steps.5 turn.invariant.puts (puts-same (none s it.node (sym steps.2 ∙ c.if-source-start.false ∙ c.in-Some.ensures.same.1)) (puts_none turn.res turn.next)) }

pub returns : goal.returns
returns c =
    let s = c.args.sheet.now in
    let p = parts_of s.bytes.now in
    let it = c.loop-source.source-iterator in
    let all : it.node ≡ node_count p = c.in-None.ensures.steps.0 ∙ ap (λ (t : Sheet). t.nodes) c.loop-source.invariant.same ∙ nodes-are s in
    let text = ap (λ (t : List ℕ). t ++ texts (other_rows p) it.node) (start-rows s c.in-Some.start c.in-Some.ensures.same) ∙ sym (text-is p it.node all) in
    (puts-same text (puts_then c.put-next.ensures c.loop-source.invariant.puts)).stored
