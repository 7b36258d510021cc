use mathlib.Core.Path.{◌≡◌, sym, ap, ◌∙◌}
use Prim.Native.Nat.{ℕ}
use native.Mathlib.Omega.{arith}
use lib.ListN.{length}
use Rattle.sheet.specs.declared.accepted.Sheet.{Sheet}
use Rattle.sheet.specs.declared.source.Sources.{Sources}
use Rattle.sheet.specs.Below.{sum_below}
use Rattle.sheet.specs.Records.{count_at}
use Rattle.sheet.specs.Sheet.{node_count, parts_of}
use Rattle.sheet.proofs.NodeSources.{first-within}
use Rattle.text_rows.specs.Written.{node_rows}
use Rattle.text_rows.proofs.HasRows.{start-below}
use Rattle.row_writer.proofs.Accepted.{nodes-are, short-of}
use Rattle.row_writer.proofs.Measured.{length-text, sum_more, rows-same}
use Rattle.row_writer.proofs.sheet_text.text_length.Goals as goal

counts-same : (s t : Sheet) (u v : ℕ) → s ≡ t → u ≡ v → count_at s.bytes.now s.links u ≡ count_at t.bytes.now t.links v
counts-same s t u v e h i = count_at (e i).bytes.now (e i).links (h i)

pub loop-source-init : goal.loop-source-init
unfolding sum_below
loop-source-init c =
    let same = c.into_iter-source-iterator.ensures.into_iter_gives in
    let made = c.new-source-items.ensures in record {
      same = ap (λ (t : Sources). t.sheet) same ∙ made.0;
      value = sym (ap (λ (n : ℕ). sum_below n (λ u. length (node_rows (parts_of c.args.sheet.now.bytes.now) u))) (ap (λ (t : Sources). t.node) same ∙ made.1));
      most = omega arith;
    }

pub length_of-size-requires : goal.length_of-size-requires
length_of-size-requires c = short-of c.args.sheet.now c.in-Some.source.sheet c.requires (c.in-Some.ensures.steps.1 ∙ c.loop-source.invariant.same)

pub overflow_add-size : goal.overflow_add-size
overflow_add-size c =
    let it = c.loop-source.source-iterator in
    let s = it.sheet in
    let steps = c.in-Some.ensures.steps in
    omega (arith, c.loop-source.invariant.most, c.length_of-size.ensures.upper_bound, counts-same c.in-Some.source.sheet s c.in-Some.source.node it.node steps.1 steps.2, it.begins, first-within s.bytes.now s.links s.nodes s.start s.form s.accepted s.stated it.node steps.0)

pub loop-source-preserved : goal.loop-source-preserved
loop-source-preserved c =
    let s = c.args.sheet.now in
    let turn = c.loop-source in
    let it = turn.source-iterator in
    let r = c.in-Some.source in
    let steps = c.in-Some.ensures.steps in
    let rows = rows-same r.sheet s r.node it.node (steps.1 ∙ turn.invariant.same) steps.2 in
    record {
      same = steps.4 ∙ turn.invariant.same;
      value = omega (arith, turn.invariant.value, c.length_of-size.ensures.value, ap length rows, sum_more (λ u. length (node_rows (parts_of s.bytes.now) u)) it.node, ap (λ (n : ℕ). sum_below n (λ u. length (node_rows (parts_of s.bytes.now) u))) steps.5);
      most = omega (arith, turn.invariant.most, c.length_of-size.ensures.upper_bound, counts-same r.sheet it.sheet r.node it.node steps.1 steps.2, steps.5, steps.6);
    }

pub returns : goal.returns
returns c =
    let s = c.args.sheet.now in
    let p = parts_of s.bytes.now in
    let it = c.loop-source.source-iterator in
    let all : it.node ≡ node_count p = c.in-None.ensures.steps.0 ∙ ap (λ (t : Sheet). t.nodes) c.loop-source.invariant.same ∙ nodes-are s in
    c.loop-source.invariant.value ∙ ap (λ (k : ℕ). sum_below k (λ u. length (node_rows p u))) all ∙ sym (length-text p (start-below p c.requires))
