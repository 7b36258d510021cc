use mathlib.Core.Path.{◌≡◌, ap, sym, ◌∙◌}
use native.Mathlib.Omega.{arith}
use lib.ListN.{length, length-append}
use Rattle.sheet.specs.Sheet.{count, parts_of}
use Rattle.row_writer.proofs.Accepted.{source-first}
use Rattle.row_writer.proofs.Measured.{row_from, texts, texts-none, texts-more, length-node}
use Rattle.row_writer.proofs.sheet_text.length_of.Goals as goal

pub loop-i-init : goal.loop-i-init
loop-i-init c =
    let node = c.args.source.now in
    let row = row_from (parts_of node.sheet.bytes.now) node.node node.first in record {
      value = omega (arith, c.final_length-size.ensures.value, ap length (texts-none row));
      most = omega (arith, c.final_length-size.ensures.upper_bound);
    }

pub loop-i-preserved : goal.loop-i-preserved
loop-i-preserved c =
    let node = c.args.source.now in
    let turn = c.loop-i in
    let row = row_from (parts_of node.sheet.bytes.now) node.node node.first in record {
      value = omega (arith, turn.invariant.value, c.link_length-size.ensures.value, ap length (texts-more row turn.i), length-append (texts row turn.i) (row turn.i));
      most = omega (arith, turn.invariant.most, c.link_length-size.ensures.upper_bound);
    }

pub returns-clause-value : goal.returns-clause-value
returns-clause-value c =
    let node = c.args.source.now in
    let p = parts_of node.sheet.bytes.now in
    let all : c.loop-i.i ≡ count p node.node = omega (arith, c.count-i-end.ensures.part) in
    c.loop-i.invariant.value ∙ sym (length-node p node.node node.first c.loop-i.i (source-first node) all)
