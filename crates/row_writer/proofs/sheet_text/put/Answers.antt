use mathlib.Core.Path.{◌≡◌, ap, sym, ◌∙◌}
use native.Mathlib.Omega.{arith}
use lib.ListN.{length}
use Rattle.sheet.specs.Sheet.{count, parts_of}
use Rattle.decimals.proofs.Storing.{puts-same, puts_then}
use Rattle.row_writer.proofs.Accepted.{source-first}
use Rattle.row_writer.proofs.Stored.{puts_none}
use Rattle.row_writer.proofs.Measured.{row_from, texts-none, texts-more, next_fits, node-is, length-node}
use Rattle.row_writer.proofs.sheet_text.put.Goals as goal

pub loop-i-init : goal.loop-i-init
loop-i-init c =
    let node = c.args.source.now in
    puts-same (sym (texts-none (row_from (parts_of node.sheet.bytes.now) node.node node.first))) (puts_none c.args.res.now c.args.at)

pub put_text-next-requires : goal.put_text-next-requires
put_text-next-requires c =
    let node = c.args.source.now in
    let p = parts_of node.sheet.bytes.now in
    let n = c.count-i-end in
    let row = row_from p node.node node.first in
    omega (arith, c.loop-i.invariant.ends, ap length (c.bytes.ensures.value ∙ c.link_row-row.ensures.text), next_fits row c.loop-i.i n.result (omega arith), length-node p node.node node.first n.result (source-first node) n.ensures.part, c.requires.text_in_bounds)

pub loop-i-preserved : goal.loop-i-preserved
loop-i-preserved c =
    let node = c.args.source.now in
    let row = row_from (parts_of node.sheet.bytes.now) node.node node.first in
    puts-same (sym (texts-more row c.loop-i.i)) (puts_then c.loop-i.invariant (puts-same (c.bytes.ensures.value ∙ c.link_row-row.ensures.text) c.put_text-next.ensures))

pub put_text-requires : goal.put_text-requires
put_text-requires c =
    let node = c.args.source.now in
    let p = parts_of node.sheet.bytes.now in
    let all : c.loop-i.i ≡ count p node.node = omega (arith, c.count-i-end.ensures.part) in
    omega (arith, c.loop-i.invariant.ends, ap length (c.bytes-2.ensures.value ∙ c.final_row.ensures.text), length-node p node.node node.first c.loop-i.i (source-first node) all, c.requires.text_in_bounds)

pub returns : goal.returns
returns c =
    let node = c.args.source.now in
    let p = parts_of node.sheet.bytes.now in
    let all : c.loop-i.i ≡ count p node.node = omega (arith, c.count-i-end.ensures.part) in
    puts-same (sym (node-is p node.node node.first c.loop-i.i (source-first node) all)) (puts_then c.loop-i.invariant (puts-same (c.bytes-2.ensures.value ∙ c.final_row.ensures.text) c.put_text.ensures))
