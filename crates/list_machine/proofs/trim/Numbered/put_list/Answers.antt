use mathlib.Core.List.{◌++◌}
use Prim.Native.Nat.{◌+◌, ◌-◌, ◌*◌}
use native.Mathlib.Omega.{arith}
use lib.ListN.{length-append}
use Rattle.sheet.specs.Sheet.{link_length, node_length}
use Rattle.list_machine.specs.TrimWords.{links_part, nodes_part, words_part}
use Rattle.list_machine.proofs.Marks.{count-le}
use Rattle.sheet.proofs.Bytes.{stored_next}
use Rattle.list_machine.proofs.Placing.{length-links_part, length-nodes_part}
use Rattle.list_machine.proofs.trim.Numbered.put_list.Goals as goal

pub put_states-requires : goal.put_states-requires
put_states-requires c =
    let self = c.args.self.now in
    let linked = self.listable.linked in
    (omega (arith, c.requires.kept, linked.some_in, linked.few, count-le self.part.now (self.entries - 1)), omega (arith, c.requires.roomy, c.put_links.auto.res))

pub returns : goal.returns
returns c =
    let self = c.args.self.now in
    let kept = c.args.kept in
    let old = c.args.res.now in
    let part = self.part.now in
    let links = links_part self.sheet.bytes.now self.sheet.links part self.entries self.listed in
    let nodes = nodes_part self.sheet.form self.listed kept in
    let long = length-links_part self.sheet.bytes.now self.sheet.links part self.entries self.listed kept c.requires.kept in
    let two = stored_next old c.put_links.new.res c.put_states.new.res 0 links nodes (link_length * (self.listed + kept)) c.put_links.ensures c.put_states.ensures (omega arith) in
    stored_next old c.put_states.new.res c.put_repeats.new.res 0 (links ++ nodes) (words_part part self.entries self.listed) (link_length * (self.listed + kept) + node_length * (2 + kept) + c.trailer.result) two c.put_repeats.ensures
    (omega (arith, length-append links nodes, length-nodes_part self.sheet.form self.listed kept, c.trailer.ensures))
