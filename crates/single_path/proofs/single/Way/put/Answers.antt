use Prim.Native.Nat.{◌+◌, ◌*◌}
use lib.Seq.{sets}
use Rattle.sheet.specs.Words.{bytes_of_all}
use Rattle.sheet.specs.Sheet.{link_length, node_length}
use Rattle.sheet.specs.Accepted.{trailer_in, trailer_fields}
use mathlib.Core.Path.{◌∙◌}
use native.Mathlib.Omega.{arith}
use Rattle.machine.proofs.SheetFields.{fields-for}
use Rattle.sheet.specs.Records.{final_at}
use Rattle.single_path.specs.SingleWords.{way_back}
use Rattle.single_path.proofs.WayBytes.{way-stored}
use Rattle.single_path.proofs.single.Way.put.Goals as goal

pub returns : goal.returns
returns c =
    let self = c.args.self.now in
    let sheet = self.machine.sheet in
    way-stored sheet.bytes.now sheet.form (final_at sheet.bytes.now sheet.links self.end) (way_back self.work.now self.end self.end) c.args.res.now c.args.count c.unwrap_or-bits.result c.trailer.result _ _ _ _
    c.requires.counted.0 (c.unwrap_or-bits.ensures ∙ c.final_bits.ensures.bits) c.trailer.ensures c.put_links.ensures c.put_states.ensures
    (c.put.ensures ∙ λ i. sets c.put_states.new.res (link_length * c.args.count + node_length * c.args.count + node_length) (bytes_of_all (trailer_fields (c.of-trailer.ensures i)))) c.put_numbers.ensures

pub of-trailer-requires : goal.of-trailer-requires
of-trailer-requires c =
    let self = c.args.self.now in
    let s = self.machine.sheet in
    omega (arith, c.requires.counted, self.inside, (fields-for s.bytes.now self.machine.climbs (trailer_in s.links s.nodes s.start s.form) s.stated).few-nodes)
