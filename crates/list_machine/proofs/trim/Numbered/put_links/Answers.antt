use Prim.Native.Nat.{◌-◌, ◌*◌}
use native.Mathlib.Omega.{arith}
use Rattle.sheet.specs.Sheet.{link_length}
use Rattle.list_machine.specs.TrimWords.{start_words, link_words}
use Rattle.sheet.proofs.Bytes.{stored_next}
use Rattle.list_machine.proofs.Placing.{length-start}
use Rattle.list_machine.proofs.trim.Numbered.put_links.Goals as goal

pub returns : goal.returns
returns c =
    let self = c.args.self.now in
    let part = self.part.now in
    stored_next c.args.res.now c.put_start_links.new.res c.put_entry_links.new.res 0 (start_words part self.listed) (link_words self.sheet.bytes.now self.sheet.links part (self.entries - 1)) (link_length * self.listed)
    c.put_start_links.ensures c.put_entry_links.ensures (omega (arith, length-start part self.listed))
