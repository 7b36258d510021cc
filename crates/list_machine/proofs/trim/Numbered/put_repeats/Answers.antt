use Prim.Native.Nat.{◌+◌, ◌-◌, ◌*◌}
use native.Mathlib.Omega.{arith}
use lib.ListN.{replicate, length-replicate}
use Rattle.slots.specs.Slots.{nothing}
use Rattle.list_machine.specs.TrimWords.{input_words}
use Rattle.sheet.proofs.Bytes.{stored_next}
use Rattle.list_machine.proofs.trim.Numbered.put_repeats.Goals as goal

pub returns : goal.returns
returns c =
    let args = c.args in
    let self = args.self.now in
    stored_next args.res.now c.put_nothings.new.res c.put_inputs.new.res args.at (replicate self.listed nothing) (input_words self.part.now (self.entries - 1)) (args.at + 4 * self.listed) c.put_nothings.ensures c.put_inputs.ensures (omega (arith, length-replicate self.listed nothing))
