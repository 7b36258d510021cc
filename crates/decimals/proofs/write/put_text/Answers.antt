use mathlib.Core.Path.{refl}
use Rattle.decimals.proofs.Storing.{copied-sets}
use Rattle.decimals.proofs.write.put_text.Goals as goal

pub returns : goal.returns
returns c =
    let args = c.args in
    record { stored = copied-sets args.out.now c.copy_from_slice.new.self args.text.now args.at c.copy_from_slice.ensures.after c.requires; ends = refl }
