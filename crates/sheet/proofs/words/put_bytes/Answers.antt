use mathlib.Core.Path.{ap, ◌∙◌}
use mathlib.Core.List.{List}
use Prim.Native.Nat.{ℕ, ◌+◌, ◌-◌}
use native.Mathlib.Omega.{arith}
use lib.ListN.{length}
use borrow.Rule.Slice.PartMut.{put_mid}
use Rattle.sheet.proofs.Bytes.{put_mid-sets}
use Rattle.sheet.proofs.words.put_bytes.Goals as goal

pub returns : goal.returns
returns c =
    let at = c.args.at in
    let l = c.args.bytes.now in
    let from = c.args.from.now in
    ap (λ (xs : List ℕ). put_mid at (at + length from - at) l xs) c.copy_from_slice.ensures.after
    ∙ put_mid-sets l from at (at + length from - at) (omega arith) (omega (arith, c.requires))
