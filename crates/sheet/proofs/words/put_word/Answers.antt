use mathlib.Core.Path.{ap, ◌∙◌}
use mathlib.Core.List.{List}
use Prim.Native.Nat.{ℕ, ◌+◌, ◌-◌}
use native.Mathlib.Omega.{arith}
use borrow.Rule.Slice.PartMut.{put_mid}
use Rattle.sheet.specs.Words.{bytes_of}
use Rattle.sheet.proofs.Bytes.{put_mid-sets}
use Rattle.sheet.proofs.words.put_word.Goals as goal

pub returns : goal.returns
unfolding bytes_of
returns c =
    let at = c.args.at in
    let l = c.args.bytes.now in
    ap (λ (xs : List ℕ). put_mid at (at + 4 - at) l xs) (c.copy_from_slice.ensures.after ∙ c.to_le_bytes.ensures)
    ∙ put_mid-sets l (bytes_of c.args.word) at (at + 4 - at) (omega arith) (omega arith)
