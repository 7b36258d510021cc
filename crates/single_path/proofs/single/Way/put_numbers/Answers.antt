use mathlib.Core.Path.{sym, ap, ◌∙◌}
use mathlib.Core.List.{[], ◌∷◌}
use Prim.Native.Nat.{◌+◌}
use native.Mathlib.Omega.{arith}
use lib.ListN.{length}
use lib.Seq.{sets}
use Rattle.sheet.specs.Words.{word_length}
use Rattle.sheet.proofs.Bytes.{bytes_of_all-one}
use Rattle.single_path.proofs.WriteTurns.{stored-on, stored-all}
use Rattle.single_path.proofs.single.Way.put_numbers.Goals as goal

pub loop-parent-preserved : goal.loop-parent-preserved
loop-parent-preserved c =
    let turn = c.loop-parent in
    let p = c.in-Some.parent in
    let back = c.in-Some.ensures in record {
      fell = omega (arith, back.0, turn.invariant.fell);
      room = omega (arith, c.put_word.auto.bytes, ap length back.2, turn.invariant.room);
      as_all = stored-on turn.res _ _ _ (p.link ∷ []) _ turn.next (turn.next + word_length) back.2 (omega arith) (c.put_word.ensures ∙ ap (sets turn.res turn.next) (sym (bytes_of_all-one p.link))) turn.invariant.as_all;
    }

pub returns : goal.returns
returns c =
    let turn = c.loop-parent in
    stored-all turn.res _ _ turn.next c.in_default.ensures turn.invariant.as_all
