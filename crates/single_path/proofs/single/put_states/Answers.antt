use mathlib.Core.List.{[], ◌∷◌}
use Prim.Native.Nat.{◌+◌}
use native.Mathlib.Omega.{arith}
use Rattle.sheet.specs.Sheet.{node_length}
use Rattle.list_answer.specs.ListAnswer.{state_words}
use Rattle.sheet.proofs.Bytes.{stored_next}
use Rattle.single_path.proofs.single.put_states.Goals as goal

pub returns : goal.returns
returns c =
    let args = c.args in
    stored_next args.res.now c.put_words.new.bytes c.put_states.new.res args.at (0 ∷ 1 ∷ args.bits ∷ []) (state_words args.count) (args.at + node_length) c.put_words.ensures c.put_states.ensures (omega arith)
