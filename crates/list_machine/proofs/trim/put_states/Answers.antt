use mathlib.Core.Path.{◌∙◌}
use mathlib.Core.List.{◌++◌}
use lib.Seq.{sets}
use Rattle.sheet.specs.Words.{bytes_of_all}
use Rattle.sheet.specs.Sheet.{node_length}
use Rattle.sheet.specs.Accepted.{trailer_fields}
use Prim.Native.Nat.{◌+◌, ◌*◌}
use native.Mathlib.Omega.{arith}
use Rattle.list_answer.specs.ListAnswer.{state_words}
use Rattle.list_machine.specs.TrimWords.{head_words, trailer_words}
use Rattle.sheet.proofs.Bytes.{stored_next}
use Rattle.list_answer.proofs.Stores.{length-states}
use Rattle.list_machine.proofs.trim.put_states.Goals as goal

pub returns : goal.returns
returns c =
    let args = c.args in
    let old = args.res.now in
    let heads = head_words args.listed in
    let nodes = state_words args.kept in
    let two = stored_next old c.put_words.new.bytes c.put_states.new.res args.at heads nodes (args.at + 2 * node_length) c.put_words.ensures c.put_states.ensures (omega arith) in
    stored_next old c.put_states.new.res c.put.new.res args.at (heads ++ nodes) (trailer_words args.form (args.listed + args.kept) (2 + args.kept)) (args.at + 2 * node_length + node_length * args.kept) two (c.put.ensures ∙ λ i. sets c.put_states.new.res (args.at + 2 * node_length + node_length * args.kept) (bytes_of_all (trailer_fields (c.of-trailer.ensures i)))) (omega (arith, length-states args.kept))
