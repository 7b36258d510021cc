use mathlib.Core.Path.{◌≡◌, sym, ap, ◌∙◌}
use mathlib.Core.List.{List}
use Prim.Native.Nat.{ℕ, ◌+◌, ◌*◌}
use native.Mathlib.Omega.{arith}
use lib.Seq.{sets}
use Rattle.sheet.specs.Words.{bytes_of_all}
use Rattle.machine.specs.Readings.{final}
use Rattle.product.specs.Joins.{join_below}
use Rattle.product.proofs.Fields.{product-nodes}
use Rattle.two_probes.specs.Held.{allowed_by, unit_by, node_record}
use Rattle.two_probes.proofs.Kept.{a, b, many-nodes}
use Rattle.two_probes.proofs.Records.{nodes-joined, records-none, records-more, length-final}
use Rattle.sheet.specs.Sheet.{node_length}
use Rattle.two_probes.proofs.both.Both.put_nodes.Goals as goal

pub loop-v-init : goal.loop-v-init
loop-v-init c = let x = c.args.self.now in records-none c.args.res.now c.args.at (node_record (unit_by x) (allowed_by x))

pub loop-v-preserved : goal.loop-v-preserved
loop-v-preserved c =
    let x = c.args.self.now in
    let m = allowed_by x in
    let turn = c.loop-v in
    c.put_words.ensures ∙ ap (λ (w : List ℕ). sets turn.res (c.args.at + node_length * turn.v) (bytes_of_all w)) c.node.ensures
    ∙ records-more c.args.res.now turn.res c.args.at 3 turn.v (c.args.at + node_length * turn.v) (node_record (unit_by x) m) (λ v. omega (arith, length-final (unit_by x) (final m v))) turn.invariant (omega arith)

pub returns : goal.returns
returns c =
    let x = c.args.self.now in
    let m = allowed_by x in
    let all : c.loop-v.v ≡ c.nodes-v-end.result = omega arith in
    c.loop-v.invariant
    ∙ ap (λ (w : List ℕ). sets c.args.res.now c.args.at (bytes_of_all w)) (ap (λ (n : ℕ). join_below n (node_record (unit_by x) m)) (all ∙ c.nodes-v-end.ensures.value ∙ sym (many-nodes x) ∙ sym (product-nodes (a x) (b x))) ∙ nodes-joined (unit_by x) m)
