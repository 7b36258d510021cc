use Rattle.std.proofs.Common.{◌≡◌, ℕ, List, Bool, true, false, not, cond, ◌∷◌, set, replicate, refl, sym, ap, ◌∙◌, arith}
use Rattle.std.specs.Prelude.{◌==◌, Some, None}
use Rattle.std.proofs.lemmas.List.{take_rest, set_past, length-set, length-replicate}
use Rattle.std.specs.Bool.{then_some}
use Rattle.std.specs.declared.slice.ChunksExact.{ChunksExact}
use Rattle.tropical_weight.specs.Limits.{node_limit}
use Rattle.sheet.specs.Words.{word}
use Rattle.replay_queues.specs.Records.{flagged, fields, queue_of}
use Rattle.replay_queues.proofs.Fields.{fields-more, fields-end}
use Rattle.replay_queues.proofs.records.record_of.Goals as goal

-- the back is none where its word is 0
back-of : (none : Bool) (v : ℕ) → then_some (not none) v ≡ cond none None (Some v)
back-of true v = refl
back-of false v = refl

pub loop-node-init : goal.loop-node-init
loop-node-init c =
    let rest = ap (λ (s : ChunksExact ℕ). s.rest.now) c.into_iter-node-iterator.ensures.into_iter_gives ∙ c.chunks_exact-node-items.ensures.rest ∙ take_rest c.args.words.now 12 in
    record {
      told = ap (λ (bytes : List ℕ). flagged (replicate node_limit false) (fields bytes)) rest;
      size = ap (λ (s : ChunksExact ℕ). s.size) c.into_iter-node-iterator.ensures.into_iter_gives ∙ c.chunks_exact-node-items.ensures.size;
      count = length-replicate node_limit false;
    }

pub loop-node-preserved-then-v-lt-NODE_LIMIT : goal.loop-node-preserved-then-v-lt-NODE_LIMIT
loop-node-preserved-then-v-lt-NODE_LIMIT c =
    let inv = c.loop-node.invariant in
    let flags = c.loop-node.flags in
    let four = c.in-Some.node.now in
    let gives = c.in-Some.ensures.steps in
    let rest = c.next.new.self.rest.now in
    let more : fields c.loop-node.node-iterator.rest.now ≡ word four 0 ∷ fields rest = ap fields gives.1.0 ∙ fields-more four rest (gives.1.1 ∙ inv.size) in
    record {
      told = ap (λ v. flagged (set flags v true) (fields rest)) c.word-v.ensures ∙ sym (ap (flagged flags) more) ∙ inv.told;
      size = gives.0 ∙ inv.size;
      count = length-set flags _ true ∙ inv.count;
    }

pub loop-node-preserved : goal.loop-node-preserved
loop-node-preserved c =
    let inv = c.loop-node.invariant in
    let flags = c.loop-node.flags in
    let four = c.in-Some.node.now in
    let gives = c.in-Some.ensures.steps in
    let rest = c.next.new.self.rest.now in
    let more : fields c.loop-node.node-iterator.rest.now ≡ word four 0 ∷ fields rest = ap fields gives.1.0 ∙ fields-more four rest (gives.1.1 ∙ inv.size) in
    record {
      told = ap (λ (l : List Bool). flagged l (fields rest)) (sym (set_past flags c.word-v.result true (omega (arith, inv.count)))) ∙ ap (λ v. flagged (set flags v true) (fields rest)) c.word-v.ensures ∙ sym (ap (flagged flags) more) ∙ inv.told;
      size = gives.0 ∙ inv.size;
      count = inv.count;
    }

pub returns : goal.returns
unfolding queue_of
returns c =
    let bytes = c.args.words.now in
    let inv = c.loop-node.invariant in
    let none = c.in-None.ensures.steps in
    let back : c.then_some.result ≡ cond (word bytes 4 == 0) None (Some (word bytes 8)) = c.then_some.ensures ∙ (λ i. then_some (not (c.word-has_back.ensures i == 0)) (c.word-2.ensures i)) ∙ back-of (word bytes 4 == 0) (word bytes 8) in
    let end = ap (flagged c.loop-node.flags) (fields-end c.loop-node.node-iterator.rest.now (omega (arith, none.1.0, inv.size))) in
    λ i. record { front = c.word.ensures i; back = back i; flags = (sym end ∙ inv.told) i }
