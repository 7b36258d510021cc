use mathlib.Core.Path.{◌≡◌, sym, ap, ◌∙◌, subst}
use mathlib.Core.Bool.{true}
use Prim.Native.Nat.{◌-◌, ◌<◌}
use native.Mathlib.Omega.{arith}
use lib.Ieee.{binary32, of_bits}
use Rattle.slots.specs.Slots.{nothing}
use Rattle.n_shortest.specs.declared.entry.Entry.TheVariants.{Half}
use Rattle.n_shortest.specs.SearchWords.{put_w, stopped_w, step_w, after_w, begun_w, Ready}
use Rattle.n_shortest.specs.Goes.{words_of}
use Rattle.n_shortest.proofs.Keeping.{kept-on}
use Rattle.n_shortest.proofs.Taking.{after_none, after-stopped, turns-on, stopped-heap, stopped-list, stopped-not}
use Rattle.n_shortest.proofs.n_best.Search.run.Goals as goal
use Rattle.n_shortest.proofs.n_best.Search.run.Goals.{then-self-eq0-via-then-self-eq0, then-self-eq0-via-else-self-eq0+then-self}

pub loop-turn-init : goal.loop-turn-init
unfolding begun_w
loop-turn-init c =
    let s = c.args.self.now in
    let w = words_of c.put.new.self in
    let first : w ≡ begun_w s.places s.part.now = c.put.ensures.words ∙ (λ i. put_w s.places.nodes (Half 0 (of_bits binary32 0)) 0 nothing (c.requires.0 i)) in
    let kept = c.put.ensures.kept in (
      record {
        now-at = first ∙ sym (after_none s.places s.n s.most (begun_w s.places s.part.now));
        rest = ap (λ w. after_w s.places s.n s.most c.args.allowed w) (sym first) ∙ ap (λ k. after_w s.places s.n s.most k w) (let z : c.args.allowed ≡ c.args.allowed - 0 = omega arith in z);
      },
      record { places = kept.places; n = kept.n; most = kept.most; same = kept.same },
    )

pub returns-then-self-eq0 : goal.returns-then-self-eq0
returns-then-self-eq0 c =
    let s = c.args.self.now in
    let turn = c.loop-turn in
    let t = turn.invariant.0 in
    let k = turn.invariant.1 in
    let v = words_of turn.self in
    let stopped : stopped_w s.n v ≡ true = elim c.then-self-eq0.branch [ then-self-eq0-via-then-self-eq0 w ↦ stopped-heap s.n v w.if-self-eq0.true | then-self-eq0-via-else-self-eq0+then-self w ↦ stopped-list s.n v (omega (arith, w.if-self.true, k.n)) ] in record {
      words = sym (t.rest ∙ after-stopped s.places s.n s.most (c.args.allowed - turn.turn) v stopped);
      kept = k;
    }

pub step-requires : goal.step-requires
step-requires c =
    let s = c.args.self.now in
    let turn = c.loop-turn in
    let t = turn.invariant.0 in
    let k = turn.invariant.1 in
    let w = words_of turn.self in
    let more : w.counts.listed < s.n = omega (arith, c.if-self.false, k.n) in
    let on = stopped-not s.n w c.if-self-eq0.false more in
    let ready = c.requires.2 turn.turn (sym (ap (stopped_w s.n) t.now-at) ∙ on) in
    (subst (λ p. Ready p turn.self.n w) (sym k.places) (subst (λ n. Ready s.places n w) (sym k.n) (subst (Ready s.places s.n) (sym t.now-at) ready)), omega (arith, c.if-self-eq0.false))

pub loop-turn-preserved : goal.loop-turn-preserved
loop-turn-preserved c =
    let s = c.args.self.now in
    let turn = c.loop-turn in
    let t = turn.invariant.0 in
    let k = turn.invariant.1 in
    let w = words_of turn.self in
    let more : w.counts.listed < s.n = omega (arith, c.if-self.false, k.n) in
    let on = stopped-not s.n w c.if-self-eq0.false more in
    let stepped : words_of c.step.new.self ≡ step_w s.places s.n s.most w = c.step.ensures.words ∙ (λ i. step_w (k.places i) (k.n i) (k.most i) w) in
    (turns-on s.places s.n s.most c.args.allowed (begun_w s.places s.part.now) turn.turn w (words_of c.step.new.self) t (omega arith) on stepped, kept-on k c.step.ensures.kept)
