use mathlib.Core.Path.{◌≡◌, sym, ap, ◌∙◌, subst}
use native.Mathlib.Omega.{arith}
use Prim.Native.Nat.{ℕ, ◌+◌, ◌-◌, ◌*◌, ◌≤◌, ◌<◌}
use lib.Ieee.{binary32, add, of_bits}
use lib.ListN.{length}
use Rattle.std.specs.Prelude.{unwrap_or}
use Rattle.slots.specs.Slots.{slot_length, nothing}
use Rattle.n_shortest.specs.declared.n_best.Places.{Places}
use Rattle.n_shortest.specs.declared.entry.Entry.TheVariants.{Half}
use Rattle.search_slots.specs.Slots.{next_word, weight_word, chain_word}
use Rattle.n_shortest.specs.SearchWords.{repeated, put_w, link_w, links_w, Sized}
use Rattle.n_shortest.specs.Goes.{words_of}
use Rattle.n_shortest.proofs.Keeping.{kept-same, kept-on}
use Rattle.n_shortest.proofs.Linking.{Going, next, links_end, links-none, going_on}
use Rattle.n_shortest.proofs.n_best.Search.put_links.Goals as goal

pub loop-turn-init : goal.loop-turn-init
loop-turn-init c =
    let a = c.args in
    let s = a.self.now in (
      record {
        fan = c.requires.0;
        chain = c.requires.1;
        free = c.requires.2;
        rest = ap (λ n. links_w s.places a.x a.cost n a.head (words_of s)) (let z : s.most ≡ s.most - 0 = omega arith in z);
      },
      kept-same s,
    )

pub returns-then-k : goal.returns-then-k
returns-then-k c =
    let a = c.args in
    let s = a.self.now in
    let g = c.loop-turn.invariant.0 in record {
      words = sym (g.rest ∙ links_end s.places a.x a.cost (s.most - c.loop-turn.turn) c.loop-turn.k (words_of c.loop-turn.self) c.if-k.true);
      kept = c.loop-turn.invariant.1;
    }

pub link_at-link-requires : goal.link_at-link-requires
link_at-link-requires c =
    let a = c.args in
    let s = a.self.now in
    let turn = c.loop-turn in
    let g = turn.invariant.0 in
    let d = next s.places a.x a.cost turn.k (words_of turn.self) g.fan g.chain c.if-k.false in
    subst (λ (p : Places). p.links + slot_length * turn.k + 2 < length turn.self.part.now) (sym turn.invariant.1.places) d.slot

pub put-requires : goal.put-requires
put-requires c =
    let a = c.args in
    let s = a.self.now in
    let turn = c.loop-turn in
    let g = turn.invariant.0 in
    let d = next s.places a.x a.cost turn.k (words_of turn.self) g.fan g.chain c.if-k.false in
    let free : slot_length * (turn.self.counts.entries + 1) ≤ s.places.nodes = omega (arith, g.free, d.one_more) in
    let node : turn.self.places.nodes + slot_length * c.link_at-link.result.next + 1 < length turn.self.part.now =
    subst (λ (v : ℕ). turn.self.places.nodes + slot_length * v + 1 < length turn.self.part.now) (sym c.link_at-link.ensures.next)
    (subst (λ (p : Places). p.nodes + slot_length * next_word turn.self.part.now p.links turn.k + 1 < length turn.self.part.now) (sym turn.invariant.1.places) d.node) in (
      subst (λ (p : Places). slot_length * (turn.self.counts.entries + 1) ≤ p.nodes) (sym turn.invariant.1.places) free,
      node,
    )

pub loop-turn-preserved : goal.loop-turn-preserved
loop-turn-preserved c =
    let a = c.args in
    let s = a.self.now in
    let turn = c.loop-turn in
    let w = words_of turn.self in
    let places = turn.invariant.1.places in
    let link = c.link_at-link in
    let sum = c.times.ensures.same ∙ ap (add binary32 a.cost) link.ensures.weight in
    let from : link.result.next ≡ next_word w.part s.places.links turn.k = link.ensures.next ∙ ap (λ (p : Places). next_word w.part p.links turn.k) places in
    let cost : c.times.result ≡ add binary32 a.cost (of_bits binary32 (weight_word w.part s.places.links turn.k)) = sum ∙ ap (λ (p : Places). add binary32 a.cost (of_bits binary32 (weight_word w.part p.links turn.k))) places in
    let input : unwrap_or c.input_of.result nothing ≡ repeated s.places.inputs turn.k = c.input_of.ensures ∙ ap (λ (p : Places). repeated p.inputs turn.k) places in
    let whole : words_of c.put.new.self ≡ link_w s.places a.x a.cost turn.k w = c.put.ensures.words ∙ (λ i. put_w (places i).nodes (Half (from i) (cost i)) a.x (input i) w) in
    let on : link.result.chain ≡ chain_word w.part s.places.links turn.k = link.ensures.chain ∙ ap (λ (p : Places). chain_word w.part p.links turn.k) places in
    let kept = c.put.ensures.kept in
    let sized : Sized s.places w = subst (λ p. Sized p w) places turn.self.sized in (
      subst (λ k. Going s.places a.x a.cost s.most a.head (words_of s) (turn.turn + 1) k (words_of c.put.new.self)) (sym on)
          (going_on s.places a.x a.cost s.most a.head (words_of s) turn.turn turn.k w sized turn.invariant.0 (omega arith) c.if-k.false (words_of c.put.new.self) whole),
      kept-on turn.invariant.1 (record { places = kept.places; n = kept.n; most = kept.most; same = kept.same }),
    )

pub returns : goal.returns
returns c =
    let a = c.args in
    let s = a.self.now in
    let turn = c.loop-turn in
    let g = turn.invariant.0 in
    let w = words_of turn.self in
    let z : s.most - turn.turn ≡ 0 = omega arith in record {
      words = sym (g.rest ∙ ap (λ n. links_w s.places a.x a.cost n turn.k w) z ∙ links-none s.places a.x a.cost turn.k w);
      kept = turn.invariant.1;
    }
