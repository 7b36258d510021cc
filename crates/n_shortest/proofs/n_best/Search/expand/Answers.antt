use mathlib.Core.Path.{◌≡◌, sym, ap, ◌∙◌, subst}
use mathlib.Core.Bool.{Bool, cond}
use Prim.Native.Nat.{ℕ, ◌+◌, ◌*◌, ◌≤◌}
use native.Mathlib.Omega.{arith}
use borrow.Author.Tests.{eq-eqb}
use Rattle.n_shortest.specs.declared.n_best.Places.{Places}
use Rattle.n_shortest.specs.declared.entry.Entry.TheVariants.{Finished}
use Rattle.slots.specs.Slots.{slot_length, nothing}
use Rattle.search_slots.specs.Slots.{head_word}
use Rattle.n_shortest.specs.SearchWords.{put_w}
use Rattle.n_shortest.specs.Goes.{words_of}
use Rattle.n_shortest.proofs.Keeping.{kept-on}
use Rattle.n_shortest.proofs.Linking.{Linked, linked, expand-end, expand-on}
use Rattle.n_shortest.proofs.n_best.Search.expand.Goals as goal

pub put-requires : goal.put-requires
put-requires c =
    let a = c.args in
    let s = a.self.now in
    let made = c.put_links.ensures in
    let e = c.requires in
    let l = subst (λ w. Linked s.places a.x a.cost (words_of s) w e.fan) (sym made.words) (linked s.places a.x a.cost s.most (head_word s.part.now s.places.nodes a.v) (words_of s) e.fan s.sized e.chain (omega (arith, e.free))) in
    let end : a.v ≡ s.places.end = c.if-v-self.true ∙ ap (λ (p : Places). p.end) made.kept.places in
    let one = ap {B = ℕ} (λ (b : Bool). cond b 1 0) (eq-eqb a.v s.places.end end) in
    let free : slot_length * (c.put_links.new.self.counts.entries + 1) ≤ s.places.nodes = omega (arith, l.few, e.free, one) in
    (subst (λ (p : Places). slot_length * (c.put_links.new.self.counts.entries + 1) ≤ p.nodes) (sym made.kept.places) free, tt)

pub returns-then-v-self : goal.returns-then-v-self
returns-then-v-self c =
    let a = c.args in
    let s = a.self.now in
    let made = c.put_links.ensures in
    let end : a.v ≡ s.places.end = c.if-v-self.true ∙ ap (λ (p : Places). p.end) made.kept.places in record {
      words = c.put.ensures.words ∙ (λ i. put_w (made.kept.places i).nodes (Finished a.cost) a.x nothing (made.words i)) ∙ sym (expand-end s.places s.most a.x a.v a.cost (words_of s) end);
      kept = kept-on made.kept c.put.ensures.kept;
    }

pub returns-else-v-self : goal.returns-else-v-self
returns-else-v-self c =
    let a = c.args in
    let s = a.self.now in
    let made = c.put_links.ensures in record {
      words = made.words ∙ sym (expand-on s.places s.most a.x a.v a.cost (words_of s) (λ e. c.if-v-self.false (e ∙ sym (ap (λ (p : Places). p.end) made.kept.places))));
      kept = made.kept;
    }
