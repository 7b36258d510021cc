-- The links of a node put in, one after the other along their chain. Assumes nothing.
use mathlib.Core.Path.{◌≡◌, refl, sym, ap, ◌∙◌, subst}
use mathlib.Core.Bool.{Bool, cond}
use mathlib.Core.List.{List}
use Prim.Native.Nat.{ℕ, zero, suc, ◌+◌, ◌-◌, ◌*◌, ◌≤◌, ◌<◌}
use native.Mathlib.Decide.{ℕ_discrete}
use native.Mathlib.Omega.{arith}
use lib.Ieee.{Float, binary32, add, of_bits}
use lib.ListN.{length, get_or}
use borrow.Author.Tests.{eq-eqb, ne_eqb}
use Rattle.n_shortest.specs.declared.n_best.Places.{Places}
use Rattle.n_shortest.specs.declared.entry.Entry.{Entry}
use Rattle.n_shortest.specs.declared.entry.Entry.TheVariants.{Half, Finished}
use Rattle.slots.specs.Slots.{slot_length, nothing}
use Rattle.search_slots.specs.Slots.{head_word, next_word, weight_word, chain_word}
use Rattle.n_shortest.specs.SearchWords.{Words, repeated, put_w, link_w, links_w, expand_w, Sized, Chain}
use Rattle.n_shortest.proofs.Putting.{put_entries, put-beyond, sized-put, length-put}

-- ---- a chain in a part whose links are the same
pub chain_same : (p : Places) (a b : List ℕ) → length a ≡ length b → ((j : ℕ) → p.links ≤ j → get_or a j 0 ≡ get_or b j 0) → (n k : ℕ) → Chain p a n k → Chain p b n k
unfolding Chain
chain_same p a b l f zero k h = h
chain_same p a b l f (suc n) k h =
    let next : next_word a p.links k ≡ next_word b p.links k = f (p.links + slot_length * k) (omega arith) in
    let on : chain_word a p.links k ≡ chain_word b p.links k = f (p.links + slot_length * k + 2) (omega arith) in
    (omega (arith, h.0, l), omega (arith, h.1, l, next), chain_same p a b l f n (chain_word b p.links k) (subst (Chain p a n) on h.2))

module _ (p : Places) (x : ℕ) (cost : Float) where
  pub links-none : (k : ℕ) (s : Words) → links_w p x cost 0 k s ≡ s
  unfolding links_w
  links-none k s = refl

  pub links_end : (n k : ℕ) (s : Words) → k ≡ nothing → links_w p x cost n k s ≡ s
  unfolding links_w
  links_end zero k s e = refl
  links_end (suc n) k s e = ap (λ (b : Bool). cond b s (links_w p x cost n (chain_word s.part p.links k) (link_w p x cost k s))) (eq-eqb k nothing e)

  pub links-step : (n k : ℕ) (s : Words) → (k ≡ nothing → ⊥) → links_w p x cost (suc n) k s ≡ links_w p x cost n (chain_word s.part p.links k) (link_w p x cost k s)
  unfolding links_w
  links-step n k s e = ap (λ (b : Bool). cond b s (links_w p x cost n (chain_word s.part p.links k) (link_w p x cost k s))) (ne_eqb k nothing e)

  -- ---- after so many turns
  pub record Going (most head : ℕ) (s₀ : Words) (turn k : ℕ) (s : Words) : Type 0 where
    pub fan : ℕ
    pub chain : Chain p s.part fan k
    pub free : slot_length * (s.counts.entries + fan) ≤ p.nodes
    pub rest : links_w p x cost most head s₀ ≡ links_w p x cost (most - turn) k s

  -- the link that is next, and the room for its entry
  pub record Next (k : ℕ) (s : Words) (fan : ℕ) : Type 0 where
    pub slot : p.links + slot_length * k + 2 < length s.part
    pub node : p.nodes + slot_length * next_word s.part p.links k + 1 < length s.part
    pub fewer : ℕ
    pub one_more : fan ≡ suc fewer
    pub chain : Chain p s.part fewer (chain_word s.part p.links k)

  pub next : (k : ℕ) (s : Words) (fan : ℕ) → Chain p s.part fan k → (k ≡ nothing → ⊥) → Next k s fan
  unfolding Chain
  next k s zero h e = absurd (e h)
  next k s (suc n) h e = record { slot = h.0; node = h.1; fewer = n; one_more = refl; chain = h.2 }

  module _ (most head : ℕ) (s₀ : Words) (turn k : ℕ) (s : Words) (z : Sized p s) (g : Going most head s₀ turn k s) (more : turn < most) (on : k ≡ nothing → ⊥) where
    abbrev d : Next k s g.fan
    d = next k s g.fan g.chain on

    abbrev by : Entry
    by = Half (next_word s.part p.links k) (add binary32 cost (of_bits binary32 (weight_word s.part p.links k)))

    free_one : slot_length * (s.counts.entries + 1) ≤ p.nodes
    free_one = omega (arith, g.free, d.one_more)

    pub going_on : (y : Words) → y ≡ link_w p x cost k s → Going most head s₀ (turn + 1) (chain_word s.part p.links k) y
    going_on y e = subst (Going most head s₀ (turn + 1) (chain_word s.part p.links k)) (sym e) (record {
      fan = d.fewer;
      chain = chain_same p s.part (link_w p x cost k s).part (sym (length-put p s by x (repeated p.inputs k) z free_one)) (λ j b. sym (put-beyond p s by x (repeated p.inputs k) z free_one j (omega (arith, z.after)))) d.fewer (chain_word s.part p.links k) d.chain;
      free = omega (arith, g.free, d.one_more, put_entries p.nodes by x (repeated p.inputs k) s);
      rest = g.rest ∙ ap (λ n. links_w p x cost n k s) (let d : most - turn ≡ suc (most - (turn + 1)) = omega arith in d) ∙ links-step (most - (turn + 1)) k s on;
    })

  -- ---- all of them
  pub record Linked (s z : Words) (fan : ℕ) : Type 0 where
    pub sized : Sized p z
    pub few : z.counts.entries ≤ s.counts.entries + fan
    pub beyond : (j : ℕ) → p.nodes ≤ j → get_or z.part j 0 ≡ get_or s.part j 0
    pub long : length z.part ≡ length s.part

  pub linked : (n k : ℕ) (s : Words) (fan : ℕ) → Sized p s → Chain p s.part fan k → slot_length * (s.counts.entries + fan) ≤ p.nodes → Linked s (links_w p x cost n k s) fan
  linked zero k s fan z h f = subst (λ w. Linked s w fan) (sym (links-none k s)) (record { sized = z; few = omega arith; beyond = λ j b. refl; long = refl })
  linked (suc n) k s fan z h f = go (ℕ_discrete k nothing) (linked n (chain_word s.part p.links k) (link_w p x cost k s))
    where
      go : Dec (k ≡ nothing)
          → ((fan : ℕ) → Sized p (link_w p x cost k s) → Chain p (link_w p x cost k s).part fan (chain_word s.part p.links k) → slot_length * ((link_w p x cost k s).counts.entries + fan) ≤ p.nodes → Linked (link_w p x cost k s) (links_w p x cost n (chain_word s.part p.links k) (link_w p x cost k s)) fan)
          → Linked s (links_w p x cost (suc n) k s) fan
      go (yes e) on = subst (λ w. Linked s w fan) (sym (links_end (suc n) k s e)) (record { sized = z; few = omega arith; beyond = λ j b. refl; long = refl })
      go (no e) on =
          let d = next k s fan h e in
          let by = Half (next_word s.part p.links k) (add binary32 cost (of_bits binary32 (weight_word s.part p.links k))) in
          let free : slot_length * (s.counts.entries + 1) ≤ p.nodes = omega (arith, f, d.one_more) in
          let l = length-put p s by x (repeated p.inputs k) z free in
          let b = put-beyond p s by x (repeated p.inputs k) z free in
          let y = on d.fewer (sized-put p s by x (repeated p.inputs k) z free) (chain_same p s.part (link_w p x cost k s).part (sym l) (λ j q. sym (b j (omega (arith, z.after)))) d.fewer (chain_word s.part p.links k) d.chain) (omega (arith, f, d.one_more, put_entries p.nodes by x (repeated p.inputs k) s)) in
          subst (λ w. Linked s w fan) (sym (links-step n k s e)) (record { sized = y.sized; few = omega (arith, y.few, d.one_more, put_entries p.nodes by x (repeated p.inputs k) s); beyond = λ j q. y.beyond j q ∙ b j q; long = y.long ∙ l })

-- ---- an expansion
module _ (p : Places) (most x v : ℕ) (cost : Float) (s : Words) where
  abbrev links : Words
  links = links_w p x cost most (head_word s.part p.nodes v) s

  abbrev ended : Words
  ended = put_w p.nodes (Finished cost) x nothing links

  pub expand-end : v ≡ p.end → expand_w p most x v cost s ≡ ended
  unfolding expand_w
  expand-end e = ap (λ (b : Bool). cond b ended links) (eq-eqb v p.end e)

  pub expand-on : (v ≡ p.end → ⊥) → expand_w p most x v cost s ≡ links
  unfolding expand_w
  expand-on e = ap (λ (b : Bool). cond b ended links) (ne_eqb v p.end e)
