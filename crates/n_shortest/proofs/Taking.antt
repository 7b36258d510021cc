-- An entry taken, word by word: a visit of its node, the list, and the heap without it. Assumes nothing.
use mathlib.Core.Path.{◌≡◌, refl, sym, ap, ◌∙◌, subst}
use mathlib.Core.Bool.{Bool, true, false, cond, ◌||◌}
use Prim.Native.Nat.{ℕ, zero, suc, ◌+◌, ◌-◌, ◌*◌, ◌≤◌, ◌<◌}
use native.Mathlib.Omega.{arith}
use lib.Dec.{eqb, leb, ltb}
use lib.Ieee as Ieee
use lib.Ieee.{Float, lt}
use lib.ListN.{length, get_or, set, length-set}
use lib.Seq.{get_or-set_other}
use borrow.Author.Tests.{lt-ltb, le-ltb, le-leb, lt-leb, eq-eqb, ne_eqb}
use Rattle.sheet.proofs.Apart.{not-both, or_right}
use Rattle.tropical_weight.specs.Single.{Number}
use Rattle.n_shortest.specs.declared.n_best.Places.{Places}
use Rattle.n_shortest.specs.declared.entry.Entry.{Entry}
use Rattle.n_shortest.specs.declared.entry.Entry.TheVariants.{Half, Finished}
use Rattle.search_slots.specs.Slots.{heap_word, head_word, visits_word}
use Rattle.n_shortest.specs.EntryWords.{entry_w}
use Rattle.n_shortest.specs.SearchWords.{Words, expand_w, listed_w, finished_w, taken_w, without, step_w, stopped_w, after_w, Sized, Chain, Expands, Takes}
use Rattle.n_shortest.proofs.HeapPlaces.{pop-length, pop-other, pop-beyond, pop-each}
use Rattle.n_shortest.proofs.Linking.{chain_same}
use Rattle.slots.specs.Slots.{slot_length}

-- ---- a visit
abbrev pub visited : Places → ℕ → Words → Words
visited p v s = record { part = set s.part (p.nodes + slot_length * v + 3) (visits_word s.part p.nodes v + 1); counts = s.counts }

module _ (p : Places) (s : Words) (v : ℕ) (z : Sized p s) where
  at_other : (j : ℕ) → (j ≡ p.nodes + slot_length * v + 3 → ⊥) → get_or (visited p v s).part j 0 ≡ get_or s.part j 0
  at_other j n = get_or-set_other s.part (p.nodes + slot_length * v + 3) j (visits_word s.part p.nodes v + 1) 0 n

  long : length (visited p v s).part ≡ length s.part
  long = length-set s.part (p.nodes + slot_length * v + 3) (visits_word s.part p.nodes v + 1)

  pub sized-visited : Sized p (visited p v s)
  sized-visited = record {
    heap-few = z.heap-few;
    room = z.room;
    after = z.after;
    inside = omega (arith, z.inside, long);
    small = z.small;
    each = λ i h. omega (arith, z.each i h, at_other (slot_length * i + 5) (λ y. omega (arith, y, z.heap-few, z.room)));
    numbers = λ i h. subst Number (sym (at_other (slot_length * i + 4) (λ y. omega (arith, y, z.room)))) (z.numbers i h);
  }

  pub expands-visited : Expands p s v → Expands p (visited p v s) v
  expands-visited e = record {
    fan = e.fan;
    slot = e.slot;
    chain = subst (Chain p (visited p v s).part e.fan) (sym (at_other (p.nodes + slot_length * v + 2) (λ y. omega (arith, y))))
        (chain_same p s.part (visited p v s).part (sym long) (λ j b. sym (at_other j (λ y. omega (arith, y, e.slot)))) e.fan (head_word s.part p.nodes v) e.chain);
    free = e.free;
  }

-- ---- a finished entry
pub finished-listed : (x : ℕ) (s : Words) (cost : Float) → lt cost (Ieee.inf false) ≡ true → finished_w x cost s ≡ listed_w x s
unfolding finished_w
finished-listed x s cost e = ap (λ (b : Bool). cond b (listed_w x s) s) e

pub finished-barred : (x : ℕ) (s : Words) (cost : Float) → lt cost (Ieee.inf false) ≡ false → finished_w x cost s ≡ s
unfolding finished_w
finished-barred x s cost e = ap (λ (b : Bool). cond b (listed_w x s) s) e

-- ---- by cases
module _ (p : Places) (n most x : ℕ) (s : Words) where
  pub taken-half : {e : Entry} {v : ℕ} {cost : Float} → e ≡ Half v cost → taken_w p n most x e s ≡ cond (ltb n (visits_word s.part p.nodes v + 1)) (visited p v s) (expand_w p most x v cost (visited p v s))
  unfolding taken_w
  taken-half q = ap (λ y. taken_w p n most x y s) q

  pub taken-over : {e : Entry} {v : ℕ} {cost : Float} → e ≡ Half v cost → n < visits_word s.part p.nodes v + 1 → taken_w p n most x e s ≡ visited p v s
  taken-over {e} {v} {cost} q h = taken-half q ∙ ap (λ (b : Bool). cond b (visited p v s) (expand_w p most x v cost (visited p v s))) (lt-ltb n (visits_word s.part p.nodes v + 1) h)

  pub taken-expanded : {e : Entry} {v : ℕ} {cost : Float} → e ≡ Half v cost → visits_word s.part p.nodes v + 1 ≤ n → taken_w p n most x e s ≡ expand_w p most x v cost (visited p v s)
  taken-expanded {e} {v} {cost} q h = taken-half q ∙ ap (λ (b : Bool). cond b (visited p v s) (expand_w p most x v cost (visited p v s))) (le-ltb n (visits_word s.part p.nodes v + 1) h)

  abbrev pub listing : Words
  listing = listed_w x s

  pub taken-finished : {e : Entry} {cost : Float} → e ≡ Finished cost → taken_w p n most x e s ≡ finished_w x cost s
  unfolding taken_w
  taken-finished q = ap (λ y. taken_w p n most x y s) q

-- ---- the heap without its head
module _ (p : Places) (s : Words) (z : Sized p s) (some_in : 0 < s.counts.heap) where
  heap-room : slot_length * s.counts.heap ≤ length s.part
  heap-room = omega (arith, z.heap-few, z.room, z.after, z.inside)

  beyond : (j : ℕ) → p.nodes ≤ j → get_or (without s).part j 0 ≡ get_or s.part j 0
  beyond j b = pop-beyond s.part s.counts.heap some_in j 0 (omega (arith, z.heap-few, z.room))

  pub sized-without : Sized p (without s)
  sized-without = record {
    heap-few = omega (arith, z.heap-few);
    room = z.room;
    after = z.after;
    inside = omega (arith, z.inside, pop-length s.part s.counts.heap some_in);
    small = z.small;
    each = λ i h. pop-each (λ y. y < s.counts.entries) s.part s.counts.heap heap-room some_in z.each i h;
    numbers = λ i h. subst Number (sym (pop-other s.part s.counts.heap some_in (slot_length * i + 4) 0 (λ y. omega arith))) (z.numbers i h);
  }

  expands-without : (v : ℕ) → Expands p s v → Expands p (without s) v
  expands-without v e = record {
    fan = e.fan;
    slot = e.slot;
    chain = subst (Chain p (without s).part e.fan) (sym (beyond (p.nodes + slot_length * v + 2) (omega arith)))
        (chain_same p s.part (without s).part (sym (pop-length s.part s.counts.heap some_in)) (λ j b. sym (beyond j (omega (arith, z.after)))) e.fan (head_word s.part p.nodes v) e.chain);
    free = e.free;
  }

  pub takes-without : (n : ℕ) (e : Entry) → Takes p n s e → Takes p n (without s) e
  takes-without n (Finished c) t = t
  takes-without n (Half v c) t = let q = beyond (p.nodes + slot_length * v + 3) (omega arith) in (t.0, omega (arith, t.1, q), λ b. expands-without v (t.2 (omega (arith, q))))

pub step_is : (p : Places) (n most : ℕ) (s : Words) → taken_w p n most (heap_word s.part 0) (entry_w s.part (heap_word s.part 0)) (without s) ≡ step_w p n most s
unfolding step_w
step_is p n most s = refl

-- ---- the whole
module _ (p : Places) (n most : ℕ) where
  pub after_none : (s : Words) → after_w p n most 0 s ≡ s
  unfolding after_w
  after_none s = refl

  pub after-stopped : (k : ℕ) (s : Words) → stopped_w n s ≡ true → after_w p n most k s ≡ s
  unfolding after_w
  after-stopped zero s e = refl
  after-stopped (suc k) s e = ap (λ (b : Bool). cond b s (after_w p n most k (step_w p n most s))) e

  pub after-step : (k : ℕ) (s : Words) → stopped_w n s ≡ false → after_w p n most (suc k) s ≡ after_w p n most k (step_w p n most s)
  unfolding after_w
  after-step k s e = ap (λ (b : Bool). cond b s (after_w p n most k (step_w p n most s))) e

  -- one more at the end
  pub after_more : (k : ℕ) (s : Words) → stopped_w n (after_w p n most k s) ≡ false → after_w p n most (suc k) s ≡ step_w p n most (after_w p n most k s)
  after_more zero s e = after-step zero s (sym (ap (stopped_w n) (after_none s)) ∙ e) ∙ after_none (step_w p n most s) ∙ sym (ap (step_w p n most) (after_none s))
  after_more (suc k) s e = go (stopped_w n s) refl (after_more k (step_w p n most s))
    where
      go : (t : Bool) → stopped_w n s ≡ t → (stopped_w n (after_w p n most k (step_w p n most s)) ≡ false → after_w p n most (suc k) (step_w p n most s) ≡ step_w p n most (after_w p n most k (step_w p n most s)))
          → after_w p n most (suc (suc k)) s ≡ step_w p n most (after_w p n most (suc k) s)
      go true q ih = absurd (not-both q (sym (ap (stopped_w n) (after-stopped (suc k) s q)) ∙ e))
      go false q ih = after-step (suc k) s q ∙ ih (sym (ap (stopped_w n) (after-step k s q)) ∙ e) ∙ sym (ap (step_w p n most) (after-step k s q))

  -- the loop's turns
  pub record Turns (allowed : ℕ) (s₀ : Words) (turn : ℕ) (s : Words) : Type 0 where
    pub now-at : s ≡ after_w p n most turn s₀
    pub rest : after_w p n most allowed s₀ ≡ after_w p n most (allowed - turn) s

  pub turns-on : (allowed : ℕ) (s₀ : Words) (turn : ℕ) (s z : Words) → Turns allowed s₀ turn s → turn < allowed → stopped_w n s ≡ false → z ≡ step_w p n most s → Turns allowed s₀ (turn + 1) z
  turns-on allowed s₀ turn s z t m e q = record {
    now-at = q ∙ ap (step_w p n most) t.now-at ∙ sym (after_more turn s₀ (sym (ap (stopped_w n) t.now-at) ∙ e)) ∙ ap (λ k. after_w p n most k s₀) (let y : suc turn ≡ turn + 1 = omega arith in y);
    rest = t.rest ∙ ap (λ k. after_w p n most k s) (let y : allowed - turn ≡ suc (allowed - (turn + 1)) = omega arith in y) ∙ after-step (allowed - (turn + 1)) s e ∙ ap (after_w p n most (allowed - (turn + 1))) (sym q);
  }

-- by the tests of the code
pub stopped-heap : (n : ℕ) (s : Words) → s.counts.heap ≡ 0 → stopped_w n s ≡ true
stopped-heap n s e = ap (λ (b : Bool). b || leb n s.counts.listed) (eq-eqb s.counts.heap 0 e)

pub stopped-list : (n : ℕ) (s : Words) → n ≤ s.counts.listed → stopped_w n s ≡ true
stopped-list n s h = or_right (eqb s.counts.heap 0) (leb n s.counts.listed) (le-leb n s.counts.listed h)

pub stopped-not : (n : ℕ) (s : Words) → (s.counts.heap ≡ 0 → ⊥) → s.counts.listed < n → stopped_w n s ≡ false
stopped-not n s e h = (λ i. ne_eqb s.counts.heap 0 e i || lt-leb n s.counts.listed h i)
