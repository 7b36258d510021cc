-- Entries put in, word by word: what an entry's slot leaves of the rest of the part. Assumes nothing.
use mathlib.Core.Path.{◌≡◌, refl, sym, ap, ◌∙◌, subst}
use mathlib.Core.List.{List}
use Prim.Native.Nat.{ℕ, ◌+◌, ◌*◌, ◌≤◌, ◌<◌}
use native.Mathlib.Decide.{ℕ_discrete}
use native.Mathlib.Omega.{arith}
use lib.Ieee.{binary32, to_bits}
use lib.ListN.{length, get_or, set, length-set}
use lib.Seq.{get_or-set_same, get_or-set_other}
use Rattle.tropical_weight.specs.Single.{Number, number_bits}
use Rattle.tropical_weight.proofs.Numbers.{number_is}
use Rattle.n_shortest.specs.declared.n_best.Places.{Places}
use Rattle.n_shortest.specs.declared.entry.Entry.{Entry}
use Rattle.search_slots.specs.Slots.{rank_word, heap_word}
use Rattle.n_shortest.specs.EntryWords.{node_of, cost_of, rank_w, stored}
use Rattle.n_shortest.specs.HeapWords.{Comparable, HeapFits}
use Rattle.n_shortest.proofs.HeapPlaces.{push-length, push-other, push-beyond, push-each}
use Rattle.n_shortest.specs.SearchWords.{Words, put_w, Sized}
use Rattle.slots.specs.Slots.{slot_length}

module _ (part : List ℕ) (nodes i : ℕ) (e : Entry) (from input : ℕ) where
  -- the part with one, two, three and four of the words stored
  abbrev one : List ℕ
  one = set part (slot_length * i) (node_of e)

  abbrev two : List ℕ
  two = set one (slot_length * i + 1) (to_bits binary32 (cost_of e))

  abbrev three : List ℕ
  three = set two (slot_length * i + 2) from

  abbrev four : List ℕ
  four = set three (slot_length * i + 3) input

  pub length-stored : length (stored part nodes i e from input) ≡ length part
  length-stored = simp length-set

  -- only the words 0 to 4 of the slot change
  pub stored_other : (j : ℕ) → (j ≡ slot_length * i → ⊥) → (j ≡ slot_length * i + 1 → ⊥) → (j ≡ slot_length * i + 2 → ⊥) → (j ≡ slot_length * i + 3 → ⊥) → (j ≡ slot_length * i + 4 → ⊥) → get_or (stored part nodes i e from input) j 0 ≡ get_or part j 0
  stored_other j a b c d f =
      get_or-set_other four (slot_length * i + 4) j (number_bits (rank_w part nodes e)) 0 f
      ∙ get_or-set_other three (slot_length * i + 3) j input 0 d ∙ get_or-set_other two (slot_length * i + 2) j from 0 c
      ∙ get_or-set_other one (slot_length * i + 1) j (to_bits binary32 (cost_of e)) 0 b ∙ get_or-set_other part (slot_length * i) j (node_of e) 0 a

  pub stored-heap : (j : ℕ) → heap_word (stored part nodes i e from input) j ≡ heap_word part j
  stored-heap j = stored_other (slot_length * j + 5) (λ z. omega (arith, z)) (λ z. omega (arith, z)) (λ z. omega (arith, z)) (λ z. omega (arith, z)) (λ z. omega (arith, z))

  -- and they hold the entry
  module _ (room : slot_length * i + 4 < length part) where
    pub stored-node : get_or (stored part nodes i e from input) (slot_length * i) 0 ≡ node_of e
    stored-node =
        get_or-set_other four (slot_length * i + 4) (slot_length * i) (number_bits (rank_w part nodes e)) 0 (λ z. omega (arith, z))
        ∙ get_or-set_other three (slot_length * i + 3) (slot_length * i) input 0 (λ z. omega (arith, z)) ∙ get_or-set_other two (slot_length * i + 2) (slot_length * i) from 0 (λ z. omega (arith, z))
        ∙ get_or-set_other one (slot_length * i + 1) (slot_length * i) (to_bits binary32 (cost_of e)) 0 (λ z. omega (arith, z)) ∙ get_or-set_same part (slot_length * i) (node_of e) 0 (omega arith)

    pub stored-cost : get_or (stored part nodes i e from input) (slot_length * i + 1) 0 ≡ to_bits binary32 (cost_of e)
    stored-cost =
        get_or-set_other four (slot_length * i + 4) (slot_length * i + 1) (number_bits (rank_w part nodes e)) 0 (λ z. omega (arith, z))
        ∙ get_or-set_other three (slot_length * i + 3) (slot_length * i + 1) input 0 (λ z. omega (arith, z)) ∙ get_or-set_other two (slot_length * i + 2) (slot_length * i + 1) from 0 (λ z. omega (arith, z))
        ∙ get_or-set_same one (slot_length * i + 1) (to_bits binary32 (cost_of e)) 0 (simp length-set (omega arith))

    pub stored-from : get_or (stored part nodes i e from input) (slot_length * i + 2) 0 ≡ from
    stored-from =
        get_or-set_other four (slot_length * i + 4) (slot_length * i + 2) (number_bits (rank_w part nodes e)) 0 (λ z. omega (arith, z))
        ∙ get_or-set_other three (slot_length * i + 3) (slot_length * i + 2) input 0 (λ z. omega (arith, z)) ∙ get_or-set_same two (slot_length * i + 2) from 0 (simp length-set (omega arith))

    pub stored-input : get_or (stored part nodes i e from input) (slot_length * i + 3) 0 ≡ input
    stored-input = get_or-set_other four (slot_length * i + 4) (slot_length * i + 3) (number_bits (rank_w part nodes e)) 0 (λ z. omega (arith, z)) ∙ get_or-set_same three (slot_length * i + 3) input 0 (simp length-set (omega arith))

    pub stored-rank : get_or (stored part nodes i e from input) (slot_length * i + 4) 0 ≡ number_bits (rank_w part nodes e)
    stored-rank = get_or-set_same four (slot_length * i + 4) (number_bits (rank_w part nodes e)) 0 (simp length-set (omega arith))

-- the heap fits after an entry is stored
module _ (p : Places) (s : Words) (e : Entry) (from input : ℕ) (z : Sized p s) (free : slot_length * (s.counts.entries + 1) ≤ p.nodes) where
  abbrev with : List ℕ
  with = stored s.part p.nodes s.counts.entries e from input

  long : length with ≡ length s.part
  long = length-stored s.part p.nodes s.counts.entries e from input

  stored-numbers : (i : ℕ) → i < s.counts.entries + 1 → Number (rank_word with i)
  stored-numbers i h = go (ℕ_discrete i s.counts.entries)
    where
      go : Dec (i ≡ s.counts.entries) → Number (rank_word with i)
      go (yes y) = subst Number (sym (ap (rank_word with) y ∙ stored-rank s.part p.nodes s.counts.entries e from input (omega (arith, free, z.after, z.inside)))) (number_is (rank_w s.part p.nodes e))
      go (no y) =
          subst Number (sym (stored_other s.part p.nodes s.counts.entries e from input (slot_length * i + 4) (λ q. omega (arith, q)) (λ q. omega (arith, q)) (λ q. omega (arith, q)) (λ q. omega (arith, q)) (λ q. y (omega (arith, q)))))
          (z.numbers i (omega (arith, y)))

  pub stored-compares : (i : ℕ) → i < s.counts.entries + 1 → Comparable with i
  stored-compares i h = record { inside = omega (arith, long, free, z.after, z.inside); number = stored-numbers i h }

  pub stored-fits : HeapFits with s.counts.heap
  stored-fits = record {
    room = omega (arith, z.heap-few, z.room, z.after, z.inside, long);
    each = λ i h. stored-compares (heap_word with i) (omega (arith, z.each i h, stored-heap s.part p.nodes s.counts.entries e from input i));
  }

-- ---- an entry put in
pub put-heap : (nodes : ℕ) (e : Entry) (from input : ℕ) (s : Words) → (put_w nodes e from input s).counts.heap ≡ s.counts.heap + 1
unfolding put_w
put-heap nodes e from input s = refl

pub put-listed : (nodes : ℕ) (e : Entry) (from input : ℕ) (s : Words) → (put_w nodes e from input s).counts.listed ≡ s.counts.listed
unfolding put_w
put-listed nodes e from input s = refl

pub put-taken : (nodes : ℕ) (e : Entry) (from input : ℕ) (s : Words) → (put_w nodes e from input s).counts.taken ≡ s.counts.taken
unfolding put_w
put-taken nodes e from input s = refl

pub put_entries : (nodes : ℕ) (e : Entry) (from input : ℕ) (s : Words) → (put_w nodes e from input s).counts.entries ≡ s.counts.entries + 1
unfolding put_w
put_entries nodes e from input s = refl

module _ (p : Places) (s : Words) (e : Entry) (from input : ℕ) (z : Sized p s) (free : slot_length * (s.counts.entries + 1) ≤ p.nodes) where
  abbrev new : Words
  new = put_w p.nodes e from input s

  pub length-put : length new.part ≡ length s.part
  unfolding put_w
  length-put = push-length (stored s.part p.nodes s.counts.entries e from input) s.counts.heap s.counts.entries ∙ length-stored s.part p.nodes s.counts.entries e from input

  -- from the nodes' slots on nothing changes
  pub put-beyond : (j : ℕ) → p.nodes ≤ j → get_or new.part j 0 ≡ get_or s.part j 0
  unfolding put_w
  put-beyond j b =
      push-beyond (stored s.part p.nodes s.counts.entries e from input) s.counts.heap s.counts.entries j 0 (omega (arith, z.heap-few, z.room, free))
      ∙ stored_other s.part p.nodes s.counts.entries e from input j (λ y. omega (arith, y, free)) (λ y. omega (arith, y, free)) (λ y. omega (arith, y, free)) (λ y. omega (arith, y, free)) (λ y. omega (arith, y, free))

  pub sized-put : Sized p new
  unfolding put_w
  sized-put = record {
    heap-few = omega (arith, z.heap-few);
    room = omega (arith, free);
    after = z.after;
    inside = omega (arith, z.inside, length-put);
    small = z.small;
    each = λ i h. push-each (λ y. y < s.counts.entries + 1) (stored s.part p.nodes s.counts.entries e from input) s.counts.heap s.counts.entries
        (omega (arith, z.heap-few, free, z.after, z.inside, length-stored s.part p.nodes s.counts.entries e from input))
        (λ j l. omega (arith, z.each j l, stored-heap s.part p.nodes s.counts.entries e from input j)) (omega arith) i (omega arith);
    numbers = λ i h. subst Number (sym (push-other (stored s.part p.nodes s.counts.entries e from input) s.counts.heap s.counts.entries (slot_length * i + 4) 0 (λ q. omega arith))) (stored-numbers p s e from input z free i h);
  }
