-- The words of a search hold the search as it is defined: an entry put in keeps that. Assumes nothing.
use mathlib.Core.Path.{◌≡◌, refl, sym, ap, ◌∙◌, subst}
use mathlib.Core.List.{List, [], ◌∷◌, ◌++◌}
use Prim.Native.Nat.{ℕ, suc, ◌+◌, ◌*◌, ◌%◌, ◌≤◌, ◌<◌}
use native.Mathlib.Decide.{ℕ_discrete}
use native.Mathlib.Omega.{arith}
use lib.Dec.{eqb}
use lib.Ieee.{binary32, add, of_bits, to_bits}
use lib.ListN.{length, get_or, length-append, get_or-append}
use lib.Seq.{get_or-append_seam}
use Rattle.tropical_weight.specs.Limits.{finest, sum_limit}
use Rattle.tropical_weight.specs.Tropical.{Tropical, ◌⊗◌, Within}
use Rattle.tropical_weight.specs.Grid.{of_t}
use Rattle.tropical_weight.specs.Single.{number_bits}
use Rattle.tropical_weight.proofs.Exact.{times-of_t}
use Rattle.tropical_weight.proofs.Numbers.{number-of_t}
use Rattle.sheet.specs.Machine.{bits_of}
use Rattle.sheet.proofs.Below.{list_below-same}
use Rattle.search.specs.Reversed.{Back, Reversed}
use Rattle.search.specs.Heap.{pushed}
use Rattle.search.specs.Search as S
use Rattle.search.specs.Search.{half, finished, Put, first, Search, rank, before, put}
use Rattle.machine.specs.Distance.{as_weight}
use Rattle.machine.proofs.Lists.{perm-length}
use Rattle.distance.specs.Held.{held, weight_in, distance_in}
use Rattle.distance.proofs.Words.{same-words}
use Rattle.distance.proofs.Offers.{weight-held}
use Rattle.search.proofs.Contents.{pushed-keeps}
use Rattle.n_shortest.specs.declared.n_best.Places.{Places}
use Rattle.n_shortest.specs.declared.entry.Entry.{Entry}
use Rattle.n_shortest.specs.declared.entry.Entry.TheVariants.{Half, Finished}
use Rattle.slots.specs.Slots.{slot_length, nothing}
use Rattle.search_slots.specs.Slots.{node_word, rank_word, listed_word, heap_of, listed_of, head_word, visits_word, next_word, weight_word, chain_word, node_field, input_field, Slot, Entries}
use Rattle.n_shortest.specs.EntryWords.{node_of, cost_of, rank_w, stored}
use Rattle.n_shortest.specs.HeapWords.{push_w}
use Rattle.n_shortest.specs.SearchWords.{Words, put_w, repeated, Sized}
use Rattle.n_shortest.proofs.HeapPlaces.{Named, Ranked, less-precedes, push-is, push-other, heap-same}
use Rattle.n_shortest.proofs.Putting.{length-stored, stored_other, stored-heap, stored-node, stored-cost, stored-from, stored-input, stored-rank, length-put, put_entries, put-heap, put-listed, put-taken, put-beyond, sized-put}

module _ (size : ℕ) (r : Reversed) where
  -- an entry whose sums are exact, at a node that there is
  pub record Fine (e : S.Entry) : Type 0 where
    pub cost : Within sum_limit (S.cost_of e)
    pub ranked : Within sum_limit (rank r e)
    pub node : (v : ℕ) (c : Tropical) → e ≡ half v c → v < size

  pub named : (e : S.Entry) → size ≤ nothing → Fine e → Named e
  named (half v c) b f = omega (arith, f.node v c refl)
  named (finished c) b f = tt

-- ---- in units of 1 / 2 ^ unit
module _ (unit : ℕ) where
  -- ---- entries in code
  abbrev pub coded : S.Entry → Entry
  coded (half v c) = Half v (of_t unit c)
  coded (finished c) = Finished (of_t unit c)

  pub coded-node : (e : S.Entry) → node_of (coded e) ≡ node_field e
  coded-node (half v c) = refl
  coded-node (finished c) = refl

  pub coded-cost : (e : S.Entry) → to_bits binary32 (cost_of (coded e)) ≡ bits_of unit (S.cost_of e)
  coded-cost (half v c) = refl
  coded-cost (finished c) = refl

  module _ (p : Places) (size : ℕ) (r : Reversed) where
    -- the chain from k on has these links
    abbrev pub ChainIs : List ℕ → ℕ → List Back → Type 0
    ChainIs part k [] = k ≡ nothing
    ChainIs part k (b ∷ bs) =
        (k ≡ nothing → ⊥) × (p.links + slot_length * k + 2 < length part) × (next_word part p.links k ≡ b.next) × (of_bits binary32 (weight_word part p.links k) ≡ of_t unit b.weight)
        × (repeated p.inputs k ≡ input_field b.input) × ChainIs part (chain_word part p.links k) bs

    -- the slots of nodes and links hold the reversed machine
    pub record Laid (part : List ℕ) : Type 0 where
      pub room : p.nodes + slot_length * size ≤ p.links
      pub small : size ≤ nothing
      pub distances : (q : ℕ) → q < size → distance_in part (p.nodes + slot_length * q) ≡ held unit (r.to_go q)
      pub within : (q : ℕ) → q < size → Within sum_limit (as_weight (r.to_go q))
      pub chains : (q : ℕ) → q < size → ChainIs part (head_word part p.nodes q) (r.out q)
      pub leads : (q : ℕ) (b : Back) → Rattle.machine.specs.Demand.◌∈◌ b (r.out q) → (b.next < size) × Within sum_limit b.weight
      pub ends : (q : ℕ) → q < size → eqb q p.end ≡ r.ends q

    pub record Stores (s : Search) (w : Words) : Type 0 where
      pub sized : Sized p w
      pub entries-count : w.counts.entries ≡ length s.entries
      pub heap-count : w.counts.heap ≡ length s.heap
      pub listed-count : w.counts.listed ≡ length s.listed
      pub taken-count : w.counts.taken ≡ s.taken
      pub entries : Entries unit w.part s.entries
      pub ranks : (i : ℕ) → i < length s.entries → rank_word w.part i ≡ bits_of unit (rank r (get_or s.entries i first).entry)
      pub fine : (i : ℕ) → i < length s.entries → Fine size r (get_or s.entries i first).entry
      pub heap : heap_of w.part (length s.heap) ≡ s.heap
      pub listed : listed_of w.part (length s.listed) ≡ s.listed
      pub listed-few : length s.listed ≤ length s.entries
      pub visits : (q : ℕ) → q < size → visits_word w.part p.nodes q ≡ get_or s.visits q 0
      pub laid : Laid w.part

    -- ---- what is kept where the words of nodes and links are
    pub chain-kept : (a b : List ℕ) → length a ≡ length b → ((j : ℕ) → p.links ≤ j → get_or a j 0 ≡ get_or b j 0) → (k : ℕ) (bs : List Back) → ChainIs a k bs → ChainIs b k bs
    chain-kept a b l f k [] h = h
    chain-kept a b l f k (x ∷ bs) h =
        let next : next_word b p.links k ≡ next_word a p.links k = sym (f (p.links + slot_length * k) (omega arith)) in
        let weight : weight_word b p.links k ≡ weight_word a p.links k = sym (f (p.links + slot_length * k + 1) (omega arith)) in
        let on : chain_word a p.links k ≡ chain_word b p.links k = f (p.links + slot_length * k + 2) (omega arith) in
        (h.0, omega (arith, h.1, l), next ∙ h.2, ap (of_bits binary32) weight ∙ h.3, h.4, chain-kept a b l f (chain_word b p.links k) bs (subst (λ y. ChainIs a y bs) on h.5))

    pub laid_kept : (a b : List ℕ) → length a ≡ length b → ((q : ℕ) → q < size → distance_in a (p.nodes + slot_length * q) ≡ distance_in b (p.nodes + slot_length * q)) → ((q : ℕ) → q < size → head_word a p.nodes q ≡ head_word b p.nodes q)
        → ((j : ℕ) → p.links ≤ j → get_or a j 0 ≡ get_or b j 0) → Laid a → Laid b
    laid_kept a b l d h f t = record {
      room = t.room;
      small = t.small;
      distances = λ q c. sym (d q c) ∙ t.distances q c;
      within = t.within;
      chains = λ q c. chain-kept a b l f (head_word b p.nodes q) (r.out q) (subst (λ y. ChainIs a y (r.out q)) (h q c) (t.chains q c));
      leads = t.leads;
      ends = t.ends;
    }

  module _ (covered : unit ≤ finest) (p : Places) (size : ℕ) (r : Reversed) where
    -- ---- the rank of an entry as it is coded is exact
    rank-coded : (part : List ℕ) (e : S.Entry) → Laid p size r part → Fine size r e → number_bits (rank_w part p.nodes (coded e)) ≡ bits_of unit (rank r e)
    rank-coded part (half v c) t f =
        let b = f.node v c refl in
        let d = ap weight_in (t.distances v b) ∙ weight-held unit (r.to_go v) in
        let sum = ap (λ x. add binary32 x (of_t unit c)) d ∙ times-of_t unit covered (as_weight (r.to_go v)) c (t.within v b) f.cost in
        ap number_bits sum ∙ number-of_t unit covered (as_weight (r.to_go v) ⊗ c) f.ranked
    rank-coded part (finished c) t f = number-of_t unit covered c f.ranked

    -- ---- an entry put in
    module _ (s : Search) (w : Words) (t : Stores p size r s w) (e : Put) (f : Fine size r e.entry) (free : slot_length * (length s.entries + 1) ≤ p.nodes) where
      abbrev es : List Put
      es = s.entries ++ (e ∷ [])

      abbrev one : List ℕ
      one = stored w.part p.nodes w.counts.entries (coded e.entry) e.from (input_field e.input)

      abbrev new : Words
      new = put_w p.nodes (coded e.entry) e.from (input_field e.input) w

      room : slot_length * (w.counts.entries + 1) ≤ p.nodes
      room = omega (arith, free, t.entries-count)

      slot : slot_length * w.counts.entries + 4 < length w.part
      slot = omega (arith, room, t.sized.after, t.sized.inside)

      long : length es ≡ length s.entries + 1
      long = length-append s.entries (e ∷ [])

      -- words of other slots, but for the heap's
      spared : (j : ℕ) → (j ≡ slot_length * w.counts.entries → ⊥) → (j ≡ slot_length * w.counts.entries + 1 → ⊥) → (j ≡ slot_length * w.counts.entries + 2 → ⊥) → (j ≡ slot_length * w.counts.entries + 3 → ⊥) → (j ≡ slot_length * w.counts.entries + 4 → ⊥) → get_or one j 0 ≡ get_or w.part j 0
      spared j = stored_other w.part p.nodes w.counts.entries (coded e.entry) e.from (input_field e.input) j

      pushed-word : (j : ℕ) → (j % slot_length ≡ 5 → ⊥) → get_or new.part j 0 ≡ get_or one j 0
      unfolding put_w
      pushed-word j n = push-other one w.counts.heap w.counts.entries j 0 n

      old-slot : (i : ℕ) → i < length s.entries → (c : ℕ) → c < 5 → get_or one (slot_length * i + c) 0 ≡ get_or w.part (slot_length * i + c) 0
      old-slot i b c h = spared (slot_length * i + c) (λ z. omega (arith, z, t.entries-count)) (λ z. omega (arith, z, t.entries-count)) (λ z. omega (arith, z, t.entries-count)) (λ z. omega (arith, z, t.entries-count)) (λ z. omega (arith, z, t.entries-count))

      first_word : (part : List ℕ) (i : ℕ) → node_word part i ≡ get_or part (slot_length * i + 0) 0
      first_word part i = ap (λ j. get_or part j 0) (let z : slot_length * i ≡ slot_length * i + 0 = omega arith in z)

      -- the slots with the new entry stored
      slots : (i : ℕ) → i < length es → Slot unit one i (get_or es i first)
      slots i b = go (ℕ_discrete i (length s.entries))
        where
          go : Dec (i ≡ length s.entries) → Slot unit one i (get_or es i first)
          go (yes z) =
              let q : get_or es i first ≡ e = ap (λ k. get_or es k first) z ∙ get_or-append_seam s.entries e [] first in
              let y : i ≡ w.counts.entries = z ∙ sym t.entries-count in
              subst (Slot unit one i) (sym q) (subst (λ k. Slot unit one k e) (sym y) (record {
                node = stored-node w.part p.nodes w.counts.entries (coded e.entry) e.from (input_field e.input) slot ∙ coded-node e.entry;
                cost = stored-cost w.part p.nodes w.counts.entries (coded e.entry) e.from (input_field e.input) slot ∙ coded-cost e.entry;
                from = stored-from w.part p.nodes w.counts.entries (coded e.entry) e.from (input_field e.input) slot;
                input = stored-input w.part p.nodes w.counts.entries (coded e.entry) e.from (input_field e.input) slot;
              }))
          go (no z) =
              let c : i < length s.entries = omega (arith, long, z) in
              let k = t.entries i c in
              subst (Slot unit one i) (sym (get_or-append s.entries (e ∷ []) first i c)) (record {
                node = first_word one i ∙ old-slot i c 0 (omega arith) ∙ sym (first_word w.part i) ∙ k.node;
                cost = old-slot i c 1 (omega arith) ∙ k.cost;
                from = old-slot i c 2 (omega arith) ∙ k.from;
                input = old-slot i c 3 (omega arith) ∙ k.input;
              })

      ranks : (i : ℕ) → i < length es → rank_word one i ≡ bits_of unit (rank r (get_or es i first).entry)
      ranks i b = go (ℕ_discrete i (length s.entries))
        where
          go : Dec (i ≡ length s.entries) → rank_word one i ≡ bits_of unit (rank r (get_or es i first).entry)
          go (yes z) =
              ap (rank_word one) (z ∙ sym t.entries-count) ∙ stored-rank w.part p.nodes w.counts.entries (coded e.entry) e.from (input_field e.input) slot ∙ rank-coded w.part e.entry t.laid f
              ∙ ap (λ (k : Put). bits_of unit (rank r k.entry)) (sym (ap (λ k. get_or es k first) z ∙ get_or-append_seam s.entries e [] first))
          go (no z) =
              let c : i < length s.entries = omega (arith, long, z) in
              old-slot i c 4 (omega arith) ∙ t.ranks i c ∙ ap (λ (k : Put). bits_of unit (rank r k.entry)) (sym (get_or-append s.entries (e ∷ []) first i c))

      fines : (i : ℕ) → i < length es → Fine size r (get_or es i first).entry
      fines i b = go (ℕ_discrete i (length s.entries))
        where
          go : Dec (i ≡ length s.entries) → Fine size r (get_or es i first).entry
          go (yes z) = subst (λ (k : Put). Fine size r k.entry) (sym (ap (λ k. get_or es k first) z ∙ get_or-append_seam s.entries e [] first)) f
          go (no z) = let c : i < length s.entries = omega (arith, long, z) in subst (λ (k : Put). Fine size r k.entry) (sym (get_or-append s.entries (e ∷ []) first i c)) (t.fine i c)

      ranked : (a : ℕ) → a < length es → Ranked unit r one a (get_or es a first).entry
      ranked a b = record { named = named size r (get_or es a first).entry t.laid.small (fines a b); node = (slots a b).node; within = (fines a b).ranked; bits = ranks a b }

      abbrev n : ℕ
      n = length s.heap

      heap-places : heap_of one n ≡ s.heap
      heap-places = heap-same one w.part n (λ i b. stored-heap w.part p.nodes w.counts.entries (coded e.entry) e.from (input_field e.input) i) ∙ t.heap

      heap-length : length (put r e s).heap ≡ suc n
      heap-length = perm-length (pushed-keeps (before r es) (length s.entries) s.heap)

      heap-new : heap_of new.part (suc n) ≡ (put r e s).heap
      unfolding put_w
      heap-new =
          ap (λ k. heap_of (push_w one k w.counts.entries) (suc n)) t.heap-count ∙ ap (λ k. heap_of (push_w one n k) (suc n)) t.entries-count
          ∙ push-is (before r es) (λ a. a < length es) one n (length s.entries)
          (omega (arith, free, t.heap-count, t.sized.heap-few, t.entries-count, t.sized.after, t.sized.inside, length-stored w.part p.nodes w.counts.entries (coded e.entry) e.from (input_field e.input)))
          (λ i b. omega (arith, long, stored-heap w.part p.nodes w.counts.entries (coded e.entry) e.from (input_field e.input) i, t.sized.each i (omega (arith, t.heap-count)), t.entries-count))
          (omega (arith, long))
          (λ a b h k. less-precedes unit covered r one a b (get_or es a first).entry (get_or es b first).entry (ranked a h) (ranked b k))
          ∙ ap (pushed (before r es) (length s.entries)) heap-places

      pub stores-put : Stores p size r (put r e s) new
      stores-put = record {
        sized = sized-put p w (coded e.entry) e.from (input_field e.input) t.sized room;
        entries-count = entries-new ∙ sym long;
        heap-count = heap-count-new ∙ sym heap-length;
        listed-count = listed-count-new;
        taken-count = taken-count-new;
        entries = λ i b. let k = slots i b in record {
          node = first_word new.part i ∙ pushed-word (slot_length * i + 0) (λ z. omega arith) ∙ sym (first_word one i) ∙ k.node;
          cost = pushed-word (slot_length * i + 1) (λ z. omega arith) ∙ k.cost;
          from = pushed-word (slot_length * i + 2) (λ z. omega arith) ∙ k.from;
          input = pushed-word (slot_length * i + 3) (λ z. omega arith) ∙ k.input;
        };
        ranks = λ i b. pushed-word (slot_length * i + 4) (λ z. omega arith) ∙ ranks i b;
        fine = fines;
        heap = ap (heap_of new.part) heap-length ∙ heap-new;
        listed = listed_same ∙ t.listed;
        listed-few = omega (arith, t.listed-few, long);
        visits = λ q b. beyond (p.nodes + slot_length * q + 3) (omega arith) ∙ t.visits q b;
        laid = laid_kept p size r w.part new.part (sym (length-put p w (coded e.entry) e.from (input_field e.input) t.sized room)) (λ q b. same-words w.part new.part (p.nodes + slot_length * q) (p.nodes + slot_length * q) (sym (beyond (p.nodes + slot_length * q) (omega arith))) (sym (beyond (p.nodes + slot_length * q + 1) (omega arith)))) (λ q b. sym (beyond (p.nodes + slot_length * q + 2) (omega arith))) (λ j b. sym (beyond j (omega (arith, t.sized.after)))) t.laid;
      }
        where
          beyond : (j : ℕ) → p.nodes ≤ j → get_or new.part j 0 ≡ get_or w.part j 0
          beyond = put-beyond p w (coded e.entry) e.from (input_field e.input) t.sized room

          entries-new : new.counts.entries ≡ length s.entries + 1
          entries-new = put_entries p.nodes (coded e.entry) e.from (input_field e.input) w ∙ ap (λ k. k + 1) t.entries-count

          heap-count-new : new.counts.heap ≡ suc n
          heap-count-new = put-heap p.nodes (coded e.entry) e.from (input_field e.input) w ∙ omega (arith, t.heap-count)

          listed-count-new : new.counts.listed ≡ length s.listed
          listed-count-new = put-listed p.nodes (coded e.entry) e.from (input_field e.input) w ∙ t.listed-count

          taken-count-new : new.counts.taken ≡ s.taken
          taken-count-new = put-taken p.nodes (coded e.entry) e.from (input_field e.input) w ∙ t.taken-count

          listed_same : listed_of new.part (length s.listed) ≡ listed_of w.part (length s.listed)
          listed_same = list_below-same (length s.listed) (listed_word new.part) (listed_word w.part) (λ i b. pushed-word (slot_length * i + 6) (λ z. omega arith)
              ∙ spared (slot_length * i + 6) (λ z. omega (arith, z)) (λ z. omega (arith, z)) (λ z. omega (arith, z)) (λ z. omega (arith, z)) (λ z. omega (arith, z)))
