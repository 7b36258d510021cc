-- The words of a search go on as the search does: expansions, and one removal. Assumes nothing.
use mathlib.Core.Path.{◌≡◌, refl, sym, ap, ◌∙◌, subst}
use mathlib.Core.Bool.{Bool, true, false, cond}
use mathlib.Core.Option.{none}
use mathlib.Core.List.Memᴰ
use mathlib.Core.List.{List, [], ◌∷◌, ◌++◌, map, append-nil}
use Prim.Native.Nat.{ℕ, zero, suc, ◌+◌, ◌-◌, ◌*◌, ◌≤◌, ◌<◌}
use native.Mathlib.Decide.{ℕ_discrete}
use native.Mathlib.Omega.{arith}
use lib.Dec.{leb}
use lib.Ieee.{binary32, add, of_bits}
use lib.ListN.{length, get_or, set, length-append, length-map, length-set}
use lib.Seq.{get_or-set_same, get_or-set_other, get_or-append-add}
use borrow.Author.Tests.{eqb-true, eqb-false, leb-true, leb-false, le-leb}
use Rattle.tropical_weight.specs.Limits.{finest, sum_limit}
use Rattle.tropical_weight.specs.Tropical.{Tropical, fin, inf, ◌⊗◌, Within}
use Rattle.tropical_weight.specs.Grid.{of_t}
use Rattle.tropical_weight.specs.Single.{Number}
use Rattle.tropical_weight.proofs.Exact.{times-of_t, lt-of_t, bits_back}
use Rattle.sheet.specs.Below.{list_below}
use Rattle.sheet.proofs.Below.{list_below-same}
use Rattle.machine.specs.Demand.{◌∈◌}
use Rattle.machine.proofs.Lists.{here, map-mem, mem-get_or, perm-length}
use Rattle.distance.proofs.Words.{same-words}
use Rattle.search.specs.Reversed.{Back, Reversed}
use Rattle.search.specs.Heap.{popped}
use Rattle.search.specs.Search as S
use Rattle.search.specs.Search.{half, finished, Put, first, Search, before, put, put_all, expansion, taken_by, step}
use Rattle.search.proofs.Contents.{popped-keeps}
use Rattle.n_shortest.specs.declared.n_best.Places.{Places}
use Rattle.n_shortest.specs.declared.entry.Entry.TheVariants.{Half, Finished}
use Rattle.slots.specs.Slots.{slot_length}
use Rattle.search_slots.specs.Slots.{node_word, cost_word, heap_word, listed_word, heap_of, listed_of, head_word, visits_word, next_word, weight_word, chain_word, node_field, input_field}
use Rattle.n_shortest.specs.EntryWords.{entry_w}
use Rattle.n_shortest.specs.SearchWords.{Words, put_w, repeated, link_w, links_w, expand_w, taken_w, without, step_w, Sized, Chain, Expands, Takes, Ready}
use Rattle.n_shortest.proofs.EntryWords.{entry-finished, entry-half}
use Rattle.n_shortest.proofs.Linking.{links_end, links-step, expand-end, expand-on}
use Rattle.n_shortest.proofs.Taking.{sized-without, sized-visited, visited, taken-over, taken-expanded, listing, taken-finished, finished-listed, finished-barred, step_is}
use Rattle.n_shortest.proofs.Putting.{length-put, put-beyond}
use Rattle.n_shortest.proofs.HeapPlaces.{Ranked, less-precedes, pop-is, pop-length, pop-other, pop-beyond, heap-same, heap-at}
use Rattle.n_shortest.proofs.Storing.{named, coded, ChainIs, Laid, Fine, Stores, chain-kept, laid_kept, stores-put}

module _ (unit : ℕ) (covered : unit ≤ finest) (p : Places) (size : ℕ) (r : Reversed) where
  -- ---- the links of a chain put in
  -- how entry x at cost c puts in a link
  abbrev by_link : ℕ → Tropical → Back → Put
  by_link x c b = record { from = x; input = b.input; entry = half b.next (c ⊗ b.weight) }

  -- a link as the code puts it in
  link-is : (w : Words) (x : ℕ) (c : Tropical) (k : ℕ) (b : Back) → Within sum_limit c → Within sum_limit b.weight → next_word w.part p.links k ≡ b.next → of_bits binary32 (weight_word w.part p.links k) ≡ of_t unit b.weight
      → repeated p.inputs k ≡ input_field b.input → link_w p x (of_t unit c) k w ≡ put_w p.nodes (coded unit (by_link x c b).entry) x (input_field b.input) w
  link-is w x c k b hc hb n g i =
      λ j. put_w p.nodes (Half (n j) ((ap (add binary32 (of_t unit c)) g ∙ times-of_t unit covered c b.weight hc hb) j)) x (i j) w

  pub stores-links : (bs : List Back) (x : ℕ) (c : Tropical) (n k : ℕ) (s : Search) (w : Words) → Within sum_limit c → length bs ≤ n → Stores unit p size r s w → ChainIs unit p size r w.part k bs
      → ((b : Back) → b ∈ bs → Within sum_limit b.weight × Fine size r (by_link x c b).entry) → slot_length * (length s.entries + length bs) ≤ p.nodes
      → Stores unit p size r (put_all r (map (by_link x c) bs) s) (links_w p x (of_t unit c) n k w)
  stores-links [] x c n k s w hc l t h f room = subst (Stores unit p size r s) (sym (links_end p x (of_t unit c) n k w h)) t
  stores-links (b ∷ bs) x c zero k s w hc l t h f room = absurd (omega arith)
  stores-links (b ∷ bs) x c (suc n) k s w hc l t h f room =
      let e = by_link x c b in
      let g = f b (here b bs) in
      let free : slot_length * (length s.entries + 1) ≤ p.nodes = omega arith in
      let free-w : slot_length * (w.counts.entries + 1) ≤ p.nodes = omega (arith, t.entries-count) in
      let q = link-is w x c k b hc g.0 h.2 h.3 h.4 in
      let new = put_w p.nodes (coded unit e.entry) x (input_field b.input) w in
      let kept = chain-kept unit p size r w.part new.part (sym (length-put p w (coded unit e.entry) x (input_field b.input) t.sized free-w)) (λ j i. sym (put-beyond p w (coded unit e.entry) x (input_field b.input) t.sized free-w j (omega (arith, t.sized.after)))) (chain_word w.part p.links k) bs h.5 in
      let rest = stores-links bs x c n (chain_word w.part p.links k) (put r e s) new hc (omega arith) (stores-put unit covered p size r s w t e g.1 free) kept (λ y i. f y (Memᴰ.tail i)) (omega (arith, length-append s.entries (e ∷ []))) in
      subst (Stores unit p size r (put_all r (map (by_link x c) bs) (put r e s))) (sym (links-step p x (of_t unit c) n k w h.0 ∙ ap (links_w p x (of_t unit c) n (chain_word w.part p.links k)) q)) rest

  put_all-append : (a b : List Put) (s : Search) → put_all r (a ++ b) s ≡ put_all r b (put_all r a s)
  put_all-append [] b s = refl
  put_all-append (e ∷ a) b s = put_all-append a b (put r e s)

  pub put_all-entries : (a : List Put) (s : Search) → (put_all r a s).entries ≡ s.entries ++ a
  put_all-entries [] s = sym (append-nil s.entries)
  put_all-entries (e ∷ a) s = put_all-entries a (put r e s) ∙ mathlib.Core.List.append_assoc s.entries (e ∷ []) a

  -- ---- an expansion
  pub stores-expand : (x v : ℕ) (c : Tropical) (most : ℕ) (s : Search) (w : Words) → v < size → Within sum_limit c → length (r.out v) ≤ most → Stores unit p size r s w
      → ((e : Put) → e ∈ expansion r x v c → Fine size r e.entry) → slot_length * (length s.entries + length (expansion r x v c)) ≤ p.nodes
      → Stores unit p size r (put_all r (expansion r x v c) s) (expand_w p most x v (of_t unit c) w)
  stores-expand x v c most s w hv hc l t f room = subst (λ z. Stores unit p size r z (expand_w p most x v (of_t unit c) w)) (sym (put_all-append out stop s)) (go (r.ends v) refl)
    where
      out : List Put
      out = map (by_link x c) (r.out v)

      end : Put
      end = record { from = x; input = none; entry = finished c }

      stop : List Put
      stop = cond (r.ends v) (end ∷ []) []

      linked : Words
      linked = links_w p x (of_t unit c) most (head_word w.part p.nodes v) w

      links : Stores unit p size r (put_all r out s) linked
      links = stores-links (r.out v) x c most (head_word w.part p.nodes v) s w hc l t (t.laid.chains v hv)
          (λ b i. ((t.laid.leads v b i).1, f (by_link x c b) (Memᴰ.append_left stop (map-mem (by_link x c) i)))) (omega (arith, length-append out stop, length-map (r.out v) (by_link x c)))

      room-end : r.ends v ≡ true → slot_length * (length (put_all r out s).entries + 1) ≤ p.nodes
      room-end e = omega (arith, ap length (put_all-entries out s), length-append s.entries out, length-append out stop, ap (λ (b : Bool). length (cond b (end ∷ []) [])) e)

      go : (b : Bool) → r.ends v ≡ b → Stores unit p size r (put_all r (cond b (end ∷ []) []) (put_all r out s)) (expand_w p most x v (of_t unit c) w)
      go true e =
          subst (Stores unit p size r (put r end (put_all r out s))) (sym (expand-end p most x v (of_t unit c) w (eqb-true v p.end (t.laid.ends v hv ∙ e))))
          (stores-put unit covered p size r (put_all r out s) linked links end (f end (Memᴰ.append_right out (subst (λ y. end ∈ cond y (end ∷ []) []) (sym e) (here end [])))) (room-end e))
      go false e = subst (Stores unit p size r (put_all r out s)) (sym (expand-on p most x v (of_t unit c) w (eqb-false v p.end (t.laid.ends v hv ∙ e)))) links

  -- ---- the same entries, with other words beside them
  module _ (s : Search) (w : Words) (t : Stores unit p size r s w) where
    pub rebuilt : (h vs ls : List ℕ) (k : ℕ) (z : Words) → Sized p z → z.counts.entries ≡ w.counts.entries → z.counts.heap ≡ length h → z.counts.listed ≡ length ls → z.counts.taken ≡ k
        → length z.part ≡ length w.part → ((i : ℕ) → i < length s.entries → (c : ℕ) → c < 5 → get_or z.part (slot_length * i + c) 0 ≡ get_or w.part (slot_length * i + c) 0)
        → heap_of z.part (length h) ≡ h → listed_of z.part (length ls) ≡ ls → length ls ≤ length s.entries → ((q : ℕ) → q < size → visits_word z.part p.nodes q ≡ get_or vs q 0) → Laid unit p size r z.part
        → Stores unit p size r (record { entries = s.entries; heap = h; visits = vs; listed = ls; taken = k }) z
    rebuilt h vs ls k z sized ec hc lc tc l f hp lp few vp laid = record {
      sized = sized;
      entries-count = ec ∙ t.entries-count;
      heap-count = hc;
      listed-count = lc;
      taken-count = tc;
      entries = λ i b. let y = t.entries i b in record {
        node = word z.part i ∙ f i b 0 (omega arith) ∙ sym (word w.part i) ∙ y.node;
        cost = f i b 1 (omega arith) ∙ y.cost;
        from = f i b 2 (omega arith) ∙ y.from;
        input = f i b 3 (omega arith) ∙ y.input;
      };
      ranks = λ i b. f i b 4 (omega arith) ∙ t.ranks i b;
      fine = t.fine;
      heap = hp;
      listed = lp;
      listed-few = few;
      visits = vp;
      laid = laid;
    }
      where
        word : (part : List ℕ) (i : ℕ) → node_word part i ≡ get_or part (slot_length * i + 0) 0
        word part i = ap (λ j. get_or part j 0) (let y : slot_length * i ≡ slot_length * i + 0 = omega arith in y)

    slots-in : slot_length * length s.entries ≤ p.nodes
    slots-in = omega (arith, t.entries-count, t.sized.room)

    -- ---- the head removed
    module _ (some_in : 0 < length s.heap) where
      heap-some : 0 < w.counts.heap
      heap-some = omega (arith, t.heap-count)

      heap-room : slot_length * w.counts.heap ≤ length w.part
      heap-room = omega (arith, t.sized.heap-few, t.sized.room, t.sized.after, t.sized.inside)

      abbrev es : List Put
      es = s.entries

      ranked : (a : ℕ) → a < length es → Ranked unit r w.part a (get_or es a first).entry
      ranked a b = record { named = named size r (get_or es a first).entry t.laid.small (t.fine a b); node = (t.entries a b).node; within = (t.fine a b).ranked; bits = t.ranks a b }

      pub heap-without : heap_of (without w).part (w.counts.heap - 1) ≡ popped (before r es) s.heap
      heap-without =
          pop-is (before r es) (λ a. a < length es) w.part w.counts.heap heap-room heap-some (λ i b. omega (arith, t.sized.each i b, t.entries-count))
          (λ a b h k. less-precedes unit covered r w.part a b (get_or es a first).entry (get_or es b first).entry (ranked a h) (ranked b k))
          ∙ ap (λ n. popped (before r es) (heap_of w.part n)) t.heap-count ∙ ap (popped (before r es)) t.heap

      popped-length : (h : List ℕ) → 0 < length h → length (popped (before r es) h) ≡ length h - 1
      popped-length [] b = absurd (omega arith)
      popped-length (a ∷ h) b = omega (arith, perm-length (popped-keeps (before r es) a h))

      beyond : (j : ℕ) → p.nodes ≤ j → get_or (without w).part j 0 ≡ get_or w.part j 0
      beyond j b = pop-beyond w.part w.counts.heap heap-some j 0 (omega (arith, t.sized.heap-few, t.sized.room))

      pub stores-without : Stores unit p size r (record { entries = s.entries; heap = popped (before r es) s.heap; visits = s.visits; listed = s.listed; taken = suc s.taken }) (without w)
      stores-without =
          let n : length (popped (before r es) s.heap) ≡ w.counts.heap - 1 = omega (arith, popped-length s.heap some_in, t.heap-count) in
          rebuilt (popped (before r es) s.heap) s.visits s.listed (suc s.taken) (without w) (sized-without p w t.sized heap-some) refl (sym n) t.listed-count (omega (arith, t.taken-count))
          (pop-length w.part w.counts.heap heap-some)
          (λ i b c h. pop-other w.part w.counts.heap heap-some (slot_length * i + c) 0 (λ z. omega arith))
          (ap (heap_of (without w).part) n ∙ heap-without)
          (list_below-same (length s.listed) (listed_word (without w).part) (listed_word w.part) (λ i b. pop-other w.part w.counts.heap heap-some (slot_length * i + 6) 0 (λ z. omega arith)) ∙ t.listed)
          t.listed-few (λ q b. beyond (p.nodes + slot_length * q + 3) (omega arith) ∙ t.visits q b)
          (laid_kept unit p size r w.part (without w).part (sym (pop-length w.part w.counts.heap heap-some)) (λ q b. same-words w.part (without w).part (p.nodes + slot_length * q) (p.nodes + slot_length * q) (sym (beyond (p.nodes + slot_length * q) (omega arith))) (sym (beyond (p.nodes + slot_length * q + 1) (omega arith)))) (λ q b. sym (beyond (p.nodes + slot_length * q + 2) (omega arith))) (λ j b. sym (beyond j (omega (arith, t.sized.after)))) t.laid)

      -- the head, and its entry
      pub head-is : heap_word w.part 0 ≡ get_or s.heap 0 0
      head-is = sym (heap-at w.part (length s.heap) 0 some_in) ∙ ap (λ h. get_or h 0 0) t.heap

      pub head_in : heap_word w.part 0 < length s.entries
      head_in = omega (arith, t.sized.each 0 heap-some, t.entries-count)

    pub entry-is : (x : ℕ) → x < length s.entries → entry_w w.part x ≡ coded unit (get_or s.entries x first).entry
    entry-is x b = go (get_or s.entries x first).entry (t.entries x b).node (ap (of_bits binary32) (t.entries x b).cost ∙ bits_back unit covered (S.cost_of (get_or s.entries x first).entry)) (t.fine x b)
      where
        go : (e : S.Entry) → node_word w.part x ≡ node_field e → of_bits binary32 (cost_word w.part x) ≡ of_t unit (S.cost_of e) → Fine size r e → entry_w w.part x ≡ coded unit e
        go (half v c) n k f = entry-half w.part x (λ z. omega (arith, z, n, f.node v c refl, t.laid.small)) ∙ (λ i. Half (n i) (k i))
        go (finished c) n k f = entry-finished w.part x n ∙ ap Finished k

    -- ---- listed next
    pub stores-listing : (x n most : ℕ) → length s.listed < length s.entries → Stores unit p size r (record { entries = s.entries; heap = s.heap; visits = s.visits; listed = s.listed ++ (x ∷ []); taken = s.taken }) (listing p n most x w)
    unfolding list_below
    stores-listing x n most few =
        let at = slot_length * w.counts.listed + 6 in
        let long = length-set w.part at x in
        let other : (j : ℕ) → (j ≡ at → ⊥) → get_or (set w.part at x) j 0 ≡ get_or w.part j 0 = λ j z. get_or-set_other w.part at j x 0 z in
        let low : at < p.nodes = omega (arith, slots-in, t.listed-count) in
        let grown = length-append s.listed (x ∷ []) in
        rebuilt s.heap s.visits (s.listed ++ (x ∷ [])) s.taken (listing p n most x w)
        (record {
          heap-few = t.sized.heap-few;
          room = t.sized.room;
          after = t.sized.after;
          inside = omega (arith, long, t.sized.inside);
          small = t.sized.small;
          each = λ i b. omega (arith, t.sized.each i b, other (slot_length * i + 5) (λ z. omega (arith, z)));
          numbers = λ i b. subst Number (sym (other (slot_length * i + 4) (λ z. omega (arith, z)))) (t.sized.numbers i b);
        })
        refl t.heap-count (omega (arith, grown, t.listed-count)) t.taken-count long (λ i b c h. other (slot_length * i + c) (λ z. omega (arith, z)))
        (heap-same (set w.part at x) w.part (length s.heap) (λ i b. other (slot_length * i + 5) (λ z. omega (arith, z))) ∙ t.heap)
        (ap (listed_of (set w.part at x)) (grown ∙ let z : length s.listed + 1 ≡ suc (length s.listed) = omega arith in z) ∙ list-more at refl other low)
        (omega (arith, grown)) (λ q b. other (p.nodes + slot_length * q + 3) (λ z. omega (arith, z)) ∙ t.visits q b)
        (laid_kept unit p size r w.part (set w.part at x) (sym long) (λ q b. same-words w.part (set w.part at x) (p.nodes + slot_length * q) (p.nodes + slot_length * q) (sym (other (p.nodes + slot_length * q) (λ z. omega (arith, z)))) (sym (other (p.nodes + slot_length * q + 1) (λ z. omega (arith, z))))) (λ q b. sym (other (p.nodes + slot_length * q + 2) (λ z. omega (arith, z)))) (λ j b. sym (other j (λ z. omega (arith, z, t.sized.after)))) t.laid)
      where
        list-more : (at : ℕ) → at ≡ slot_length * w.counts.listed + 6 → ((j : ℕ) → (j ≡ at → ⊥) → get_or (set w.part at x) j 0 ≡ get_or w.part j 0) → at < p.nodes → listed_of (set w.part at x) (suc (length s.listed)) ≡ s.listed ++ (x ∷ [])
        list-more at e o b =
            let n = length s.listed in
            let last : listed_word (set w.part at x) n ≡ x = ap (λ j. get_or (set w.part at x) j 0) (let z : slot_length * n + 6 ≡ at = omega (arith, e, t.listed-count) in z) ∙ get_or-set_same w.part at x 0 (omega (arith, t.sized.after, t.sized.inside)) in
            let front : listed_of (set w.part at x) n ≡ s.listed = list_below-same n (listed_word (set w.part at x)) (listed_word w.part) (λ i h. o (slot_length * i + 6) (λ z. omega (arith, z, e, t.listed-count))) ∙ t.listed in
            λ i. front i ++ (last i ∷ [])

    -- ---- a visit of node v
    module _ (v : ℕ) (hv : v < size) (wide : length s.visits ≡ size) where
      same_count : visits_word w.part p.nodes v + 1 ≡ suc (get_or s.visits v 0)
      same_count = omega (arith, t.visits v hv)

      other : (j : ℕ) → (j ≡ p.nodes + slot_length * v + 3 → ⊥) → get_or (visited p v w).part j 0 ≡ get_or w.part j 0
      other j z = get_or-set_other w.part (p.nodes + slot_length * v + 3) j (visits_word w.part p.nodes v + 1) 0 z

      at_low : p.nodes + slot_length * v + 3 < p.links
      at_low = omega (arith, t.laid.room)

      long : length (visited p v w).part ≡ length w.part
      long = length-set w.part (p.nodes + slot_length * v + 3) (visits_word w.part p.nodes v + 1)

      pub stores-visited : Stores unit p size r (record { entries = s.entries; heap = s.heap; visits = set s.visits v (suc (get_or s.visits v 0)); listed = s.listed; taken = s.taken }) (visited p v w)
      stores-visited =
          rebuilt s.heap (set s.visits v (suc (get_or s.visits v 0))) s.listed s.taken (visited p v w)
          (sized-visited p w v t.sized) refl t.heap-count t.listed-count t.taken-count long (λ i b c h. other (slot_length * i + c) (λ z. omega (arith, z, slots-in)))
          (heap-same (visited p v w).part w.part (length s.heap) (λ i b. other (slot_length * i + 5) (λ z. omega (arith, z, t.heap-count, t.sized.heap-few, t.sized.room))) ∙ t.heap)
          (list_below-same (length s.listed) (listed_word (visited p v w).part) (listed_word w.part) (λ i b. other (slot_length * i + 6) (λ z. omega (arith, z, t.listed-few, slots-in))) ∙ t.listed)
          t.listed-few (λ q b. counts q b (ℕ_discrete q v))
          (laid_kept unit p size r w.part (visited p v w).part (sym long) (λ q b. same-words w.part (visited p v w).part (p.nodes + slot_length * q) (p.nodes + slot_length * q) (sym (other (p.nodes + slot_length * q) (λ z. omega (arith, z)))) (sym (other (p.nodes + slot_length * q + 1) (λ z. omega (arith, z))))) (λ q b. sym (other (p.nodes + slot_length * q + 2) (λ z. omega (arith, z)))) (λ j b. sym (other j (λ z. omega (arith, z, at_low)))) t.laid)
        where
          counts : (q : ℕ) → q < size → Dec (q ≡ v) → visits_word (visited p v w).part p.nodes q ≡ get_or (set s.visits v (suc (get_or s.visits v 0))) q 0
          counts q b (yes z) =
              ap (visits_word (visited p v w).part p.nodes) z ∙ get_or-set_same w.part (p.nodes + slot_length * v + 3) (visits_word w.part p.nodes v + 1) 0 (omega (arith, at_low, t.sized.inside)) ∙ same_count
              ∙ sym (ap (λ k. get_or (set s.visits v (suc (get_or s.visits v 0))) k 0) z ∙ get_or-set_same s.visits v (suc (get_or s.visits v 0)) 0 (omega (arith, wide)))
          counts q b (no z) = other (p.nodes + slot_length * q + 3) (λ y. z (omega arith)) ∙ t.visits q b ∙ sym (get_or-set_other s.visits v q (suc (get_or s.visits v 0)) 0 z)

  -- ---- one removal
  module _ (n most : ℕ) (s : Search) (w : Words) (t : Stores unit p size r s w) (some_in : 0 < length s.heap) (wide : length s.visits ≡ size)
      (fans : (v : ℕ) → v < size → length (r.out v) ≤ most) (few : length (step r n s).listed ≤ length s.entries)
      (fine : (i : ℕ) → i < length (step r n s).entries → Fine size r (get_or (step r n s).entries i first).entry) (room : slot_length * length (step r n s).entries ≤ p.nodes) where
    abbrev x : ℕ
    x = get_or s.heap 0 0

    abbrev h : List ℕ
    h = popped (before r s.entries) s.heap

    -- the search without its head
    abbrev s₁ : Search
    s₁ = record { entries = s.entries; heap = h; visits = s.visits; listed = s.listed; taken = suc s.taken }

    t₁ : Stores unit p size r s₁ (without w)
    t₁ = stores-without s w t some_in

    x-in : get_or s.heap 0 0 < length s.entries
    x-in = omega (arith, head_in s w t some_in, head-is s w t some_in)

    taking : (e : S.Entry) → (get_or s.entries (get_or s.heap 0 0) first).entry ≡ e → length (taken_by r n x h e s).listed ≤ length s.entries
        → ((i : ℕ) → i < length (taken_by r n x h e s).entries → Fine size r (get_or (taken_by r n x h e s).entries i first).entry) → slot_length * length (taken_by r n x h e s).entries ≤ p.nodes
        → Stores unit p size r (taken_by r n x h e s) (taken_w p n most x (coded unit e) (without w))
    taking (finished (fin k)) q l f b =
        subst (Stores unit p size r (taken_by r n x h (finished (fin k)) s)) (sym (taken-finished p n most x (without w) refl ∙ finished-listed x (without w) (of_t unit (fin k)) (lt-of_t unit covered (fin k) inf (subst (Fine size r) q (t.fine (get_or s.heap 0 0) x-in)).cost tt)))
        (stores-listing s₁ (without w) t₁ x n most (omega (arith, l, length-append s.listed (x ∷ []))))
    taking (finished inf) q l f b =
        subst (Stores unit p size r s₁) (sym (taken-finished p n most x (without w) refl ∙ finished-barred x (without w) (of_t unit inf) (lt-of_t unit covered inf inf tt tt))) t₁
    taking (half v c) q l f b = go (leb (suc (get_or s.visits v 0)) n) refl f b
      where
        found : Fine size r (half v c)
        found = subst (Fine size r) q (t.fine (get_or s.heap 0 0) x-in)

        hv : v < size
        hv = found.node v c refl

        s₂ : Search
        s₂ = record { entries = s.entries; heap = h; visits = set s.visits v (suc (get_or s.visits v 0)); listed = s.listed; taken = suc s.taken }

        t₂ : Stores unit p size r s₂ (visited p v (without w))
        t₂ = stores-visited s₁ (without w) t₁ v hv wide

        new : (e : Put) → e ∈ expansion r x v c → ((i : ℕ) → i < length (put_all r (expansion r x v c) s₂).entries → Fine size r (get_or (put_all r (expansion r x v c) s₂).entries i first).entry) → Fine size r e.entry
        new e i g =
            let y = mem-get_or first i in
            let z = put_all-entries (expansion r x v c) s₂ in
            subst (λ (k : Put). Fine size r k.entry) (ap (λ l. get_or l (length s.entries + y.0) first) z ∙ get_or-append-add s.entries (expansion r x v c) y.0 first ∙ y.2)
            (g (length s.entries + y.0) (omega (arith, ap length z, length-append s.entries (expansion r x v c), y.1)))

        go : (b : Bool) → leb (suc (get_or s.visits v 0)) n ≡ b → ((i : ℕ) → i < length (cond b (put_all r (expansion r x v c) s₂) s₂).entries → Fine size r (get_or (cond b (put_all r (expansion r x v c) s₂) s₂).entries i first).entry) → slot_length * length (cond b (put_all r (expansion r x v c) s₂) s₂).entries ≤ p.nodes
            → Stores unit p size r (cond b (put_all r (expansion r x v c) s₂) s₂) (taken_w p n most x (coded unit (half v c)) (without w))
        go true k g m =
            subst (Stores unit p size r (put_all r (expansion r x v c) s₂)) (sym (taken-expanded p n most x (without w) refl (omega (arith, t₁.visits v hv, leb-true (suc (get_or s.visits v 0)) n k))))
            (stores-expand x v c most s₂ (visited p v (without w)) hv found.cost (fans v hv) t₂ (λ e i. new e i g) (omega (arith, m, ap length (put_all-entries (expansion r x v c) s₂), length-append s.entries (expansion r x v c))))
        go false k g m =
            subst (Stores unit p size r s₂) (sym (taken-over p n most x (without w) refl (omega (arith, t₁.visits v hv, leb-false (suc (get_or s.visits v 0)) n k)))) t₂

    pub stores-step : Stores unit p size r (step r n s) (step_w p n most w)
    unfolding step
    stores-step =
        subst (Stores unit p size r (step r n s))
        ((λ i. taken_w p n most (sym (head-is s w t some_in) i) (sym (entry-is s w t (get_or s.heap 0 0) x-in ∙ refl) i) (without w)) ∙ ap (λ k. taken_w p n most (heap_word w.part 0) (entry_w w.part k) (without w)) (sym (head-is s w t some_in)) ∙ step_is p n most w)
        (taking (get_or s.entries (get_or s.heap 0 0) first).entry refl few fine room)

  -- ---- and what it asks
  chain-of : (part : List ℕ) (bs : List Back) (k : ℕ) → ChainIs unit p size r part k bs → ((b : Back) → b ∈ bs → p.nodes + slot_length * b.next + 1 < length part) → Chain p part (length bs) k
  unfolding Chain
  chain-of part [] k h f = h
  chain-of part (b ∷ bs) k h f = (h.1, omega (arith, h.2, f b (here b bs)), chain-of part bs (chain_word part p.links k) h.5 (λ y i. f y (Memᴰ.tail i)))

  module _ (n : ℕ) (s : Search) (w : Words) (t : Stores unit p size r s w) (some_in : 0 < length s.heap) (small : length s.entries < 4294967295) (few : length s.listed < length s.entries) (taken : s.taken < 4294967295)
      (visits : (v : ℕ) → v < size → get_or s.visits v 0 < 4294967295) (room : slot_length * length (step r n s).entries ≤ p.nodes) where
    expands : (v : ℕ) (c : Tropical) → (get_or s.entries (get_or s.heap 0 0) first).entry ≡ half v c → v < size → suc (get_or s.visits v 0) ≤ n → Expands p w v
    unfolding step
    expands v c q hv l = record {
      fan = length (r.out v);
      slot = omega (arith, t.laid.room);
      chain = chain-of w.part (r.out v) (head_word w.part p.nodes v) (t.laid.chains v hv) (λ b i. omega (arith, (t.laid.leads v b i).0, t.laid.room, t.sized.inside));
      free = omega (arith, count, t.entries-count, ap {B = ℕ} (λ (b : Bool). cond b 1 0) (t.laid.ends v hv), length-append out stop, length-map (r.out v) (by_link (get_or s.heap 0 0) c), stops (r.ends v));
    }
      where
        out : List Put
        out = map (by_link (get_or s.heap 0 0) c) (r.out v)

        end : Put
        end = record { from = get_or s.heap 0 0; input = none; entry = finished c }

        stop : List Put
        stop = cond (r.ends v) (end ∷ []) []

        stops : (b : Bool) → length (cond b (end ∷ []) []) ≡ cond b 1 0
        stops true = refl
        stops false = refl

        expanded : Search
        expanded = record { entries = s.entries; heap = popped (before r s.entries) s.heap; visits = set s.visits v (suc (get_or s.visits v 0)); listed = s.listed; taken = suc s.taken }

        -- the entries after this removal
        count : slot_length * (length s.entries + length (out ++ stop)) ≤ p.nodes
        count =
            let e = ap (λ (y : S.Entry). (taken_by r n (get_or s.heap 0 0) (popped (before r s.entries) s.heap) y s).entries) q ∙ ap (λ (b : Bool). (cond b (put_all r (out ++ stop) expanded) expanded).entries) (le-leb (suc (get_or s.visits v 0)) n l) ∙ put_all-entries (out ++ stop) expanded in
            omega (arith, room, ap length e, length-append s.entries (out ++ stop))

    pub ready : Ready p n w
    ready = record {
      sized = t.sized;
      few-taken = omega (arith, t.taken-count);
      takes = subst (Takes p n w) (sym (ap (entry_w w.part) (head-is s w t some_in) ∙ entry-is s w t (get_or s.heap 0 0) in-it)) (go (get_or s.entries (get_or s.heap 0 0) first).entry refl);
    }
      where
        in-it : get_or s.heap 0 0 < length s.entries
        in-it = omega (arith, head_in s w t some_in, head-is s w t some_in)

        go : (e : S.Entry) → (get_or s.entries (get_or s.heap 0 0) first).entry ≡ e → Takes p n w (coded unit e)
        go (finished c) q = (omega (arith, t.listed-count, t.entries-count, t.sized.room), omega (arith, t.listed-count))
        go (half v c) q =
            let hv = (t.fine (get_or s.heap 0 0) in-it).node v c q in
            (omega (arith, t.laid.room), omega (arith, t.visits v hv, visits v hv), λ b. expands v c q hv (omega (arith, t.visits v hv)))
