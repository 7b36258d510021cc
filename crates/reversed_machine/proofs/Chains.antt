-- The chains that the passes of the reversal leave: each lists the links out of its node, by source, then position. Assumes nothing.
use mathlib.Core.Path.{◌≡◌, refl, sym, ap, ◌∙◌, subst}
use mathlib.Core.Bool.{Bool, true, false, cond}
use mathlib.Core.Option.{Option, none, some}
use mathlib.Core.List.{List, [], ◌∷◌}
use Prim.Native.Nat.{ℕ, zero, suc, ◌+◌, ◌*◌, ◌≤◌, ◌<◌}
use native.Mathlib.Nat.{add-zero, le_refl}
use native.Mathlib.Decide.{ℕ_discrete}
use native.Mathlib.Omega.{arith}
use lib.Dec.{eqb}
use lib.ListN.{length, get_or, drop, drop_of_length-le}
use lib.Seq.{drop-cons}
use borrow.Author.Tests.{eq-eqb, ne_eqb, eqb-true, eqb-false, lt-ltb, le-ltb}
use Rattle.tropical_weight.specs.Tropical.{Tropical}
use Rattle.sheet.specs.Below.{sum_below}
use Rattle.tropical_weight.specs.Grid.{of_t}
use Rattle.sheet.specs.Words.{word_length, word}
use Rattle.sheet.specs.Sheet.{link_length}
use Rattle.sheet.specs.Records.{count_at, first_link, mark_at, final_at}
use Rattle.sheet.specs.Machine.{Machine, unit_in, weight_of}
use Rattle.sheet.proofs.Below.{sum_mono}
use Rattle.machine.specs.Readings.{no_link, link, final}
use Rattle.search.specs.Reversed.{out_of_zero, links_into}
use Rattle.slots.specs.Slots.{slot_length, nothing}
use Rattle.search_slots.specs.Slots.{head_word, next_word, weight_word, chain_word}
use Rattle.machine.specs.Finals.{final_count}
use Rattle.reversed_machine.specs.ReverseWords.{link_put, links_put, links_reversed, final_put, finals_reversed, chained, back_of}
use Rattle.machine.proofs.FinalCount.{count-plain, count-final, count-mono}
use Rattle.machine.proofs.SheetFields.{SheetFields}
use Rattle.reversed_machine.proofs.Fronts.{front-size, front-next, front-weight, front-chain, front-head, front-spared, Lists, Same, lists-lower, lists-kept, lists-first, Filled, filled-kept, filled-by}

-- ---- the definitions, a link or a node more
module _ (m : Machine) where
  into-none : (v l : ℕ) → length m.links ≤ l → links_into v (drop l m.links) l ≡ []
  unfolding links_into
  into-none v l h = ap (λ ks. links_into v ks l) (drop_of_length-le m.links h)

  into_next : (v l : ℕ) (b : Bool) → l < length m.links → eqb (link m l).next v ≡ b
      → links_into v (drop l m.links) l ≡ cond b (record { input = some l; weight = (link m l).weight; next = suc (link m l).source } ∷ links_into v (drop (suc l) m.links) (suc l)) (links_into v (drop (suc l) m.links) (suc l))
  unfolding links_into
  into_next v l b h e =
      ap (λ ks. links_into v ks l) (drop-cons m.links l no_link h)
      ∙ ap (λ (t : Bool). cond t (record { input = some l; weight = (link m l).weight; next = suc (link m l).source } ∷ links_into v (drop (suc l) m.links) (suc l)) (links_into v (drop (suc l) m.links) (suc l))) e

  zero-none : (v : ℕ) → length m.finals ≤ v → out_of_zero (drop v m.finals) v ≡ []
  unfolding out_of_zero
  zero-none v h = ap (λ fs. out_of_zero fs v) (drop_of_length-le m.finals h)

  zero-next : (v : ℕ) (o : Option Tropical) → v < length m.finals → final m v ≡ o → out_of_zero (drop v m.finals) v ≡ out_of_zero (o ∷ drop (suc v) m.finals) v
  zero-next v o h e = ap (λ fs. out_of_zero fs v) (drop-cons m.finals v none h ∙ ap (λ x. x ∷ drop (suc v) m.finals) e)

module _ (bytes : List ℕ) (T N : ℕ) (m : Machine) (s : SheetFields bytes T N m) (nodes links : ℕ) (apart : nodes + slot_length * (N + 1) ≤ links) where
  -- ---- the links from number l on are in their chains
  pub record Passed (l : ℕ) (part : List ℕ) : Type 0 where
    pub room : links + slot_length * T ≤ length part
    pub chains : (v : ℕ) → v < N → Lists (unit_in m) links T T part l (head_word part nodes (suc v)) (links_into v (drop l m.links) l)
    pub front : head_word part nodes 0 ≡ nothing
    pub slots : (k : ℕ) → l ≤ k → k < T → Filled (unit_in m) links T T N part k

  module _ (v l : ℕ) (h : l < T) (source : (link m l).source ≡ v) (inside : v < N) (part : List ℕ) (p : Passed (suc l) part) where
    abbrev nx : ℕ
    nx = word bytes (link_length * l + 12)

    abbrev new : List ℕ
    new = link_put bytes nodes links v l part

    nx-in : nx < N
    nx-in = subst (λ (n : ℕ). n < N) (sym (s.next-at l h)) (s.next-in l h)

    below : nodes + slot_length * (nx + 1 + 1) ≤ links
    below = omega (arith, nx-in)

    fits : links + slot_length * l + 8 ≤ length part
    fits = omega (arith, p.room)

    spared : (i : ℕ) → (i ≡ nodes + slot_length * (nx + 1) + 2 → ⊥) → (i ≡ links + slot_length * l → ⊥) → (i ≡ links + slot_length * l + 1 → ⊥) → (i ≡ links + slot_length * l + 2 → ⊥) → get_or new i 0 ≡ get_or part i 0
    spared = front-spared nodes links (nx + 1) l (v + 1) (word bytes (link_length * l + 8)) part below fits (nodes + slot_length * (nx + 1) + 2) refl

    -- the slots of the links after it, and the heads of other nodes
    later : Same links T (suc l) part new
    later = record {
      next = λ k a b. spared (links + slot_length * k) (λ e. omega (arith, nx-in)) (λ e. omega arith) (λ e. omega arith) (λ e. omega arith);
      weight = λ k a b. spared (links + slot_length * k + 1) (λ e. omega (arith, nx-in)) (λ e. omega arith) (λ e. omega arith) (λ e. omega arith);
      chain = λ k a b. spared (links + slot_length * k + 2) (λ e. omega (arith, nx-in)) (λ e. omega arith) (λ e. omega arith) (λ e. omega arith);
    }

    other-head : (q : ℕ) → q ≤ N → (q ≡ nx + 1 → ⊥) → head_word new nodes q ≡ head_word part nodes q
    other-head q b n = spared (nodes + slot_length * q + 2) (λ e. n (omega arith)) (λ e. omega arith) (λ e. omega arith) (λ e. omega arith)

    back_is : back_of (unit_in m) new links T l ≡ record { input = some l; weight = (link m l).weight; next = suc (link m l).source }
    back_is =
        let to : next_word new links l ≡ suc (link m l).source = front-next nodes links (nx + 1) l (v + 1) (word bytes (link_length * l + 8)) part below fits (nodes + slot_length * (nx + 1) + 2) refl ∙ omega (arith, source) in
        let at : weight_of (unit_in m) (weight_word new links l) ≡ (link m l).weight = ap (weight_of (unit_in m)) (front-weight nodes links (nx + 1) l (v + 1) (word bytes (link_length * l + 2 * word_length)) part below fits (nodes + slot_length * (nx + 1) + 2) refl) ∙ s.weight-at l h in
        λ i. record { input = cond (lt-ltb l T h i) (some l) none; weight = at i; next = to i }

    chains-after : (u : ℕ) → u < N → Lists (unit_in m) links T T new l (head_word new nodes (suc u)) (links_into u (drop l m.links) l)
    chains-after u b = elim (ℕ_discrete (suc u) (nx + 1)) [
      | yes e ↦
          let into : eqb (link m l).next u ≡ true = eq-eqb (link m l).next u (omega (arith, s.next-at l h)) in
          let head : head_word new nodes (suc u) ≡ l = ap (head_word new nodes) e ∙ front-head nodes links (nx + 1) l (v + 1) (word bytes (link_length * l + 8)) part below fits (nodes + slot_length * (nx + 1) + 2) refl in
          let chain : chain_word new links l ≡ head_word part nodes (suc u) = front-chain nodes links (nx + 1) l (v + 1) (word bytes (link_length * l + 8)) part below fits (nodes + slot_length * (nx + 1) + 2) refl ∙ ap (head_word part nodes) (sym e) in
          let rest = lists-kept (unit_in m) links T T part new (suc l) (head_word part nodes (suc u)) (links_into u (drop (suc l) m.links) (suc l)) later (p.chains u b) in
          subst (λ bs. Lists (unit_in m) links T T new l (head_word new nodes (suc u)) bs) (sym (into_next m u l true (in_list l h) into))
          (subst (λ (k : ℕ). Lists (unit_in m) links T T new l k (record { input = some l; weight = (link m l).weight; next = suc (link m l).source } ∷ links_into u (drop (suc l) m.links) (suc l))) (sym head)
          (le_refl l, h, back_is, subst (λ (k : ℕ). Lists (unit_in m) links T T new (suc l) k (links_into u (drop (suc l) m.links) (suc l))) (sym chain) rest))
      | no n ↦
          let aside : eqb (link m l).next u ≡ false = ne_eqb (link m l).next u (λ e. n (omega (arith, s.next-at l h))) in
          let rest = lists-kept (unit_in m) links T T part new (suc l) (head_word part nodes (suc u)) (links_into u (drop (suc l) m.links) (suc l)) later (p.chains u b) in
          subst (λ bs. Lists (unit_in m) links T T new l (head_word new nodes (suc u)) bs) (sym (into_next m u l false (in_list l h) aside))
          (subst (λ (k : ℕ). Lists (unit_in m) links T T new l k (links_into u (drop (suc l) m.links) (suc l))) (sym (other-head (suc u) (omega arith) n))
          (lists-lower (unit_in m) links T T new (suc l) l (head_word part nodes (suc u)) (links_into u (drop (suc l) m.links) (suc l)) (omega arith) rest))
    ]
      where
        in_list : (l : ℕ) → l < T → l < length m.links
        in_list l h = subst (λ (n : ℕ). l < n) (sym s.links-are) h

    slots-after : (k : ℕ) → l ≤ k → k < T → Filled (unit_in m) links T T N new k
    slots-after k a b = elim (ℕ_discrete k l) [
      | yes e ↦
          let start = lists-first (unit_in m) links T T part (suc l) (head_word part nodes (suc nx)) (links_into nx (drop (suc l) m.links) (suc l)) (p.chains nx nx-in) in
          let same : head_word part nodes (nx + 1) ≡ head_word part nodes (suc nx) = ap (head_word part nodes) (let z : nx + 1 ≡ suc nx = omega arith in z) in
          subst (λ (j : ℕ). Filled (unit_in m) links T T N new j) (sym e)
          (filled-by (unit_in m) links T T N new l (head_word part nodes (suc nx)) (v + 1) (word bytes (link_length * l + 2 * word_length))
          (front-chain nodes links (nx + 1) l (v + 1) (word bytes (link_length * l + 8)) part below fits (nodes + slot_length * (nx + 1) + 2) refl ∙ same)
          (front-next nodes links (nx + 1) l (v + 1) (word bytes (link_length * l + 8)) part below fits (nodes + slot_length * (nx + 1) + 2) refl)
          (front-weight nodes links (nx + 1) l (v + 1) (word bytes (link_length * l + 8)) part below fits (nodes + slot_length * (nx + 1) + 2) refl)
          start (omega arith) (omega (arith, inside)) (s.link-value l h ∙ ap (of_t (unit_in m)) (sym (s.weight-at l h))))
      | no n ↦ filled-kept (unit_in m) links T T N (suc l) part new later k (omega arith) b (p.slots k (omega arith) b)
    ]

    link-passed : Passed l (link_put bytes nodes links v l part)
    link-passed = record {
      room = subst (λ (n : ℕ). links + slot_length * T ≤ n) (sym (front-size nodes links (nx + 1) l (v + 1) (word bytes (link_length * l + 8)) part below fits (nodes + slot_length * (nx + 1) + 2) refl)) p.room;
      chains = chains-after;
      front = other-head 0 (omega arith) (λ e. omega arith) ∙ p.front;
      slots = slots-after;
    }

  -- ---- the links of a node, and of all nodes
  first-in : (v : ℕ) → v < N → first_link bytes T v + count_at bytes T v ≤ T
  unfolding sum_below
  first-in v h = omega (arith, sum_mono (count_at bytes T) N (suc v) h, s.counted)

  links-passed : (v : ℕ) → v < N → (n : ℕ) → n ≤ count_at bytes T v → (part : List ℕ) → Passed (first_link bytes T v + n) part → Passed (first_link bytes T v) (links_put bytes nodes links v (first_link bytes T v) n part)
  unfolding links_put
  links-passed v h zero k part p = subst (λ (l : ℕ). Passed l part) (add-zero (first_link bytes T v)) p
  links-passed v h (suc n) k part p =
      let l = first_link bytes T v + n in
      links-passed v h n (omega arith) (link_put bytes nodes links v l part)
      (link-passed v l (omega (arith, first-in v h)) (s.source-at v l h (omega arith) (omega arith)) h part (subst (λ (j : ℕ). Passed j part) (let z : first_link bytes T v + suc n ≡ suc l = omega arith in z) p))

  nodes-passed : (v : ℕ) → v ≤ N → (part : List ℕ) → Passed (first_link bytes T v) part → Passed 0 (links_reversed bytes nodes links T v part)
  unfolding links_reversed sum_below
  nodes-passed zero h part p = p
  nodes-passed (suc v) h part p = nodes-passed v (omega arith) (links_put bytes nodes links v (first_link bytes T v) (count_at bytes T v) part) (links-passed v h (count_at bytes T v) (omega arith) part p)

  pub links-reversed : (part : List ℕ) → links + slot_length * T ≤ length part → ((q : ℕ) → q ≤ N → head_word part nodes q ≡ nothing) → Passed 0 (links_reversed bytes nodes links T N part)
  links-reversed part room blank =
      nodes-passed N (le_refl N) part
      (subst (λ (l : ℕ). Passed l part) (sym s.counted) (record {
        room = room;
        chains = λ v b. subst (λ bs. Lists (unit_in m) links T T part T (head_word part nodes (suc v)) bs) (sym (into-none m v T (omega (arith, s.links-are)))) (blank (suc v) b);
        front = blank 0 (omega arith);
        slots = λ k a b. absurd (omega arith);
      }))

  -- ---- the final nodes from v on are in the chain of node 0, and the others' chains are whole
  abbrev F : ℕ
  F = final_count bytes T N

  pub record Ended (v : ℕ) (part : List ℕ) : Type 0 where
    pub room : links + slot_length * (T + final_count bytes T N) ≤ length part
    pub chains : (u : ℕ) → u < N → Lists (unit_in m) links T T part 0 (head_word part nodes (suc u)) (links_into u m.links 0)
    pub front : Lists (unit_in m) links T (T + final_count bytes T N) part (T + final_count bytes T v) (head_word part nodes 0) (out_of_zero (drop v m.finals) v)
    pub slots : (k : ℕ) → k < T → Filled (unit_in m) links T T N part k
    pub lasts : (k : ℕ) → T + final_count bytes T v ≤ k → k < T + final_count bytes T N → Filled (unit_in m) links T (T + final_count bytes T N) N part k

  module _ (v : ℕ) (h : v < N) (part : List ℕ) (p : Ended (suc v) part) where
    in-finals : v < length m.finals
    in-finals = subst (λ (n : ℕ). v < n) (sym s.nodes-are) h

    -- it is not final
    plain-ended : mark_at bytes T v ≡ 0 → Ended v part
    unfolding out_of_zero
    plain-ended e =
        let o : final m v ≡ none = s.final-at v h ∙ ap (λ (t : Bool). cond t none (some (weight_of (unit_in m) (final_at bytes T v)))) (eq-eqb (mark_at bytes T v) 0 e) in
        record {
          room = p.room;
          chains = p.chains;
          front = subst (λ bs. Lists (unit_in m) links T (T + F) part (T + final_count bytes T v) (head_word part nodes 0) bs) (sym (zero-next m v none in-finals o))
              (subst (λ (c : ℕ). Lists (unit_in m) links T (T + F) part (T + c) (head_word part nodes 0) (out_of_zero (drop (suc v) m.finals) (suc v))) (count-plain bytes T v (suc v) refl e) p.front);
          slots = p.slots;
          lasts = λ k a b. p.lasts k (omega (arith, count-plain bytes T v (suc v) refl e)) b;
        }

    -- it is
    module _ (n : mark_at bytes T v ≡ 0 → ⊥) where
      abbrev k : ℕ
      k = T + final_count bytes T v

      abbrev put : List ℕ
      put = chained (nodes + 2) (links + slot_length * (T + final_count bytes T v)) (T + final_count bytes T v) (v + 1) (final_at bytes T v) part

      next-count : final_count bytes T (suc v) ≡ final_count bytes T v + 1
      next-count = count-final bytes T v (suc v) refl n

      k-in : k < T + final_count bytes T N
      k-in = omega (arith, next-count, count-mono bytes T (suc v) N h)

      low : nodes + slot_length * (0 + 1) ≤ links
      low = omega arith

      roomy : links + slot_length * k + 8 ≤ length part
      roomy = omega (arith, k-in, p.room)

      at_front : nodes + 2 ≡ nodes + slot_length * 0 + 2
      at_front = omega arith

      spares : (i : ℕ) → (i ≡ nodes + slot_length * 0 + 2 → ⊥) → (i ≡ links + slot_length * k → ⊥) → (i ≡ links + slot_length * k + 1 → ⊥) → (i ≡ links + slot_length * k + 2 → ⊥) → get_or put i 0 ≡ get_or part i 0
      spares = front-spared nodes links 0 k (v + 1) (final_at bytes T v) part low roomy (nodes + 2) at_front

      of-links : Same links T 0 part put
      of-links = record {
        next = λ j a b. spares (links + slot_length * j) (λ e. omega arith) (λ e. omega arith) (λ e. omega arith) (λ e. omega arith);
        weight = λ j a b. spares (links + slot_length * j + 1) (λ e. omega arith) (λ e. omega arith) (λ e. omega arith) (λ e. omega arith);
        chain = λ j a b. spares (links + slot_length * j + 2) (λ e. omega arith) (λ e. omega arith) (λ e. omega arith) (λ e. omega arith);
      }

      of-later : Same links (T + F) (suc k) part put
      of-later = record {
        next = λ j a b. spares (links + slot_length * j) (λ e. omega arith) (λ e. omega arith) (λ e. omega arith) (λ e. omega arith);
        weight = λ j a b. spares (links + slot_length * j + 1) (λ e. omega arith) (λ e. omega arith) (λ e. omega arith) (λ e. omega arith);
        chain = λ j a b. spares (links + slot_length * j + 2) (λ e. omega arith) (λ e. omega arith) (λ e. omega arith) (λ e. omega arith);
      }

      to-final : back_of (unit_in m) put links T k ≡ record { input = none; weight = weight_of (unit_in m) (final_at bytes T v); next = suc v }
      to-final =
          let to : next_word put links k ≡ suc v = front-next nodes links 0 k (v + 1) (final_at bytes T v) part low roomy (nodes + 2) at_front ∙ omega arith in
          let at : weight_word put links k ≡ final_at bytes T v = front-weight nodes links 0 k (v + 1) (final_at bytes T v) part low roomy (nodes + 2) at_front in
          λ i. record { input = cond (le-ltb k T (omega arith) i) (some k) none; weight = weight_of (unit_in m) (at i); next = to i }

      -- the slots after it are as they were, and its own is filled
      lasts_after : (j : ℕ) → k ≤ j → j < T + final_count bytes T N → Filled (unit_in m) links T (T + final_count bytes T N) N put j
      lasts_after j a b = elim (ℕ_discrete j k) [
        | yes e ↦
            let after : T + final_count bytes T (suc v) ≡ suc k = omega (arith, next-count) in
            let start = lists-first (unit_in m) links T (T + F) part (suc k) (head_word part nodes 0) (out_of_zero (drop (suc v) m.finals) (suc v)) (subst (λ (c : ℕ). Lists (unit_in m) links T (T + F) part c (head_word part nodes 0) (out_of_zero (drop (suc v) m.finals) (suc v))) after p.front) in
            subst (λ (i : ℕ). Filled (unit_in m) links T (T + F) N put i) (sym e)
            (filled-by (unit_in m) links T (T + F) N put k (head_word part nodes 0) (v + 1) (final_at bytes T v)
            (front-chain nodes links 0 k (v + 1) (final_at bytes T v) part low roomy (nodes + 2) at_front)
            (front-next nodes links 0 k (v + 1) (final_at bytes T v) part low roomy (nodes + 2) at_front)
            (front-weight nodes links 0 k (v + 1) (final_at bytes T v) part low roomy (nodes + 2) at_front)
            start (omega arith) (omega (arith, h)) (s.final_value v h n))
        | no o ↦ filled-kept (unit_in m) links T (T + F) N (suc k) part put of-later j (omega arith) b (p.lasts j (omega (arith, next-count)) b)
      ]

      final-ended : Ended v put
      unfolding out_of_zero
      final-ended =
          let o : final m v ≡ some (weight_of (unit_in m) (final_at bytes T v)) = s.final-at v h ∙ ap (λ (t : Bool). cond t none (some (weight_of (unit_in m) (final_at bytes T v)))) (ne_eqb (mark_at bytes T v) 0 n) in
          let rest = out_of_zero (drop (suc v) m.finals) (suc v) in
          let head : head_word put nodes 0 ≡ k = front-head nodes links 0 k (v + 1) (final_at bytes T v) part low roomy (nodes + 2) at_front in
          let chain : chain_word put links k ≡ head_word part nodes 0 = front-chain nodes links 0 k (v + 1) (final_at bytes T v) part low roomy (nodes + 2) at_front in
          let after : T + final_count bytes T (suc v) ≡ suc k = omega (arith, next-count) in
          let tail = lists-kept (unit_in m) links T (T + F) part put (suc k) (head_word part nodes 0) rest of-later (subst (λ (c : ℕ). Lists (unit_in m) links T (T + F) part c (head_word part nodes 0) rest) after p.front) in
          record {
            room = subst (λ (j : ℕ). links + slot_length * (T + F) ≤ j) (sym (front-size nodes links 0 k (v + 1) (final_at bytes T v) part low roomy (nodes + 2) at_front)) p.room;
            chains = λ u b.
                subst (λ (j : ℕ). Lists (unit_in m) links T T put 0 j (links_into u m.links 0)) (sym (spares (nodes + slot_length * suc u + 2) (λ e. omega arith) (λ e. omega arith) (λ e. omega arith) (λ e. omega arith)))
                (lists-kept (unit_in m) links T T part put 0 (head_word part nodes (suc u)) (links_into u m.links 0) of-links (p.chains u b));
            front = subst (λ bs. Lists (unit_in m) links T (T + F) put k (head_word put nodes 0) bs) (sym (zero-next m v (some (weight_of (unit_in m) (final_at bytes T v))) in-finals o))
                (subst (λ (j : ℕ). Lists (unit_in m) links T (T + F) put k j (record { input = none; weight = weight_of (unit_in m) (final_at bytes T v); next = suc v } ∷ rest)) (sym head)
                (le_refl k, k-in, to-final, subst (λ (j : ℕ). Lists (unit_in m) links T (T + F) put (suc k) j rest) (sym chain) tail));
            slots = λ j b. filled-kept (unit_in m) links T T N 0 part put of-links j (omega arith) b (p.slots j b);
            lasts = lasts_after;
          }

    node-ended : Ended v (final_put bytes nodes links T v part)
    node-ended = go (eqb (mark_at bytes T v) 0) refl
      where
        go : (b : Bool) → eqb (mark_at bytes T v) 0 ≡ b → Ended v (cond b part (chained (nodes + 2) (links + slot_length * (T + final_count bytes T v)) (T + final_count bytes T v) (v + 1) (final_at bytes T v) part))
        go true e = plain-ended (eqb-true (mark_at bytes T v) 0 e)
        go false e = final-ended (eqb-false (mark_at bytes T v) 0 e)

  nodes-ended : (v : ℕ) → v ≤ N → (part : List ℕ) → Ended v part → Ended 0 (finals_reversed bytes nodes links T v part)
  unfolding finals_reversed
  nodes-ended zero h part p = p
  nodes-ended (suc v) h part p = nodes-ended v (omega arith) (final_put bytes nodes links T v part) (node-ended v h part p)

  pub finals-reversed : (part : List ℕ) → links + slot_length * (T + final_count bytes T N) ≤ length part → Passed 0 part → Ended 0 (finals_reversed bytes nodes links T N part)
  finals-reversed part room p =
      nodes-ended N (le_refl N) part
      (record {
        room = room;
        chains = p.chains;
        front = subst (λ bs. Lists (unit_in m) links T (T + F) part (T + F) (head_word part nodes 0) bs) (sym (zero-none m N (omega (arith, s.nodes-are)))) p.front;
        slots = λ k b. p.slots k (omega arith) b;
        lasts = λ k a b. absurd (omega arith);
      })
