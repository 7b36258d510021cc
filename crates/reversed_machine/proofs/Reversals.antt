-- The part after the reversal of an accepted sheet: the reversed machine lies in the slots, and what lies beside them is as it was. Assumes nothing.
use mathlib.Core.Path.{◌≡◌, sym, ap, ◌∙◌, subst}
use mathlib.Core.Logic.{◌⊎◌, inl, inr}
use mathlib.Core.List.{List, map}
use Prim.Native.Nat.{ℕ, zero, suc, ◌+◌, ◌-◌, ◌*◌, ◌≤◌, ◌<◌, min}
use native.Mathlib.Nat.{le_refl}
use native.Mathlib.Omega.{arith}
use lib.ListN.{length, get_or, take, drop, length-take, length-drop}
use lib.Seq.{get_or-take, get_or-drop, ext_get_or}
use Rattle.sheet.specs.Sheet.{parts_of}
use Rattle.sheet.specs.declared.tr.Trailer.{Trailer}
use Rattle.sheet.specs.Records.{trailer_at}
use Rattle.sheet.specs.Machine.{Machine, unit_in, machine_of}
use Rattle.sheet.proofs.Below.{split_at}
use Rattle.sheet.proofs.Forms.{covered}
use Rattle.machine.specs.Distance.{distance}
use Rattle.distance.specs.Held.{Distance}
use Rattle.distance.specs.Held.{held, distance_in, with_distance}
use Rattle.distance.proofs.Words.{same-words, put_back, put_word, put_other, put-length}
use Rattle.machine.specs.Input.{input_number}
use Rattle.search.specs.Reversed.{out_of, distance_to}
use Rattle.slots.specs.Slots.{slot_length, nothing}
use Rattle.search_slots.specs.Slots.{head_word, visits_word, chain_word}
use Rattle.machine.specs.Finals.{final_count}
use Rattle.reversed_machine.specs.ReverseWords.{heads_cleared, links_reversed, finals_reversed, least_distance, chains_put, reversed_words, chain_of, back_of}
use Rattle.reversed_machine.specs.Laid.{back_count, Measured, Laid, Reversal}
use Rattle.machine.proofs.FinalCount.{count_none, count_most}
use Rattle.machine.proofs.SheetFields.{SheetFields, sheet-fields, fields-own, finals-counted}
use Rattle.reversed_machine.proofs.Fronts.{Lists, Same, lists-lower, lists-kept, lists_length, lists-read, lists-first, Filled, filled-kept}
use Rattle.reversed_machine.proofs.Chains.{Passed, Ended, links-reversed, finals-reversed}
use Rattle.reversed_machine.proofs.Untouched.{cleared-size, cleared-spared, cleared-words, Free, reversed-size, finals-size, reversed-free, finals-free}
use Rattle.reversed_machine.proofs.Totals.{least-held}

-- ---- after the passes, by the machine's own numbers
module _ (bytes : List ℕ) (e : input_number bytes ≡ 0) (nodes links : ℕ) (part : List ℕ) where
  abbrev m : Machine
  m = machine_of (parts_of bytes)

  abbrev T : ℕ
  T = length (machine_of (parts_of bytes)).links

  abbrev N : ℕ
  N = length (machine_of (parts_of bytes)).finals

  abbrev s : SheetFields bytes (length (machine_of (parts_of bytes)).links) (length (machine_of (parts_of bytes)).finals) (machine_of (parts_of bytes))
  s = fields-own bytes e

  whole : T + final_count bytes T N ≡ back_count (machine_of (parts_of bytes))
  whole = ap (λ (n : ℕ). T + n) (finals-counted s)

  few-links : back_count (machine_of (parts_of bytes)) < nothing
  few-links = omega (arith, sym whole, count_most bytes T N, s.few-nodes, s.few-links)

  module _ (apart : nodes + slot_length * (N + 1) ≤ links) (room : links + slot_length * back_count (machine_of (parts_of bytes)) ≤ length part) (measured : Measured (machine_of (parts_of bytes)) nodes part) where
    abbrev heads : List ℕ
    heads = heads_cleared nodes (N + 1) part

    abbrev half : List ℕ
    half = links_reversed bytes nodes links T N heads

    abbrev put : List ℕ
    put = finals_reversed bytes nodes links T N half

    abbrev least : Distance
    least = least_distance bytes nodes T N put

    abbrev new : List ℕ
    new = with_distance put nodes least

    put-size : length put ≡ length part
    put-size = finals-size bytes nodes links T N half ∙ reversed-size bytes nodes links T N heads ∙ cleared-size nodes part (N + 1)

    passed : Passed bytes T N m s nodes links apart 0 half
    passed =
        links-reversed bytes T N m s nodes links apart heads (omega (arith, cleared-size nodes part (N + 1)))
        (λ q h. (cleared-words nodes part (N + 1) q (omega arith) (omega arith)).0)

    ended : Ended bytes T N m s nodes links apart 0 put
    ended = finals-reversed bytes T N m s nodes links apart half (omega (arith, whole, reversed-size bytes nodes links T N heads, cleared-size nodes part (N + 1))) passed

    -- ---- words that are no head and no link's
    put-free : (i : ℕ) → Free nodes links N (back_count m) i → get_or put i 0 ≡ get_or heads i 0
    put-free i f = finals-free bytes nodes links T N m s (back_count m) whole N (le_refl N) half i f ∙ reversed-free bytes nodes links T N m s (back_count m) whole N (le_refl N) heads i f

    -- any word but the two of node 0's distance, and the head and the visits of each node
    kept : (i : ℕ) → Free nodes links N (back_count m) i → ((q : ℕ) → q ≤ N → i ≡ nodes + slot_length * q + 3 → ⊥) → (i ≡ nodes → ⊥) → (i ≡ nodes + 1 → ⊥) → get_or new i 0 ≡ get_or part i 0
    kept i f v n o =
        put_word put nodes least i n o
        ∙ put-free i f
        ∙ cleared-spared nodes part (N + 1) i (λ q h. f.0 q (omega arith)) (λ q h. v q (omega arith))

    -- word j of an old node's slot, one of its distance
    distance-free : (v j i : ℕ) → v < N → j < 2 → i ≡ nodes + slot_length * (v + 1) + j → get_or put i 0 ≡ get_or part i 0
    distance-free v j i h b at =
        put-free i (λ q c z. omega arith, inl (omega arith))
        ∙ cleared-spared nodes part (N + 1) i (λ q c z. omega arith) (λ q c z. omega arith)

    put-measured : (v : ℕ) → v < N → distance_in put (nodes + slot_length * (v + 1)) ≡ held (unit_in m) (distance m v)
    put-measured v h =
        let at = nodes + slot_length * (v + 1) in
        same-words put part at at (distance-free v 0 at h (omega arith) (omega arith)) (distance-free v 1 (at + 1) h (omega arith) (omega arith))
        ∙ measured v h

    least-is : least ≡ held (unit_in m) (distance_to m 0)
    least-is =
        least-held m s.climbs s.small s.few-nodes bytes T N s nodes put put-measured

    distances : (q : ℕ) → q ≤ N → distance_in new (nodes + slot_length * q) ≡ held (unit_in m) (distance_to m q)
    distances zero h =
        ap (distance_in new) (let z : nodes + slot_length * 0 ≡ nodes = omega arith in z)
        ∙ ap (λ (d : Distance). distance_in (with_distance put nodes d) nodes) least-is
        ∙ put_back put nodes (unit_in m) (covered m.form) (distance_to m 0) (omega (arith, put-size))
    distances (suc v) h =
        put_other put nodes least (nodes + slot_length * suc v) (λ z. omega arith) (λ z. omega arith) (λ z. omega arith)
        ∙ ap (λ (q : ℕ). distance_in put (nodes + slot_length * q)) (let z : suc v ≡ v + 1 = omega arith in z) ∙ put-measured v h

    -- ---- the last store leaves links and heads
    stored : (top : ℕ) → Same links top 0 put new
    stored top = record {
      next = λ k a b. put_word put nodes least (links + slot_length * k) (λ z. omega arith) (λ z. omega arith);
      weight = λ k a b. put_word put nodes least (links + slot_length * k + 1) (λ z. omega arith) (λ z. omega arith);
      chain = λ k a b. put_word put nodes least (links + slot_length * k + 2) (λ z. omega arith) (λ z. omega arith);
    }

    head-same : (q : ℕ) → head_word new nodes q ≡ head_word put nodes q
    head-same q = put_word put nodes least (nodes + slot_length * q + 2) (λ z. omega arith) (λ z. omega arith)

    front_lists : Lists (unit_in m) links T (T + final_count bytes T N) new 0 (head_word new nodes 0) (out_of m 0)
    front_lists =
        subst (λ (k : ℕ). Lists (unit_in m) links T (T + final_count bytes T N) new 0 k (out_of m 0)) (sym (head-same 0))
        (lists-kept (unit_in m) links T (T + final_count bytes T N) put new 0 (head_word put nodes 0) (out_of m 0) (stored (T + final_count bytes T N))
        (lists-lower (unit_in m) links T (T + final_count bytes T N) put (T + final_count bytes T 0) 0 (head_word put nodes 0) (out_of m 0) (omega arith) ended.front))

    chain-lists : (v : ℕ) → v < N → Lists (unit_in m) links T T new 0 (head_word new nodes (suc v)) (out_of m (suc v))
    chain-lists v h =
        subst (λ (k : ℕ). Lists (unit_in m) links T T new 0 k (out_of m (suc v))) (sym (head-same (suc v)))
        (lists-kept (unit_in m) links T T put new 0 (head_word put nodes (suc v)) (out_of m (suc v)) (stored T) (ended.chains v h))

    out : (q : ℕ) → q ≤ N → (n : ℕ) → back_count m ≤ n → map (back_of (unit_in m) new links T) (chain_of new links (head_word new nodes q) n) ≡ out_of m q
    out zero h n b =
        lists-read (unit_in m) links T (T + final_count bytes T N) (omega (arith, whole, few-links)) new 0 (head_word new nodes 0) (out_of m 0) n
        (omega (arith, whole, lists_length (unit_in m) links T (T + final_count bytes T N) new 0 (head_word new nodes 0) (out_of m 0) front_lists)) front_lists
    out (suc v) h n b =
        lists-read (unit_in m) links T T (omega (arith, whole, few-links)) new 0 (head_word new nodes (suc v)) (out_of m (suc v)) n
        (omega (arith, lists_length (unit_in m) links T T new 0 (head_word new nodes (suc v)) (out_of m (suc v)) (chain-lists v h))) (chain-lists v h)

    begins : (q : ℕ) → q ≤ N → (head_word new nodes q ≡ nothing) ⊎ (head_word new nodes q < back_count m)
    begins zero h = go (lists-first (unit_in m) links T (T + final_count bytes T N) new 0 (head_word new nodes 0) (out_of m 0) front_lists)
      where
        go : (head_word new nodes 0 ≡ nothing) ⊎ ((0 ≤ head_word new nodes 0) × (head_word new nodes 0 < T + final_count bytes T N)) → (head_word new nodes 0 ≡ nothing) ⊎ (head_word new nodes 0 < back_count m)
        go (inl z) = inl z
        go (inr z) = inr (omega (arith, whole, z.1))
    begins (suc v) h = go (lists-first (unit_in m) links T T new 0 (head_word new nodes (suc v)) (out_of m (suc v)) (chain-lists v h))
      where
        go : (head_word new nodes (suc v) ≡ nothing) ⊎ ((0 ≤ head_word new nodes (suc v)) × (head_word new nodes (suc v) < T)) → (head_word new nodes (suc v) ≡ nothing) ⊎ (head_word new nodes (suc v) < back_count m)
        go (inl z) = inl z
        go (inr z) = inr (omega (arith, z.1))

    filled : (k : ℕ) → k < back_count m → Filled (unit_in m) links T (back_count m) N new k
    filled k h = go (split_at k T)
      where
        wider : Filled (unit_in m) links T T N put k → Filled (unit_in m) links T (back_count m) N put k
        wider f = record { rises = up f.rises; inside = f.inside; valued = f.valued }
          where
            up : (chain_word put links k ≡ nothing) ⊎ ((k < chain_word put links k) × (chain_word put links k < T)) → (chain_word put links k ≡ nothing) ⊎ ((k < chain_word put links k) × (chain_word put links k < back_count m))
            up (inl z) = inl z
            up (inr z) = inr (z.0, omega (arith, z.1))

        go : (k < T) ⊎ (T ≤ k) → Filled (unit_in m) links T (back_count m) N new k
        go (inl b) = filled-kept (unit_in m) links T (back_count m) N 0 put new (stored (back_count m)) k (omega arith) h (wider (ended.slots k b))
        go (inr b) =
            filled-kept (unit_in m) links T (back_count m) N 0 put new (stored (back_count m)) k (omega arith) h
            (subst (λ (top : ℕ). Filled (unit_in m) links T top N put k) whole (ended.lasts k (omega (arith, count_none bytes T)) (omega (arith, whole))))

    new-size : length new ≡ length part
    new-size = put-length put nodes least ∙ put-size

    laid : Laid m nodes links new
    laid = record {
      apart = apart;
      room = omega (arith, new-size);
      few = few-links;
      heads = begins;
      rises = λ k h. (filled k h).rises;
      inside = λ k h. (filled k h).inside;
      valued = λ k h. (filled k h).valued;
      out = out;
      distances = distances;
    }

    fresh : (q : ℕ) → q ≤ N → visits_word new nodes q ≡ 0
    fresh q h =
        put_word put nodes least (nodes + slot_length * q + 3) (λ z. omega arith) (λ z. omega arith)
        ∙ put-free (nodes + slot_length * q + 3) (λ j b z. omega arith, inl (omega arith))
        ∙ (cleared-words nodes part (N + 1) q (omega arith) (omega arith)).1

    reversal-made : Reversal m nodes links part new
    reversal-made = record {
      laid = laid;
      fresh = fresh;
      size = new-size;
      before = ext_get_or 0 (take nodes new) (take nodes part) (length-take nodes new ∙ ap (min nodes) new-size ∙ sym (length-take nodes part)) (λ i h. early i (omega (arith, length-take nodes new)));
      beyond = ext_get_or 0 (drop end new) (drop end part) (length-drop end new ∙ ap (λ (n : ℕ). n - end) new-size ∙ sym (length-drop end part)) (λ i h. late i);
    }
      where
        end : ℕ
        end = links + slot_length * back_count m

        early : (i : ℕ) → i < nodes → get_or (take nodes new) i 0 ≡ get_or (take nodes part) i 0
        early i h = get_or-take nodes new i 0 h ∙ kept i (λ q b z. omega arith, inl (omega arith)) (λ q b z. omega arith) (λ z. omega arith) (λ z. omega arith) ∙ sym (get_or-take nodes part i 0 h)

        late : (i : ℕ) → get_or (drop end new) i 0 ≡ get_or (drop end part) i 0
        late i = get_or-drop end new i 0 ∙ kept (end + i) (λ q b z. omega arith, inr (omega arith)) (λ q b z. omega arith) (λ z. omega arith) (λ z. omega arith) ∙ sym (get_or-drop end part i 0)

-- ---- as the code is asked, by the trailer that reading found
pub reversal : (bytes : List ℕ) → input_number bytes ≡ 0 → (t : Trailer) → t ≡ trailer_at bytes → (finals nodes links : ℕ) (part : List ℕ) → finals ≡ final_count bytes t.links t.nodes
    → nodes + slot_length * (t.nodes + 1) ≤ links → links + slot_length * (t.links + finals) ≤ length part → Measured (machine_of (parts_of bytes)) nodes part
    → Reversal (machine_of (parts_of bytes)) nodes links part (reversed_words bytes nodes links t.nodes t.links part)
unfolding reversed_words chains_put
reversal bytes e t same finals nodes links part f apart room measured =
    let m = machine_of (parts_of bytes) in
    let N : t.nodes ≡ length m.finals = ap (λ (t : Trailer). t.nodes) same ∙ sym (sheet-fields bytes e).nodes-are in
    let T : t.links ≡ length m.links = ap (λ (t : Trailer). t.links) same ∙ sym (sheet-fields bytes e).links-are in
    let all : t.links + finals ≡ back_count m = (λ i. T i + (f ∙ λ j. final_count bytes (T j) (N j)) i) ∙ whole bytes e nodes links part in
    subst (λ (n : ℕ). Reversal m nodes links part (reversed_words bytes nodes links n t.links part)) (sym N)
    (subst (λ (n : ℕ). Reversal m nodes links part (reversed_words bytes nodes links (length m.finals) n part)) (sym T)
    (reversal-made bytes e nodes links part (subst (λ (n : ℕ). nodes + slot_length * (n + 1) ≤ links) N apart) (subst (λ (n : ℕ). links + slot_length * n ≤ length part) all room) measured))
