-- Distances and parents made from an accepted sheet, with a start and without. Assumes nothing.
use mathlib.Core.Path.{◌≡◌, refl, sym, ap, ◌∙◌, subst}
use mathlib.Core.Bool.{Bool, true, false, ◌||◌, cond}
use mathlib.Core.Option.{none, some}
use mathlib.Core.List.{List}
use Prim.Native.Nat.{ℕ, ◌+◌, ◌*◌, ◌≤◌, ◌<◌}
use native.Mathlib.Nat.{le_of_eq}
use native.Mathlib.Omega.{arith}
use lib.Dec.{ltb, eqb}
use lib.ListN.{length, drop}
use borrow.Author.Tests.{le-ltb, ltb-false, ne_eqb}
use Rattle.std.specs.Prelude.{Some, None}
use Rattle.tropical_weight.specs.Limits.{node_limit}
use Rattle.tropical_weight.specs.Tropical.{inf}
use Rattle.sheet.specs.Below.{sum_below}
use Rattle.sheet.specs.Words.{word}
use Rattle.sheet.specs.declared.tr.Trailer.{Trailer}
use Rattle.sheet.specs.Records.{trailer_at, count_at}
use Rattle.sheet.specs.Accepted.{start_in}
use Rattle.sheet.specs.Sheet.{link_length, node_length, parts_of, no_start, node_count, trailer_field, stated_links, stated_nodes}
use Rattle.sheet.specs.Machine.{unit_in, machine_of, machine}
use Rattle.sheet.proofs.Fields.{read-fields}
use Rattle.sheet.proofs.Sources.{machine-nodes}
use Rattle.machine.specs.Distance.{distance_of, dist, is_reached}
use Rattle.machine.specs.Input.{input_number}
use Rattle.machine.proofs.Accepted.{passes, input-read, next-at, few-nodes}
use Rattle.machine.proofs.Testing.{in-sheet, counts-total}
use Rattle.machine.proofs.SheetFields.{sheet-fields, fields-nodes}
use Rattle.machine.proofs.Reached.{reached-none, unreached-inf}
use Rattle.machine.proofs.Parents.{parent-none}
use Rattle.state_order_queue.specs.declared.Queue.{Queue}
use Rattle.state_order_queue.specs.Queues.{emptied, enqueued}
use Rattle.distance.specs.Held.{held, with_distance}
use Rattle.shortest_distance.specs.ParentWords.{parent_from}
use Rattle.shortest_distance.specs.NodeSlots.{prepared}
use Rattle.shortest_distance.specs.Relaxation.{State, relax_heads}
use Rattle.shortest_distance.specs.Sound.{Sound, Made}
use Rattle.shortest_distance.proofs.Areas.{length-prepared, prepared-words, prepared-beyond}
use Rattle.shortest_distance.proofs.Rows.{Holds, Final, heads}
use Rattle.shortest_distance.proofs.Starts.{zero-cost, begun-holds}
use Rattle.shortest_distance.proofs.Kept.{put-kept, store_kept}
use Rattle.state_order_queue.proofs.Sets.{emptied-full, emptied-valid, emptied-empty, empty-exactly}
use Rattle.sheet.proofs.Apart.{not-both}

-- where the start is no node
pub start-absent : (nodes start : ℕ) → start_in nodes start ≡ None → nodes ≤ start
start-absent nodes start = go (ltb start nodes) refl
  where
    go : (b : Bool) → ltb start nodes ≡ b → cond b (Some start) None ≡ None → nodes ≤ start
    go true q e = absurd (cc)
    go false q e = omega (arith, ltb-false start nodes q)

module _ (bytes old : List ℕ) (e : input_number bytes ≡ 0) (room : 8 * stated_nodes bytes ≤ length old) where
  few : stated_nodes bytes ≤ node_limit
  few = subst (λ (n : ℕ). n ≤ node_limit) (read-fields bytes).nodes-are (few-nodes (parts_of bytes) (passes bytes e))

  -- what setting up asks of a sheet
  laid_out : link_length * stated_links bytes + node_length * stated_nodes bytes ≤ length bytes
  laid_out = in-sheet bytes (input-read bytes e).0

  counted : sum_below (stated_nodes bytes) (count_at bytes (stated_links bytes)) ≤ stated_links bytes
  counted = le_of_eq (counts-total bytes (input-read bytes e).0)

  -- ---- without a start: no node is reached
  module _ (h : stated_nodes bytes ≤ trailer_field bytes 4) where
    no_start_lem : (machine bytes).start ≡ none
    unfolding machine_of parts_of
    no_start_lem =
        let short : node_count (parts_of bytes) ≤ trailer_field bytes 4 = subst (λ (n : ℕ). n ≤ trailer_field bytes 4) (sym (read-fields bytes).nodes-are) h in
        let sure : eqb (trailer_field bytes 4) no_start ≡ true = ap (λ (b : Bool). b || eqb (trailer_field bytes 4) no_start) (sym (le-ltb (trailer_field bytes 4) (node_count (parts_of bytes)) short)) ∙ (passes bytes e).start_fits_lem in
        ap (λ (b : Bool). cond b none (some (trailer_field bytes 4))) sure

    unreached : (v : ℕ) → is_reached (machine bytes) v ≡ false
    unreached v = go (is_reached (machine bytes) v) refl
      where
        go : (b : Bool) → is_reached (machine bytes) v ≡ b → b ≡ false
        go true q = absurd (reached-none (machine bytes) (fields-nodes bytes e).climbs v no_start_lem q)
        go false q = refl

    infinite : (v : ℕ) → dist (machine bytes) v ≡ inf
    infinite v = unreached-inf (machine bytes) v (unreached v)

    made_none : Made bytes old (prepared bytes (stated_links bytes) (stated_nodes bytes) old)
    made_none = record {
      each = λ v b.
          (prepared-words bytes (stated_links bytes) (stated_nodes bytes) old v (subst (λ (n : ℕ). v < n) (read-fields bytes).nodes-are b) room).0
          ∙ sym (ap (λ w. held (unit_in (machine bytes)) (distance_of w)) (infinite v));
      parents = λ v b.
          (prepared-words bytes (stated_links bytes) (stated_nodes bytes) old v (subst (λ (n : ℕ). v < n) (read-fields bytes).nodes-are b) room).1
          ∙ sym (ap (parent_from (machine bytes)) (parent-none (machine bytes) v (infinite v)));
      size = length-prepared bytes (stated_links bytes) (stated_nodes bytes) old;
      beyond = ap (λ (n : ℕ). drop (8 * n) (prepared bytes (stated_links bytes) (stated_nodes bytes) old)) (read-fields bytes).nodes-are ∙ prepared-beyond bytes (stated_links bytes) (stated_nodes bytes) old ∙ sym (ap (λ (n : ℕ). drop (8 * n) old) (read-fields bytes).nodes-are);
    }

  -- ---- with a start: the heads are relaxed from it
  module _ (s : ℕ) (same : trailer_field bytes 4 ≡ s) (h : s < stated_nodes bytes) where
    a-start : (machine bytes).start ≡ some s
    unfolding machine_of parts_of
    a-start = ap (λ (k : ℕ). cond (eqb k no_start) none (some k)) same ∙ ap (λ (b : Bool). cond b none (some s)) (ne_eqb s no_start (λ q. omega (arith, few)))

    in-nodes : s < length (machine bytes).finals
    in-nodes = subst (λ (n : ℕ). s < n) (sym (sheet-fields bytes e).nodes-are) h

    slots : 8 * length (machine bytes).finals ≤ length old
    slots = subst (λ (n : ℕ). 8 * n ≤ length old) (sym (sheet-fields bytes e).nodes-are) room

    abbrev first-state : State
    first-state = record { work = with_distance (prepared bytes (stated_links bytes) (stated_nodes bytes) old) (8 * s) (held (unit_in (machine bytes)) zero-cost); queue = enqueued emptied s }

    none_before : sum_below 0 (count_at bytes (stated_links bytes)) ≡ 0
    none_before = unfold sum_below in refl

    -- the slots set up, and a new queue
    set-up : Sound bytes (stated_links bytes) (stated_nodes bytes) (prepared bytes (stated_links bytes) (stated_nodes bytes) old) emptied
    set-up = record {
      laid_out = laid_out;
      slots = subst (λ (n : ℕ). 8 * stated_nodes bytes ≤ n) (sym (length-prepared bytes (stated_links bytes) (stated_nodes bytes) old)) room;
      few = few;
      counted = counted;
      inside = λ l b. subst (λ (n : ℕ). word bytes (link_length * l + 12) < n) (read-fields bytes).nodes-are (subst (λ (n : ℕ). n < node_count (parts_of bytes)) ((read-fields bytes).next-is l b) (next-at (parts_of bytes) (passes bytes e) l (subst (λ (n : ℕ). l < n) (sym (read-fields bytes).links-are) b)));
      firsts = λ v b. (prepared-words bytes (stated_links bytes) (stated_nodes bytes) old v b room).2;
      full = emptied-full;
      valid = emptied-valid;
      held = λ v q. absurd (not-both q ((empty-exactly emptied emptied-full emptied-valid).0 emptied-empty v));
    }

    sound : Sound bytes (stated_links bytes) (stated_nodes bytes) first-state.work first-state.queue
    sound =
        let area = prepared bytes (stated_links bytes) (stated_nodes bytes) old in
        store_kept bytes (stated_links bytes) (stated_nodes bytes) area (enqueued emptied s) s (held (unit_in (machine bytes)) zero-cost) (put-kept bytes (stated_links bytes) (stated_nodes bytes) area emptied s h set-up)

    abbrev begun-at : ℕ → State
    begun-at n = record { work = with_distance (prepared bytes (stated_links bytes) n old) (8 * s) (held (unit_in (machine bytes)) zero-cost); queue = enqueued emptied s }

    begun : Holds bytes (stated_links bytes) (machine bytes) (fields-nodes bytes e) old 0 0 first-state
    begun =
        subst (λ (n : ℕ). Holds bytes (stated_links bytes) (machine bytes) (fields-nodes bytes e) old 0 0 (begun-at n)) (sheet-fields bytes e).nodes-are
        (begun-holds bytes (stated_links bytes) (machine bytes) (fields-nodes bytes e) old s a-start in-nodes slots
        (subst (λ (n : ℕ). Sound bytes (stated_links bytes) n (begun-at n).work (begun-at n).queue) (sym (sheet-fields bytes e).nodes-are) sound))

    made_some : Made bytes old (relax_heads bytes (stated_links bytes) (stated_nodes bytes) first-state).work
    made_some =
        let all : Final bytes (stated_links bytes) (machine bytes) (fields-nodes bytes e) old (relax_heads bytes (stated_links bytes) (stated_nodes bytes) first-state) =
        heads bytes (stated_links bytes) (machine bytes) (fields-nodes bytes e) old (stated_nodes bytes) 0 first-state (omega arith) (omega (arith, (sheet-fields bytes e).nodes-are)) (subst (λ (l : ℕ). Holds bytes (stated_links bytes) (machine bytes) (fields-nodes bytes e) old l 0 first-state) (sym none_before) begun) in
        record {
          each = λ v b. all.distances v (subst (λ (n : ℕ). v < n) (sym (machine-nodes (parts_of bytes))) b);
          parents = λ v b. all.parents v (subst (λ (n : ℕ). v < n) (sym (machine-nodes (parts_of bytes))) b);
          size = all.size;
          beyond = ap (λ (n : ℕ). drop (8 * n) (relax_heads bytes (stated_links bytes) (stated_nodes bytes) first-state).work) (sym (machine-nodes (parts_of bytes))) ∙ all.beyond ∙ ap (λ (n : ℕ). drop (8 * n) old) (machine-nodes (parts_of bytes));
        }

-- ---- as the code goes, by the fields of the trailer that reading found
module _ (bytes old : List ℕ) (e : input_number bytes ≡ 0) (t : Trailer) (same : t ≡ trailer_at bytes) (room : 8 * t.nodes ≤ length old) where
  fits : 8 * stated_nodes bytes ≤ length old
  fits = subst (λ (t : Trailer). 8 * t.nodes ≤ length old) same room

  module _ (area : List ℕ) (set-up : area ≡ prepared bytes t.links t.nodes old) where
    pub made-without : t.nodes ≤ t.start → Made bytes old area
    made-without h = subst (λ (x : List ℕ). Made bytes old x) (sym set-up) (subst (λ (t : Trailer). t.nodes ≤ t.start → Made bytes old (prepared bytes t.links t.nodes old)) (sym same) (made_none bytes old e fits) h)

    module _ (h : t.start < t.nodes) where
      pub start-low : t.start < node_limit
      start-low = subst (λ (t : Trailer). t.start < t.nodes → t.start < node_limit) (sym same) (λ k. omega (arith, few bytes old e fits)) h

      module _ (work : List ℕ) (named : work ≡ with_distance area (8 * t.start) (held (unit_in (machine bytes)) zero-cost)) (q : Queue) (begun-with : q ≡ enqueued emptied t.start) where
        abbrev begun-by : Trailer → State
        begun-by t = record { work = with_distance (prepared bytes t.links t.nodes old) (8 * t.start) (held (unit_in (machine bytes)) zero-cost); queue = enqueued emptied t.start }

        state-is : begun-by t ≡ record { work = work; queue = q }
        state-is = λ i. record { work = sym (named ∙ ap (λ (x : List ℕ). with_distance x (8 * t.start) (held (unit_in (machine bytes)) zero-cost)) set-up) i; queue = sym begun-with i }

        pub sound-start : Sound bytes t.links t.nodes work q
        sound-start =
            subst (λ (s : State). Sound bytes t.links t.nodes s.work s.queue) state-is
            (subst (λ (t : Trailer). t.start < t.nodes → Sound bytes t.links t.nodes (begun-by t).work (begun-by t).queue) (sym same) (sound bytes old e fits (trailer_field bytes 4) refl) h)

        pub made-from : Made bytes old (relax_heads bytes t.links t.nodes (record { work = work; queue = q })).work
        made-from =
            subst (λ (s : State). Made bytes old (relax_heads bytes t.links t.nodes s).work) state-is
            (subst (λ (t : Trailer). t.start < t.nodes → Made bytes old (relax_heads bytes t.links t.nodes (begun-by t)).work) (sym same) (made_some bytes old e fits (trailer_field bytes 4) refl) h)
